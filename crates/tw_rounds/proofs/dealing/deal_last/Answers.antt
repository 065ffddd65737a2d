use Rattle.std.proofs.Common.{◌≡◌, ◌-◌, Some, length, slice_get, take, ap, sym, ◌∙◌, subst, arith}
use Rattle.std.specs.Option.{option_copied}
use Rattle.tw_process.specs.Behaviour.{simulation_of}
use Rattle.tw_rounds.proofs.Lists.{last_is}
use Rattle.tw_rounds.proofs.Stages.{kept_ruled, receiver_there, still_ruled}
use Rattle.tw_rounds.specs.Ruled.{AreRuled}
use Rattle.tw_rounds.proofs.dealing.deal_last.Goals as goal

pub keep_at-requires : goal.keep_at-requires
keep_at-requires g c =
    let sim = λ (model : g.row.M.Denot). simulation_of g.M.Event.Timed.parts g.M.Event.Ord.cmp (g.M.ProcessModel.behaviour model) in
    let fs = c.args.flight.now.items in
    let s = c.in-Some.message.now in
    let at = subst (λ ys. slice_get ys (length ys - 1) ≡ Some s) c.deref.ensures.value (sym (sym (ap option_copied c.in-Some.is) ∙ c.last.ensures.value)) in
    let r = c.requires.ruled in
    let there = receiver_there (sim r.0) r.0 r.1 r.2 fs c.args.members.now r.3 (take (length fs - 1) fs) s (last_is fs s at) in
    omega (arith, c.dst-number.ensures)

pub returns-in_err-keep_at : goal.returns-in_err-keep_at
returns-in_err-keep_at g c = λ model stop bound ruled.
    let sim = λ (model : g.row.M.Denot). simulation_of g.M.Event.Timed.parts g.M.Event.Ord.cmp (g.M.ProcessModel.behaviour model) in
    let fs = c.args.flight.now.items in
    let s = c.in-Some.message.now in
    let at = subst (λ ys. slice_get ys (length ys - 1) ≡ Some s) c.deref.ensures.value (sym (sym (ap option_copied c.in-Some.is) ∙ c.last.ensures.value)) in
    let there = receiver_there (sim model) model stop bound fs c.args.members.now ruled (take (length fs - 1) fs) s (last_is fs s at) in
    still_ruled (sim model) model stop bound fs c.args.members.now ruled _ c.keep_at.new.members (omega (arith, c.dst-number.ensures)) c.in_err-keep_at.ensures.err

pub returns : goal.returns
returns g c = λ model stop bound ruled.
    let sim = λ (model : g.row.M.Denot). simulation_of g.M.Event.Timed.parts g.M.Event.Ord.cmp (g.M.ProcessModel.behaviour model) in
    let fs = c.args.flight.now.items in
    let s = c.in-Some.message.now in
    let at = subst (λ ys. slice_get ys (length ys - 1) ≡ Some s) c.deref.ensures.value (sym (sym (ap option_copied c.in-Some.is) ∙ c.last.ensures.value)) in
    let left = c.pop.ensures.rest ∙ ap (λ n. take (n - 1) fs) (sym c.deref.ensures.len ∙ ap length c.deref.ensures.value) in
    let there = receiver_there (sim model) model stop bound fs c.args.members.now ruled (take (length fs - 1) fs) s (last_is fs s at) in
    subst (λ f. AreRuled (sim model) model stop bound f c.keep_at.new.members) (sym left)
    (kept_ruled (sim model) model stop bound fs c.args.members.now ruled (take (length fs - 1) fs) s (last_is fs s at) _ c.keep_at.new.members (omega (arith, c.dst-number.ensures)) c.in_ok-keep_at.ensures.ok)
