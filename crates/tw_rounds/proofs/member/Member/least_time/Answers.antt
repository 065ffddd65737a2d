use Rattle.std.proofs.Common.{[], ◌≤◌, ap, sym, ◌∙◌, subst}
use Rattle.tw_core.specs.Steps.{least_time}
use Rattle.tw_process.specs.Behaviour.{simulation_of}
use Rattle.tw_rounds.proofs.Members.{earliest-append, least-all-le, mailed, none_before}
use Rattle.tw_rounds.specs.Members.{place_of}
use Rattle.tw_rounds.specs.Shares.{on_way}
use Rattle.tw_rounds.specs.Times.{earliest}
use Rattle.tw_rule.specs.Place.{NoneLooseBefore}
use Rattle.tw_sim.specs.Simulation.{IsLawful}
use Rattle.tw_rounds.proofs.member.Member.least_time.Goals as goal

pub returns-clause-most : goal.returns-clause-most
returns-clause-most g c =
    let a = c.self.inside in
    let p = a.process in
    let m = simulation_of g.M.Event.Timed.parts g.M.Event.Ord.cmp (g.M.ProcessModel.behaviour p.model) in
    let far = c.least_among-far.ensures ∙ ap (λ xs. earliest m.time xs c.args.time) c.deref.ensures.value in
    let near = c.least_among-near.ensures ∙ (ap (λ xs. earliest m.time xs c.least_among-far.result) c.deref-2.ensures.value ∙ (ap (earliest m.time a.sent.near.items) far ∙ sym (earliest-append m.time a.sent.far.items a.sent.near.items c.args.time))) in
    let sent = c.least_among-sent.ensures ∙ (ap (λ xs. earliest m.time xs c.least_among-near.result) c.flight.ensures ∙ ap (earliest m.time p.flight) near) in
    let is = c.least_time.ensures ∙ ap (λ t. least_time m p.pending (least_time m p.kept t)) sent in
    subst (λ n. n ≤ c.args.time) (sym is) (least-all-le m p.pending p.kept [] p.flight (on_way a.sent) c.args.time)

pub returns-clause-loose : goal.returns-clause-loose
returns-clause-loose g c = λ law.
    let a = c.self.inside in
    let p = a.process in
    let sim = λ (model : g.row.M.Denot). simulation_of g.M.Event.Timed.parts g.M.Event.Ord.cmp (g.M.ProcessModel.behaviour model) in
    let m = sim p.model in
    let far = c.least_among-far.ensures ∙ ap (λ xs. earliest m.time xs c.args.time) c.deref.ensures.value in
    let near = c.least_among-near.ensures ∙ (ap (λ xs. earliest m.time xs c.least_among-far.result) c.deref-2.ensures.value ∙ (ap (earliest m.time a.sent.near.items) far ∙ sym (earliest-append m.time a.sent.far.items a.sent.near.items c.args.time))) in
    let sent = c.least_among-sent.ensures ∙ (ap (λ xs. earliest m.time xs c.least_among-near.result) c.flight.ensures ∙ ap (earliest m.time p.flight) near) in
    let is = c.least_time.ensures ∙ ap (λ t. least_time m p.pending (least_time m p.kept t)) sent in
    let x = mailed p [] (on_way a.sent) a.least in
    subst (λ x. NoneLooseBefore (sim x.process.model) c.least_time.result (place_of x)) c.self.view_is
    (subst (λ n. NoneLooseBefore m n (place_of x)) (sym is)
    (none_before m (subst (λ x. IsLawful (sim x.process.model)) (sym c.self.view_is) law) x c.args.time))
