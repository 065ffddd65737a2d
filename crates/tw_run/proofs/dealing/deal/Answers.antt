use Rattle.std.proofs.Common.{◌≡◌, Err, ap, sym, true≢false, ◌∙◌}
use Rattle.tw_model.specs.Case.{Case}
use Rattle.tw_parallel.specs.Moving.{are_owners}
use Rattle.tw_exchange.specs.Board.{workers}
use Rattle.tw_run.proofs.Dealt.{dealt_out, fits}
use Rattle.tw_run.specs.Dealing.{owners_after}
use Rattle.tw_run.proofs.dealing.deal.Goals as goal

pub unreachable-requires : goal.unreachable-requires
unreachable-requires c =
    let s = c.args.sim.now in
    let count : c.nodes-routers.result ≡ s.case.net.nodes
    = c.nodes-routers.ensures.value ∙ (ap (λ net. net.nodes) c.instance.ensures.value ∙ ap (λ (k : Case). k.net.nodes) c.case.ensures.value) in
    let list : c.deref.result.now ≡ owners_after c.args.asked (workers s.board) s.case.net.nodes c.args.checkpoints
    = c.deref.ensures.value ∙ (c.in_ok-owners.ensures ∙ (λ i. owners_after c.args.asked (c.workers.ensures.value i) (count i) c.args.checkpoints)) in
    let good = ap (are_owners s) list ∙ fits s c.args.asked c.args.checkpoints c.requires.some in
    let bad = c.move_to.ensures.refused.0 (c.in-Err-Fault.is ∙ ap (λ f. Err f) c.in-Err-Fault.field-0-is) in
    true≢false (sym good ∙ bad)

pub returns-in-Ok-clause-dealt : goal.returns-in-Ok-clause-dealt
returns-in-Ok-clause-dealt c =
    let s = c.args.sim.now in
    let count : c.nodes-routers.result ≡ s.case.net.nodes
    = c.nodes-routers.ensures.value ∙ (ap (λ net. net.nodes) c.instance.ensures.value ∙ ap (λ (k : Case). k.net.nodes) c.case.ensures.value) in
    let list : c.deref.result.now ≡ owners_after c.args.asked (workers s.board) s.case.net.nodes c.args.checkpoints
    = c.deref.ensures.value ∙ (c.in_ok-owners.ensures ∙ (λ i. owners_after c.args.asked (c.workers.ensures.value i) (count i) c.args.checkpoints)) in
    dealt_out c.args.asked c.args.checkpoints s c.move_to.new.self c.deref.result.now c.move_to.ensures.goes_on list c.in-Ok.ensures.owners
