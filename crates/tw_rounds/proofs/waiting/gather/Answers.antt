use Rattle.std.proofs.Common.{◌≡◌, ◌+◌, length, refl, ap, subst, arith}
use Rattle.std.proofs.lemmas.List.{drop_all}
use Rattle.std.proofs.lemmas.Option.{slice_get_read}
use Rattle.tw_core.specs.Parts.{total}
use Rattle.tw_pending.proofs.Walks.{split}
use Rattle.tw_process.specs.Behaviour.{simulation_of}
use Rattle.tw_rounds.specs.Members.{Mailed}
use Rattle.tw_sim.specs.Simulation.{times}
use Rattle.tw_rounds.proofs.waiting.gather.Goals as goal

pub loop-member-init : goal.loop-member-init
loop-member-init g c = λ model same e.
    let m = simulation_of g.M.Event.Timed.parts g.M.Event.Ord.cmp (g.M.ProcessModel.behaviour model) in
    let empty = ap (times m e) c.new-events.ensures.items in
    omega (arith, empty)

pub loop-member-preserved : goal.loop-member-preserved
loop-member-preserved g c = λ model same e.
    let sim = λ (md : g.row.M.Denot). simulation_of g.M.Event.Timed.parts g.M.Event.Ord.cmp (g.M.ProcessModel.behaviour md) in
    let m = sim model in
    let xs = c.args.members.now in
    let index = c.loop-member.member-index in
    let item = c.member-item.result in
    let here = slice_get_read xs (length xs) index item refl c.loop-member-test.true c.member-item.is in
    let next = ap (total (λ (x : Mailed _ _). times m e x.process.pending)) (split xs index item c.loop-member-test.true c.member-item.is) in
    let more = subst (λ md. times (sim md) e c.copy_pending.new.events.items ≡ times (sim md) e item.process.pending + times (sim md) e c.loop-member.events.items) (same index item here)
    (c.in_ok-copy_pending.ensures.ok e) in
    let before = c.loop-member.invariant model same e in
    omega (arith, next, more, before)

pub returns : goal.returns
returns g c = λ model same e.
    let m = simulation_of g.M.Event.Timed.parts g.M.Event.Ord.cmp (g.M.ProcessModel.behaviour model) in
    let over = ap (total (λ (x : Mailed _ _). times m e x.process.pending)) (drop_all c.loop-member.member-index c.args.members.now (let end = c.loop-member-test.false in omega arith)) in
    let all = c.loop-member.invariant model same e in
    omega (arith, over, all)
