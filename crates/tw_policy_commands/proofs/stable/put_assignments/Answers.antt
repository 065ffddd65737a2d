use Rattle.std.proofs.Common.{◌≡◌, [], ◌+◌, arith, drop, length, subst, sym}
use Rattle.std.specs.List.{All}
use Rattle.std.proofs.lemmas.List.{length-map}
use Rattle.tw_device.proofs.Puts.{partway_end, partway_more, puts_partway}
use Rattle.tw_instance.specs.Tables.{items}
use Rattle.tw_model.specs.Net.{IsPath}
use Rattle.tw_policy_commands.specs.Stable.{assignment_lines, assignment_text}
use Rattle.tw_policy_commands.proofs.Assignments.{assignment_end, assignment_step, ribs_at}
use Rattle.tw_policy_commands.proofs.stable.put_assignments.Goals as goal

pub put_assignment-requires-clause-paths : goal.put_assignment-requires-clause-paths
put_assignment-requires-clause-paths g c =
    let rows = c.args.assignments.now in
    let k = c.loop-index.index in
    let x = c.index-assignments-index in
    let same : length (items rows) ≡ length rows = length-map rows (λ v. v.items) in
    let low = c.loop-index-test.true in
    subst (All (IsPath c.args.instance.now)) (sym (ribs_at rows k x.result c.deref.result.now low x.is c.deref.ensures.value)) (c.requires.paths k [] (omega arith))

pub returns-in_err-put_assignment : goal.returns-in_err-put_assignment
returns-in_err-put_assignment g c =
    let rows = c.args.assignments.now in
    let net = c.args.instance.now in
    let k = c.loop-index.index in
    let x = c.index-assignments-index in
    puts_partway c.from_residual.result (assignment_lines net 1 (items rows)) (assignment_lines net (k + 1) (drop k (items rows))) (assignment_lines net ((k + 1) + 1) (drop (k + 1) (items rows)))
    (assignment_text net (k + 1) c.deref.result.now) (g.S.Sink.written c.args.sink.now) (g.S.Sink.written c.loop-index.sink) (g.S.Sink.written c.put_assignment.new.sink)
    (g.S.Sink.failed c.put_assignment.new.sink) (assignment_step net rows k x.result c.deref.result.now c.loop-index-test.true x.is c.deref.ensures.value) c.loop-index.invariant.1
    c.from_residual.ensures.0 c.in_err-put_assignment.ensures

pub loop-index-preserved : goal.loop-index-preserved
loop-index-preserved g c =
    let rows = c.args.assignments.now in
    let net = c.args.instance.now in
    let k = c.loop-index.index in
    let x = c.index-assignments-index in (
      c.in_ok-put_assignment.ensures.1,
      partway_more (assignment_lines net 1 (items rows)) (assignment_lines net (k + 1) (drop k (items rows))) (assignment_text net (k + 1) c.deref.result.now)
          (assignment_lines net ((k + 1) + 1) (drop (k + 1) (items rows))) (g.S.Sink.written c.args.sink.now) (g.S.Sink.written c.loop-index.sink) (g.S.Sink.written c.put_assignment.new.sink)
          (assignment_step net rows k x.result c.deref.result.now c.loop-index-test.true x.is c.deref.ensures.value) c.loop-index.invariant.1 c.in_ok-put_assignment.ensures.0,
    )

pub returns : goal.returns
returns g c =
    let rows = c.args.assignments.now in
    let net = c.args.instance.now in
    let k = c.loop-index.index in (
      partway_end (assignment_lines net 1 (items rows)) (assignment_lines net (k + 1) (drop k (items rows))) (g.S.Sink.written c.args.sink.now) (g.S.Sink.written c.loop-index.sink)
          (assignment_end net rows k c.loop-index-test.false) c.loop-index.invariant.1,
      c.loop-index.invariant.0,
    )
