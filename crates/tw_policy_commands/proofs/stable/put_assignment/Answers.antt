use Rattle.std.proofs.Common.{[], ◌∷◌, ◌+◌, codes, drop, get_or, refl}
use Rattle.std.specs.Fmt.{decimal}
use Rattle.tw_device.proofs.Puts.{partway_end, partway_more, puts_failed, puts_partway}
use Rattle.tw_model.specs.Net.{empty_path}
use Rattle.tw_report.specs.Words.{line}
use Rattle.tw_policy_commands.specs.Stable.{assignment_text, rib_line, rib_lines}
use Rattle.tw_policy_commands.proofs.Assignments.{rib_end, rib_step}
use Rattle.tw_policy_commands.proofs.stable.put_assignment.Goals as goal

pub returns-in_err-put_line : goal.returns-in_err-put_line
returns-in_err-put_line g c =
    puts_failed c.from_residual.result _ _ _ (line (codes "assignment" ∷ decimal c.args.number ∷ [])) _ c.from_residual.ensures.0 c.in_err-put_line.ensures

pub loop-node-init : goal.loop-node-init
loop-node-init g c = (c.in_ok-put_line.ensures.1, record { front = line (codes "assignment" ∷ decimal c.args.number ∷ []); sum = refl; grown = c.in_ok-put_line.ensures.0 })

pub returns-in_err-put_rib : goal.returns-in_err-put_rib
returns-in_err-put_rib g c =
    let ribs = c.args.ribs.now in
    let net = c.args.instance.now in
    let k = c.loop-node.node in
    let r = c.from_residual-in_err-put_rib in
    puts_partway r.result (assignment_text net c.args.number ribs) (rib_lines net k (drop k ribs)) (rib_lines net (k + 1) (drop (k + 1) ribs)) (rib_line net k (get_or ribs k _))
    (g.S.Sink.written c.args.sink.now) (g.S.Sink.written c.loop-node.sink) (g.S.Sink.written c.put_rib.new.sink) (g.S.Sink.failed c.put_rib.new.sink)
    (rib_step net ribs k _ c.loop-node-test.true) c.loop-node.invariant.1 r.ensures.0 c.in_err-put_rib.ensures

pub loop-node-preserved : goal.loop-node-preserved
loop-node-preserved g c =
    let ribs = c.args.ribs.now in
    let net = c.args.instance.now in
    let k = c.loop-node.node in (
      c.in_ok-put_rib.ensures.1,
      partway_more (assignment_text net c.args.number ribs) (rib_lines net k (drop k ribs)) (rib_line net k (get_or ribs k _)) (rib_lines net (k + 1) (drop (k + 1) ribs))
          (g.S.Sink.written c.args.sink.now) (g.S.Sink.written c.loop-node.sink) (g.S.Sink.written c.put_rib.new.sink) (rib_step net ribs k _ c.loop-node-test.true) c.loop-node.invariant.1
          c.in_ok-put_rib.ensures.0,
    )

pub returns : goal.returns
returns g c =
    let ribs = c.args.ribs.now in
    let net = c.args.instance.now in
    let k = c.loop-node.node in (
      partway_end (assignment_text net c.args.number ribs) (rib_lines net k (drop k ribs)) (g.S.Sink.written c.args.sink.now) (g.S.Sink.written c.loop-node.sink)
          (rib_end net ribs k c.loop-node-test.false) c.loop-node.invariant.1,
      c.loop-node.invariant.0,
    )
