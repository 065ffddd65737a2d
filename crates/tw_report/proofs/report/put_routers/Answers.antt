use Rattle.std.proofs.Common.{◌+◌, ap, drop}
use Rattle.std.proofs.lemmas.List.{drop_more}
use Rattle.tw_device.proofs.Puts.{partway_more, puts_partway}
use Rattle.tw_report.specs.Report.{router_lines}
use Rattle.tw_report.proofs.report.put_routers.Goals as goal

pub returns-in_err-put_router : goal.returns-in_err-put_router
returns-in_err-put_router g c =
    let net = c.args.instance.now in
    let routers = c.args.routers.now in
    let node = c.loop-node.node in
    puts_partway c.from_residual.result _ _ (router_lines net (node + 1) (drop (node + 1) routers)) _ _ _ _ _
    (ap (router_lines net node) (drop_more routers node _ c.loop-node-test.true)) c.loop-node.invariant.1 c.from_residual.ensures.0 c.in_err-put_router.ensures

pub loop-node-preserved : goal.loop-node-preserved
loop-node-preserved g c =
    let net = c.args.instance.now in
    let routers = c.args.routers.now in
    let node = c.loop-node.node in (
      c.in_ok-put_router.ensures.1,
      partway_more _ _ _ (router_lines net (node + 1) (drop (node + 1) routers)) _ _ _
          (ap (router_lines net node) (drop_more routers node _ c.loop-node-test.true)) c.loop-node.invariant.1 c.in_ok-put_router.ensures.0,
    )
