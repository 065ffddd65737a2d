use Rattle.std.proofs.Common.{◌≡◌, [], ap, sym, ◌∙◌, subst}
use Rattle.tw_event.specs.Order.{event_before}
use Rattle.tw_model.specs.Case.{simulation}
use Rattle.tw_parallel.proofs.Ends.{change_of_run}
use Rattle.tw_parallel.proofs.Removing.{rest_again}
use Rattle.tw_parallel.specs.Removal.{AreRemoved}
use Rattle.tw_parallel.specs.Sim.{IsSim, Sim}
use Rattle.tw_ordered.specs.Queue.{AreFor}
use Rattle.tw_shard.proofs.Cuts.{given_home}
use Rattle.tw_sim.specs.Ordered.{insert_all}
use Rattle.tw_sim.specs.Seq.{rest}
use Rattle.tw_parallel.proofs.into_run.RunRoom.open.Goals as goal

pub event_list-requires : goal.event_list-requires
event_list-requires c =
    let s = c.args.sim.now in
    let is = subst IsSim c.sim.view_is c.sim.invariant.sim in
    let waiting = c.deref.ensures.value ∙ c.in_ok-waiting.ensures.value in
    let nodes = c.nodes-nodes.ensures.value ∙ (ap (λ net. net.nodes) c.instance.ensures.value ∙ ap (λ (t : Sim). t.case.net.nodes) c.sim.view_is) in
    subst (λ n. AreFor n c.deref.result.now) (sym nodes)
    (given_home s.case is.ruled.is_case s.board.stop c.deref.result.now (rest_again s is c.requires c.deref.result.now waiting))

pub returns : goal.returns
returns c =
    let s = c.args.sim.now in
    let is = subst IsSim c.sim.view_is c.sim.invariant.sim in
    let waiting = c.deref.ensures.value ∙ c.in_ok-waiting.ensures.value in
    let nodes = c.nodes-nodes.ensures.value ∙ (ap (λ net. net.nodes) c.instance.ensures.value ∙ ap (λ (t : Sim). t.case.net.nodes) c.sim.view_is) in
    record {
      removal = subst (λ n. AreRemoved s.case s.board.stop n 0 c.in_ok-removal.removal) nodes (c.in_ok-removal.ensures.none s.case s.board.stop);
      retains = (
        (λ some. c.retains_events.ensures.0 (sym c.in_ok-removal.ensures.retains ∙ some)),
        (λ all. c.in_ok-removal.ensures.retains ∙ c.retains_events.ensures.1 all),
      );
      pending = c.in_ok-pending.ensures.events ∙ rest_again s is c.requires c.deref.result.now waiting;
      homes = c.in_ok-pending.ensures.routers ∙ nodes;
      change = c.last_change.ensures ∙ change_of_run s is c.requires;
    }
