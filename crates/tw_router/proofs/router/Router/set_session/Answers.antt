use Rattle.std.proofs.Common.{rules, ◌∙◌, ap, sym}
use Rattle.std.proofs.Math.Seq.{map-set_same}
use Rattle.tw_router.specs.Ranks.{rank}
use Rattle.tw_router.proofs.router.Router.set_session.Goals as goal

pub invariant_of-self : goal.invariant_of-self
invariant_of-self c =
    let a = c.self.inside in
    record {
      valid = search rules;
      few = c.self.invariant.few;
      ranks = c.self.invariant.ranks
          ∙ sym (map-set_same (rank a.instance.now a.node a.order.items a.barred.items) a.rows.items c.args.slot _ _ (ap (rank a.instance.now a.node a.order.items a.barred.items) c.index_mut.ensures.value));
      greatest = c.self.invariant.greatest;
      order = c.self.invariant.order;
    }
