use Rattle.std.proofs.Common.{◌<◌, sym, ◌∙◌, subst}
use Rattle.std.proofs.lemmas.Bool.{false≢true}
use Rattle.tw_event.specs.Order.{event_same}
use Rattle.tw_shard.specs.Shard.{Shard, timeline}
use Rattle.tw_shard.proofs.Comings.{antimessage_came, antimessage_early}
use Rattle.tw_shard.proofs.RollBack.{on_err, rolled_from}
use Rattle.tw_sim.specs.Ordered.{times}
use Rattle.tw_shard.proofs.shard.Shard.withdraw.Goals as goal

pub returns-in_err-roll_back-clause-err : goal.returns-in_err-roll_back-clause-err
returns-in_err-roll_back-clause-err c =
    on_err c.from_residual.result (rolled_from c.take_pending.new.self c.args.self.now c.roll_back.new.self c.args.event.now
    (c.take_pending.ensures.none c.if-take_pending.false) c.roll_back.ensures.undone)

pub returns-in_ok-roll_back-clause-ok : goal.returns-in_ok-roll_back-clause-ok
returns-in_ok-roll_back-clause-ok c =
    let is = c.take_pending.ensures.none c.if-take_pending.false in
    let e = c.args.event.now in
    antimessage_came c.args.self.now c.take_pending.new.self c.roll_back.new.self c.take_pending-then-has_handled.new.self e is c.requires.own
    (λ some. false≢true (sym c.if-take_pending.false ∙ c.take_pending.ensures.value.1 some))
    (subst (λ (s : Shard). 0 < times event_same e (timeline s e.dst).ahead) is (c.has_handled.ensures.value.0 c.if-has_handled.true))
    c.in_ok-roll_back.ensures.ok c.take_pending-then-has_handled.ensures.without

pub returns-in_ok-add_kept-clause-ok : goal.returns-in_ok-add_kept-clause-ok
returns-in_ok-add_kept-clause-ok c =
    let is = c.take_pending.ensures.none c.if-take_pending.false in
    let e = c.args.event.now in
    antimessage_early c.args.self.now c.take_pending.new.self c.add_kept.new.self e is c.has_handled.ensures.whole c.requires.own c.requires.late
    (λ some. false≢true (sym c.if-take_pending.false ∙ c.take_pending.ensures.value.1 some))
    (λ some. false≢true (sym c.if-has_handled.false ∙ c.has_handled.ensures.value.1 some))
    c.has_handled.ensures.past c.in_ok-add_kept.ensures.ok
