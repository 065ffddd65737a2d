use Rattle.std.proofs.Common.{◌≡◌, ◌<◌, ◌≤◌, true, ap, subst, ◌∙◌, arith}
use Rattle.std.specs.List.{AllByRecursion}
use Rattle.std.proofs.lemmas.Bool.{OnTrue_from}
use Rattle.tw_core.proofs.Sums.{all_map}
use Rattle.tw_event.specs.declared.event.Event.{Event}
use Rattle.tw_shard.specs.Inside.{shard_of}
use Rattle.tw_shard.specs.Shard.{Shard, owns, timeline}
use Rattle.tw_shard.specs.Timeline.{history}
use Rattle.tw_shard.proofs.shard.Shard.comes_last.Goals as goal

pub returns-then-self-event-clause-last : goal.returns-then-self-event-clause-last
returns-then-self-event-clause-last c = OnTrue_from _ _ (λ unkept.
    let a = c.self.inside in
    let r = c.args.event.now.dst in
    let mine : owns (shard_of a) r ≡ true = ap (λ (s : Shard). owns s r) c.self.view_is ∙ c.requires in
    all_map (λ (e : Event). e.time ≤ a.latest) (λ (e : Event). e.time < c.args.event.now.time) (λ e h. let later = c.if-self-event.true in omega arith) (history (timeline c.args.self.now r))
    (subst (λ (s : Shard). AllByRecursion (λ (e : Event). e.time ≤ a.latest) (history (timeline s r))) c.self.view_is (c.self.invariant.latest r mine)))
