use Rattle.std.proofs.Common.{[], ap, sym, ◌∙◌, subst}
use Rattle.tw_shard.specs.Past.{Past, own_run}
use Rattle.tw_shard.specs.Timeline.{IsTimeline}
use Rattle.tw_shard.proofs.Cuts.{stands_at}
use Rattle.tw_shard.proofs.timeline.Timeline.at.Goals as goal

pub invariant_of-result : goal.invariant_of-result
invariant_of-result c =
    let router = c.args.router.router in
    let case = c.args.case.now in
    let change = c.args.router.last_change in
    let past = c.at-past.ensures ∙ ap (λ v. record { case = case; node = v; retains = c.args.retains; events = own_run case v c.args.time; done = c.args.time }) c.node.ensures.value in
    subst (λ ring. IsTimeline (record { router = router; past = c.at-past.result; ahead = ring; room = 256; past_change = change })) (sym c.requires.ring)
    (subst (λ (p : Past). IsTimeline (record { router = router; past = p; ahead = []; room = 256; past_change = change })) (sym past)
    (stands_at case c.instance.ensures.case c.args.time c.args.retains router change c.requires.router.router c.requires.router.change))
