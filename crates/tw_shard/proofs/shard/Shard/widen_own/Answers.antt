use Rattle.std.proofs.Common.{◌≡◌, ◌<◌, ◌*◌, ◌^◌, refl, ap, sym, ◌∙◌, subst, true, set, get_or, arith}
use Rattle.std.proofs.lemmas.Bool.{false≢true}
use Rattle.tw_shard.specs.Inside.{HasHandledTo, shard_of}
use Rattle.tw_shard.specs.Shard.{IsSoundShard, Shard, no_timeline, owns, place, timeline, widened_at}
use Rattle.tw_shard.specs.Timeline.{Timeline}
use Rattle.tw_shard.proofs.Fields.{changed_shard, other_items, read_here}
use Rattle.tw_shard.proofs.shard.Shard.widen_own.Goals as goal

pub invariant_of-self : goal.invariant_of-self
invariant_of-self c =
    let a = c.self.inside in
    let timelines =
    other_items a.timelines.len c.widen_at.new.timelines _ (c.widen_at.auto.timelines ∙ c.deref_mut.ensures.len)
    ∙ (c.in_err-widen_at.ensures.err ∙ c.deref_mut.ensures.value) in
    let same : ◌≡◌ {A = Shard} _ (shard_of a) = λ i. record (shard_of a) { timelines = timelines i } in
    let is = c.self.invariant in
    record {
      whole = subst IsSoundShard (sym same) is.whole;
      roster = is.roster;
      pending = is.pending;
      kept = is.kept;
      held = is.held;
      latest = subst (HasHandledTo a.latest) (sym same) is.latest;
    }

pub invariant_of-self-2 : goal.invariant_of-self-2
invariant_of-self-2 c =
    let a = c.self.inside in
    let s = shard_of a in
    let r = c.args.router in
    let mine : owns s r ≡ true = subst (λ s. owns s r ≡ true) (sym c.self.view_is) c.requires in
    let own = c.self.invariant.whole.routers r mine in
    let at : c.place-place.result ≡ place s r = c.place-place.ensures.value ∙ ap (λ s. place s r) (sym c.self.view_is) in
    let there : get_or c.deref_mut.result.now c.place-place.result no_timeline ≡ timeline s r = λ i. get_or (c.deref_mut.ensures.value i) (at i) no_timeline in
    changed_shard a _ r (record (timeline s r) { room = 2 * (timeline s r).room }) c.self.invariant mine (record {
      terms = refl;
      roster = refl;
      timelines =
          other_items a.timelines.len c.widen_at.new.timelines _ (c.widen_at.auto.timelines ∙ c.deref_mut.ensures.len)
          ∙ (c.in_ok-widen_at.ensures.ok ∙ λ i. set (c.deref_mut.ensures.value i) (at i) (record (there i) { room = 2 * (there i).room }));
      kept = refl;
      bound = refl;
      pending_routers = refl;
      kept_routers = refl;
      held_routers = refl;
    }) own.net own.node own.done own.case own.retains c.self.invariant.whole.pending c.self.invariant.whole.held (omega arith) (c.self.invariant.latest r mine)

pub returns-in_err-widen_at-clause-free : goal.returns-in_err-widen_at-clause-free
returns-in_err-widen_at-clause-free c = λ room.
    let here = read_here c.self.inside c.args.self.now c.args.router c.place-place.result c.deref_mut.result.now c.self.view_is c.place-place.ensures.value c.deref_mut.ensures.value in
    absurd (false≢true (c.in_err-widen_at.ensures.free (subst (λ (t : Timeline). t.room < 2 ^ 63) (sym here) room)))

pub returns-clause-ok : goal.returns-clause-ok
returns-clause-ok c =
    let a = c.self.inside in
    let s = shard_of a in
    let r = c.args.router in
    let at : c.place-place.result ≡ place s r = c.place-place.ensures.value ∙ ap (λ s. place s r) (sym c.self.view_is) in
    let there : get_or c.deref_mut.result.now c.place-place.result no_timeline ≡ timeline s r = λ i. get_or (c.deref_mut.ensures.value i) (at i) no_timeline in
    let timelines =
    other_items a.timelines.len c.widen_at.new.timelines _ (c.widen_at.auto.timelines ∙ c.deref_mut.ensures.len)
    ∙ (c.in_ok-widen_at.ensures.ok ∙ λ i. set (c.deref_mut.ensures.value i) (at i) (record (there i) { room = 2 * (there i).room })) in
    ap (λ lines. record s { timelines = lines }) timelines ∙ ap (λ s. widened_at s r) c.self.view_is
