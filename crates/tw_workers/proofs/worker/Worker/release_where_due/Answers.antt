use Rattle.std.proofs.Common.{◌≡◌, true, ◌+◌, ◌≤◌, Some, drop, length, slice_get, refl, ap, sym, ◌∙◌, subst}
use Rattle.std.proofs.Math.ListN.{drop_of_length-le}
use Rattle.tw_shard.specs.Shard.{owns, routers}
use Rattle.tw_workers.proofs.Awaited.{AreReleased, all_released, all_to_release, released_more}
use Rattle.tw_workers.proofs.Commits.{next_left}
use Rattle.tw_workers.specs.Work.{AreAwaitedFrom, IsAtWork, Worker}
use Rattle.tw_workers.proofs.worker.Worker.release_where_due.Goals as goal

pub loop-place-init : goal.loop-place-init
loop-place-init c = record {
  same = refl;
  work = subst (λ (w : Worker). IsAtWork w.stop w.share) c.self.view_is c.self.invariant.work;
  awaited = all_to_release c.args.self.now.stop c.args.self.now.share.shard;
  kept = λ s kept. kept;
  mail = refl;
  stop = refl;
}

pub release_if_due-requires : goal.release_if_due-requires
release_if_due-requires c = record { own = subst (λ (w : Worker). owns w.share.shard c.router_at-router.result ≡ true) c.self-in-loop-place.view_is c.router_at-router.ensures.own; work = c.loop-place.invariant.work }

pub loop-place-preserved : goal.loop-place-preserved
loop-place-preserved c =
    let is = c.loop-place.invariant in
    let done = c.release_if_due.ensures in
    let told = c.in_ok-release_if_due.ensures in
    let stop = c.loop-place.self.stop in
    let s = c.loop-place.self.share.shard in
    let t = c.release_if_due.new.self.share.shard in
    let r = c.router_at-router.result in
    let k = c.loop-place.place in
    let next_at = subst (λ (w : Worker). slice_get (routers w.share.shard) k ≡ Some r) c.self-in-loop-place.view_is c.router_at-router.ensures.value in
    record {
      same = done.routers ∙ is.same;
      work = done.work;
      awaited = subst (λ rs. AreReleased (drop (k + 1) rs) c.release_if_due.new.self.stop t) (sym done.routers)
          (subst (λ until. AreReleased (drop (k + 1) (routers s)) until t) (sym done.stop)
          (released_more r stop (drop k (routers s)) (drop (k + 1) (routers s)) s t done.routers
          (next_left (routers s) k r next_at) is.awaited
          (subst (λ until. AreAwaitedFrom r until t) done.stop told.awaited)
          (λ q was. subst (λ until. AreAwaitedFrom q until t) done.stop (told.others q was))));
      kept = λ s kept. done.preserved s (is.kept s kept);
      mail = done.mail ∙ is.mail;
      stop = done.stop ∙ is.stop;
    }

pub returns-in_err-release_if_due-clause-preserved : goal.returns-in_err-release_if_due-clause-preserved
returns-in_err-release_if_due-clause-preserved c = λ s kept. c.release_if_due.ensures.preserved s (c.loop-place.invariant.kept s kept)

pub returns-clause-awaited : goal.returns-clause-awaited
returns-clause-awaited c =
    let is = c.loop-place.invariant in
    let s = c.loop-place.self.share.shard in
    let all : c.router_count-place-end.result ≡ length (routers s) =
    c.router_count-place-end.ensures.value ∙ (ap (λ (w : Worker). length (routers w.share.shard)) c.self.view_is ∙ ap (λ rs. length rs) (sym is.same)) in
    all_released c.loop-place.self.stop c.loop-place.self.share (drop c.loop-place.place (routers s))
    (drop_of_length-le (routers s) (subst (λ n. n ≤ c.loop-place.place) all c.loop-place-test.false)) is.work is.awaited
