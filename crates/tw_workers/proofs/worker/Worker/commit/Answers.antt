use Rattle.std.proofs.Common.{◌≡◌, ◌+◌, ◌<◌, ◌≤◌, ℕ, drop, length, rules, ap, sym, ◌∙◌, subst}
use Rattle.std.proofs.Math.ListN.{drop_of_length-le}
use Rattle.tw_shard.specs.Shard.{Shard, routers}
use Rattle.tw_workers.specs.declared.worker.Worker.TheInside.{Inside}
use Rattle.tw_workers.specs.Inside.{worker_of}
use Rattle.tw_workers.specs.Work.{Worker}
use Rattle.tw_table.specs.Shares.{share}
use Rattle.tw_workers.proofs.Commits.{AreDone, all_done, all_to_do, done_more, has_run, kept_committed, next_left, same_outgoing}
use Rattle.tw_workers.proofs.Places.{kept_both, work_kept}
use Rattle.tw_workers.proofs.worker.Worker.commit.Goals as goal

-- a shard has as many routers later
many : (a : Inside) (w : Worker) → worker_of a ≡ w → (s : Shard) → routers s ≡ routers w.share.shard → (n : ℕ) → n ≡ length (routers a.shard) → n ≡ length (routers s)
many a w is s same n count = count ∙ (ap (λ (w : Worker). length (routers w.share.shard)) is ∙ ap (λ rs. length rs) (sym same))

pub loop-place-init : goal.loop-place-init
loop-place-init c = record {
  work = c.self.invariant.work;
  kept = search rules;
  same = search rules;
  done = all_to_do c.self.inside.shard;
  mail = search rules;
  unsent = search rules;
  outgoing = search rules;
  stop = search rules;
  latest = c.self.invariant.stop;
  none = c.self.invariant.none;
}

pub router_at-router-requires : goal.router_at-router-requires
router_at-router-requires c = subst (λ n. c.loop-place.place < n) (many c.self.inside c.args.self.now c.self.view_is c.loop-place.self-inside.shard c.loop-place.invariant.same c.router_count-place-end.result c.router_count-place-end.ensures.value) c.loop-place-test.true

pub commit_at-requires : goal.commit_at-requires
commit_at-requires c =
    let inside = c.loop-place.self-inside in
    let own = c.router_at-router.ensures.own in
    record { own = own; run = has_run inside.stop (share inside.shard inside.hand) c.loop-place.invariant.work c.router_at-router.result own }

pub loop-place-preserved : goal.loop-place-preserved
loop-place-preserved c =
    let inside = c.loop-place.self-inside in
    let is = c.loop-place.invariant in
    let told = c.in_ok-commit_at.ensures in
    let r = c.router_at-router.result in
    let k = c.loop-place.place in
    let s = share inside.shard inside.hand in
    let t = share c.commit_at.new.shard inside.hand in
    let same = c.commit_at.ensures.same in
    let step = kept_committed inside.stop r s c.commit_at.new.shard is.work same (told.ok inside.stop) in
    record {
      work = work_kept inside.stop s t is.work step;
      kept = λ since kept. kept_both inside.stop since s t (is.kept since kept) step;
      same = same.routers ∙ is.same;
      done = subst (λ rs. AreDone (drop (k + 1) rs) c.commit_at.new.shard) (sym same.routers)
          (done_more r (drop k (routers inside.shard)) (drop (k + 1) (routers inside.shard)) inside.shard c.commit_at.new.shard
          (next_left (routers inside.shard) k r c.router_at-router.ensures.value) is.done same (told.ok 0));
      mail = is.mail;
      unsent = is.unsent;
      outgoing = same_outgoing r inside.shard c.commit_at.new.shard (told.ok 0) ∙ is.outgoing;
      stop = is.stop;
      latest = is.latest;
      none = is.none;
    }

pub returns-clause-done : goal.returns-clause-done
returns-clause-done c =
    let s = c.loop-place.self-inside.shard in
    let all = many c.self.inside c.args.self.now c.self.view_is s c.loop-place.invariant.same c.router_count-place-end.result c.router_count-place-end.ensures.value in
    all_done s (drop c.loop-place.place (routers s)) (drop_of_length-le (routers s) (subst (λ n. n ≤ c.loop-place.place) all c.loop-place-test.false)) c.loop-place.invariant.done
