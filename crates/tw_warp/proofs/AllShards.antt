-- The shards of a machine are all of its case, and what is read of them is read of it.
use Rattle.std.proofs.Common.{◌≡◌, ℕ, ◌-◌, ◌<◌, ◌==◌, ◌&&◌, false, true, List, [], flat_map, get_or, length, map, nat_lt, refl, ap, sym, ◌∙◌, subst, inl, inr}
use Rattle.std.proofs.Math.Path.{fun_ext}
use Rattle.std.proofs.lemmas.Bool.{and_parts, cases_Bool, eqb-true, le-ltb, lt-ltb, ltb-false, ltb-true}
use Rattle.std.specs.List.{range_with_len}
use Rattle.tw_core.specs.Machine.{Core}
use Rattle.tw_core.specs.Parts.{total}
use Rattle.tw_event.specs.declared.event.Event.{Event}
use Rattle.tw_event.specs.Order.{event_before}
use Rattle.tw_model.specs.Case.{simulation}
use Rattle.tw_model.specs.Summary.{end_of}
use Rattle.tw_shard.proofs.Found.{found_at, one_of_all}
use Rattle.tw_shard.specs.Shard as share
use Rattle.tw_shard.specs.Shard.{Shard, shard_core}
use Rattle.tw_shard.specs.Shards.{HaveAll, RetainAll, ahead_of_all, committed_of_all, ends_of_all, history_in, shard_for}
use Rattle.tw_sim.specs.Ordered.{insert_all}
use Rattle.tw_sim.specs.Simulation.{IsFalling, below, state}
use Rattle.tw_warp.proofs.Moves.{has_worker, lent_owns}
use Rattle.tw_warp.specs.Committed.{committed_events, count_ahead, end_at}
use Rattle.tw_warp.specs.Warp.{IsWarp, Warp, no_shard, shard_at, warp_core, worker_with}

module _ (w : Warp) (is : IsWarp w) where
  -- a shard that has a router is its worker's
  has_own : (k r : ℕ) → k < length w.shards → share.owns (shard_at w k) r ≡ true → worker_with w r ≡ k
  has_own k r within has =
      eqb-true (worker_with w r) k (and_parts (nat_lt r w.case.net.nodes) (worker_with w r == k) (sym ((is.shares k within).routers r) ∙ has)).1

  own_there : (r : ℕ) → r < w.case.net.nodes → share.owns (shard_at w (worker_with w r)) r ≡ true
  own_there r known = lent_owns w is (worker_with w r) (has_worker w is r) r refl ∙ lt-ltb r w.case.net.nodes known

  pub same_shard : (r : ℕ) → r < w.case.net.nodes → shard_for w.shards r ≡ shard_at w (worker_with w r)
  same_shard r known =
      let found = found_at w.shards r (worker_with w r) (has_worker w is r) (own_there r known) in
      found.2 ∙ ap (shard_at w) (sym (has_own found.0 r found.1 found.3))

  -- of what is no router nothing is there
  none_owned : (k r : ℕ) → k < length w.shards → nat_lt r w.case.net.nodes ≡ false → share.owns (shard_at w k) r ≡ false
  none_owned k r within past = (is.shares k within).routers r ∙ ap (λ b. b && (worker_with w r == k)) past

  read_there : {X : Type 0} (read : Core Event → X) (nothing : X) (r : ℕ) → ((s : Shard) → share.owns s r ≡ false → read (shard_core 0 s) ≡ nothing) → read (shard_core 0 (shard_for w.shards r)) ≡ read (shard_core 0 (shard_at w (worker_with w r)))
  read_there read nothing r none = elim (cases_Bool (nat_lt r w.case.net.nodes)) [
    | inl known ↦ ap (λ s. read (shard_core 0 s)) (same_shard r (ltb-true r w.case.net.nodes known))
    | inr past ↦ (
        let one = one_of_all w.shards r is.workers in
        ap (λ s. read (shard_core 0 s)) one.2 ∙ (none (shard_at w one.0) (none_owned one.0 r one.1 past) ∙ sym (none (shard_at w (worker_with w r)) (none_owned (worker_with w r) r (has_worker w is r) past))))
  ]

  pub histories : (λ r. history_in w.shards r) ≡ (warp_core w).history
  histories = fun_ext (λ r. read_there (λ (C : Core Event). C.history r) [] r (λ s no. rw no refl))

  commits : (λ r. (shard_core 0 (shard_for w.shards r)).done r) ≡ (warp_core w).done
  commits = fun_ext (λ r. read_there (λ (C : Core Event). C.done r) 0 r (λ s no. rw no refl))

  pub have_all : HaveAll w.case w.shards
  have_all = record {
    some = is.workers;
    cases = λ r known. ap (λ (s : Shard). s.terms.case) (same_shard r known) ∙ (is.shares (worker_with w r) (has_worker w is r)).case;
    own = λ r known. ap (λ s. share.owns s r) (same_shard r known) ∙ own_there r known;
  }

  pub retain_all : RetainAll w.case w.shards
  retain_all = record {
    retains = λ r known. ap (λ (s : Shard). s.terms.retains) (same_shard r known) ∙ (is.shares (worker_with w r) (has_worker w is r)).retains;
    falling = λ r. subst (λ (h : ℕ → List Event). IsFalling (simulation w.case) (h r)) (sym histories) (is.good.falling r);
  }

  -- so what is read of all shards is read of the machine
  pub same_committed : committed_of_all w.case w.shards ≡ committed_events w
  same_committed = λ i. insert_all event_before (flat_map (λ r. below (simulation w.case) (commits i r) (histories i r)) (range_with_len 0 w.case.net.nodes)) []

  pub same_ahead : ahead_of_all w.case w.shards ≡ count_ahead w
  same_ahead = λ i. total (λ r. length (histories i r) - length (below (simulation w.case) (commits i r) (histories i r))) (range_with_len 0 w.case.net.nodes)

  pub same_ends : ends_of_all w.case w.shards ≡ map (end_at w.case (warp_core w)) (range_with_len 0 w.case.net.nodes)
  same_ends = λ i. map (λ r. end_of (state (simulation w.case) r (histories i r))) (range_with_len 0 w.case.net.nodes)
