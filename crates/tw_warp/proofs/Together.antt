-- The committed events of all routers together are the one-thread run.
use Rattle.std.proofs.Common.{◌≡◌, ℕ, ◌<◌, List, [], ◌∷◌, nat_lt, reverse, refl, ap, sym, ◌∙◌, inl, inr, arith}
use Rattle.std.proofs.lemmas.Bool.{cases_Bool, le-ltb, lt-ltb, ltb-false, ltb-true}
use Rattle.tw_core.specs.Machine.{committed}
use Rattle.tw_core.specs.Run.{AreCommitted}
use Rattle.tw_event.specs.declared.event.Event.{Event}
use Rattle.tw_model.proofs.Lawful.{lawful, numbered}
use Rattle.tw_model.specs.Case.{simulation}
use Rattle.tw_model.specs.State.{State}
use Rattle.tw_sim.proofs.Closed.{log_closed}
use Rattle.tw_sim.proofs.Counts.{in_filter, in_head}
use Rattle.tw_sim.specs.Seq.{log}
use Rattle.tw_sim.specs.Simulation.{Simulation, IsLawful, below, times}
use Rattle.tw_warp.proofs.Dealt.{together}
use Rattle.tw_warp.proofs.Turns.{seq_of}
use Rattle.tw_warp.specs.Committed.{committed_events}
use Rattle.tw_warp.specs.Warp.{IsWarp, Warp, warp_core}

module _ {S E : Type 0} (m : Simulation S E) (law : IsLawful m) where
  -- two times that part a list in the same way
  same_below : (s t : ℕ) (xs : List E) → ((e : E) → 0 < times m e xs → nat_lt (m.time e) s ≡ nat_lt (m.time e) t) → below m s xs ≡ below m t xs
  same_below s t [] same = refl
  same_below s t (x ∷ xs) same =
      let rest : below m s xs ≡ below m t xs = same_below s t xs (λ e there. same e (omega arith)) in
      let first : nat_lt (m.time x) s ≡ nat_lt (m.time x) t = same x (in_head m law x xs) in
      elim (cases_Bool (nat_lt (m.time x) t)) [
        | inl early ↦ rw (first ∙ early, early) (ap (λ ys. x ∷ ys) rest)
        | inr late ↦ rw (first ∙ late, late) rest
      ]

module _ (w : Warp) (is : IsWarp w) (all : AreCommitted (simulation w.case) (warp_core w)) where
  abbrev m : Simulation State Event
  m = simulation w.case

  -- what a router has committed is what it has handled below the bound
  committed_below : (r : ℕ) → committed m (warp_core w) r ≡ below m w.bound ((warp_core w).history r)
  committed_below r =
      same_below m (lawful w.case is.case) ((warp_core w).done r) w.bound ((warp_core w).history r) (λ e there.
      let home : e.dst ≡ r = is.good.home r e there in
      let handled = ap (λ q. times m e ((warp_core w).history q)) home in
      let known = ap (λ q. (warp_core w).done q) home in
      let most = is.good.done r in
      elim (cases_Bool (nat_lt e.time w.bound)) [
        | inl early ↦ (let before = all e (omega arith) (ltb-true e.time w.bound early) in lt-ltb e.time ((warp_core w).done r) (omega arith) ∙ sym early)
        | inr late ↦ (let past = ltb-false e.time w.bound late in le-ltb e.time ((warp_core w).done r) (omega arith) ∙ sym late)
      ])

  pub are_run : committed_events w ≡ reverse (log m w.bound)
  are_run =
      let law = lawful w.case is.case in
      together m law (log m w.bound) (log_closed m law (numbered w.case is.case) w.bound).falling (λ r. below m w.bound ((warp_core w).history r)) (seq_of w is).handled
      (λ e there. is.good.suit e (let handled = (in_filter m law (λ x. nat_lt x.time w.bound) e ((warp_core w).history e.dst) there).1 in omega arith))
      (λ r. committed m (warp_core w) r) (λ r l. committed_below r)
