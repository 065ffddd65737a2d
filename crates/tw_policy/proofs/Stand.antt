-- How a router stands, the paths that it uses and heard aside: its ranks, what is barred, which links are up. Only scripted events
-- change it.
use Rattle.std.proofs.Common.{arith, ◌≡◌, ℕ, ◌-◌, ◌==◌, Bool, true, false, not, ◌&&◌, ◌||◌, List, [], ◌∷◌, map, filter, get_or, set, refl, ap, sym, ◌∙◌, inl, inr, if◌then◌else◌}
use Rattle.std.specs.List.{find, list_any, swap, zip}
use Rattle.std.specs.Option.{unwrap_or}
use Rattle.std.proofs.Math.ListN.{get_or-map}
use Rattle.std.proofs.Math.Seq.{map-set_same}
use Rattle.std.proofs.lemmas.List.{map-set}
use Rattle.std.proofs.lemmas.Bool.{cases_Bool}
use Rattle.tw_event.specs.declared.event.Body.{Body}
use Rattle.tw_event.specs.declared.event.Body.TheVariants.{Start, Fail, Restore, Swap, Forbid, Allow, Update}
use Rattle.tw_event.specs.declared.event.Event.{Event}
use Rattle.tw_event.specs.declared.event.PathNo.{PathNo}
use Rattle.tw_model.specs.declared.net.Hop.{Hop}
use Rattle.tw_model.specs.declared.state.Row.{Row}
use Rattle.tw_model.specs.Net.{Net, empty_path, hops_of, origin_path, path, same_path}
use Rattle.tw_model.specs.State.{State, bars, best, no_row, opening, row, slot}
use Rattle.tw_model.specs.Effect.{acts, settle, with_failed_link, with_swap}
use Rattle.tw_model.specs.Case.{Case, IsCase, opening_events, simulation}
use Rattle.tw_model.specs.Quiet.{reaches, stable_path}
use Rattle.tw_sim.specs.Simulation.{state}
use Rattle.tw_sim.proofs.Members.{In, find_agree, in_filter, in_filtered}
use Rattle.tw_model.proofs.LinkHeard.{Falls, state_home}
use Rattle.tw_model.proofs.Agreed.{falls-filter, same_falls}

pub record Stand : Type 0 where
  pub order : List PathNo
  pub barred : List Bool
  pub ups : List Bool

abbrev pub stand : State → Stand
stand s = record { order = s.order; barred = s.barred; ups = map (λ r. r.up) s.rows }

-- whether the event is one of a script
abbrev pub is_scripted : Body → Bool
is_scripted Start = true
is_scripted (Fail w) = true
is_scripted (Restore w) = true
is_scripted (Swap i j) = true
is_scripted (Forbid k) = true
is_scripted (Allow k) = true
is_scripted (Update q n) = false

-- what an event with this body makes of how v stands
abbrev pub stand_after : Net → ℕ → Body → Stand → Stand
stand_after net v Start z = z
stand_after net v (Fail w) z = if get_or z.ups (slot net v w) true then record z { ups = set z.ups (slot net v w) false } else z
stand_after net v (Restore w) z = if get_or z.ups (slot net v w) true then z else record z { ups = set z.ups (slot net v w) true }
stand_after net v (Swap i j) z = record z { order = swap z.order (i - 1) (j - 1) }
stand_after net v (Forbid k) z = if get_or z.barred (k - 1) false then z else record z { barred = set z.barred (k - 1) true }
stand_after net v (Allow k) z = if get_or z.barred (k - 1) false then record z { barred = set z.barred (k - 1) false } else z
stand_after net v (Update q n) z = z

-- ---- one event

up_at : (s : State) (k : ℕ) → get_or (map (λ r. r.up) s.rows) k true ≡ (row s k).up
up_at s k = get_or-map (λ (r : Row). r.up) s.rows k no_row

stand_settle : (net : Net) (v t : ℕ) (s : State) → stand (settle net v t s).state ≡ stand s
stand_settle net v t s = elim (cases_Bool (s.rib.0 == (best net v s).0)) [ inl b ↦ rw b refl | inr b ↦ rw b refl ]

-- the router stands so, with these links up
abbrev with_ups : State → List Bool → Stand
with_ups s us = record { order = s.order; barred = s.barred; ups = us }

stand_fail : (net : Net) (v t : ℕ) (s : State) (k : ℕ)
    → stand (if (row s k).up then settle net v t (with_failed_link s k) else record { state = s; sends = [] }).state
    ≡ (let z = stand s in if get_or z.ups k true then record z { ups = set z.ups k false } else z)
stand_fail net v t s k = grind (arith, up_at, cases_Bool, stand_settle, map-set)

stand_restore : (net : Net) (v : ℕ) (s : State) (w : ℕ) (e : Event)
    → stand (acts net v s e (Restore w)).state ≡ stand_after net v (Restore w) (stand s)
stand_restore net v s w e = grind (arith, up_at, cases_Bool, map-set)

stand_acts : (net : Net) (v : ℕ) (s : State) (e : Event) (b : Body) → stand (acts net v s e b).state ≡ stand_after net v b (stand s)
stand_acts net v s e Start = stand_settle net v e.time s
stand_acts net v s e (Fail w) = stand_fail net v e.time s (slot net v w)
stand_acts net v s e (Restore w) = stand_restore net v s w e
stand_acts net v s e (Swap i j) = stand_settle net v e.time (with_swap s i j)
stand_acts net v s e (Forbid k) = grind arith
stand_acts net v s e (Allow k) = grind arith
stand_acts net v s e (Update q n) = grind (arith, cases_Bool, stand_settle, map-set_same)

-- ---- along a history

module _ (case : Case) (is : IsCase case) (v : ℕ) where
  pub stand_more : (e : Event) (h : List Event) → e.dst ≡ v → stand (state (simulation case) v (e ∷ h)) ≡ stand_after case.net v e.body (stand (state (simulation case) v h))
  stand_more e h home = ap stand (state_home case v e h home) ∙ stand_acts case.net v (state (simulation case) v h) e e.body

  -- how v stands after these scripted events
  abbrev pub stand_along : List Event → Stand
  stand_along [] = stand (opening case.net v)
  stand_along (e ∷ h) = stand_after case.net v e.body (stand_along h)

  abbrev pub scripted_in : List Event → List Event
  scripted_in h = filter (λ e. is_scripted e.body) h

  -- only scripted events change how a router stands
  pub stands_along : (h : List Event) → ((e : Event) → In e h → e.dst ≡ v) → stand (state (simulation case) v h) ≡ stand_along (scripted_in h)
  stands_along [] home = refl
  stands_along (e ∷ h) home =
      let more = stands_along h (λ x k. home x (inr k)) in
      let here = stand_more e h (home e (inl refl)) ∙ ap (stand_after case.net v e.body) more in
      elim (cases_Bool (is_scripted e.body)) [
        | inl b ↦ (let kept : scripted_in (e ∷ h) ≡ e ∷ scripted_in h = rw b refl in here ∙ ap stand_along (sym kept))
        | inr b ↦ grind arith
      ]

  -- a history that has all of its router's scripted events
  pub record HasWholeScript (h : List Event) : Type 0 where
    pub falls : Falls h
    pub home : (e : Event) → In e h → e.dst ≡ v
    pub opened : (e : Event) → In e (opening_events case.scenes) → e.dst ≡ v → In e h
    pub scripted : (e : Event) → In e h → is_scripted e.body ≡ true → In e (opening_events case.scenes)

  scripted_too : (h k : List Event) → HasWholeScript h → HasWholeScript k → (e : Event) → In e (scripted_in h) → In e (scripted_in k)
  scripted_too h k mine others e i = grind (arith, in_filter, in_filtered)

  -- with all of its scripted events handled, a router stands as it does after every other such history
  pub same_stand : (h k : List Event) → HasWholeScript h → HasWholeScript k → stand (state (simulation case) v h) ≡ stand (state (simulation case) v k)
  same_stand h k mine others =
      let same = same_falls case is (scripted_in h) (scripted_in k)
      (falls-filter case is (λ e. is_scripted e.body) h mine.falls) (falls-filter case is (λ e. is_scripted e.body) k others.falls)
      (scripted_too h k mine others) (scripted_too k h others mine) in
      stands_along h mine.home ∙ (ap stand_along same ∙ sym (stands_along k others.home))

-- ---- what is stable depends on how a router stands

-- whether a neighbour whose link is up has a path that v followed by it is q
abbrev pub leads_to : Net → ℕ → (ℕ → PathNo) → PathNo → Hop × Bool → Bool
leads_to net v ribs q p = p.1 && (not ((ribs p.0.peer).0 == 0) && same_path (path net q) (v ∷ path net (ribs p.0.peer)))

any_ups : (net : Net) (v : ℕ) (ribs : ℕ → PathNo) (q : PathNo) (hs : List Hop) (rs : List Row)
    → list_any (reaches net v ribs q) (zip hs rs) ≡ list_any (leads_to net v ribs q) (zip hs (map (λ r. r.up) rs))
any_ups net v ribs q [] rs = refl
any_ups net v ribs q (h ∷ hs) [] = refl
any_ups net v ribs q (h ∷ hs) (r ∷ rs) = ap (λ b. leads_to net v ribs q (h, r.up) || b) (any_ups net v ribs q hs rs)

-- whether the path may be used by how the router stands
abbrev pub allowed : Net → ℕ → (ℕ → PathNo) → Stand → PathNo → Bool
allowed net v ribs z q = not (bars net v z.barred q) && list_any (leads_to net v ribs q) (zip (hops_of net v) z.ups)

-- the best path by how the router stands
unfoldable pub stable_by : Net → ℕ → (ℕ → PathNo) → Stand → PathNo
stable_by net v ribs z = if v == 0 then origin_path else unwrap_or (find (allowed net v ribs z) z.order) empty_path

pub stable_is : (net : Net) (v : ℕ) (ribs : ℕ → PathNo) (s : State) → stable_path net ribs v s ≡ stable_by net v ribs (stand s)
unfolding stable_by
stable_is net v ribs s = grind (arith, find_agree, not, any_ups)

-- what is best by what the others use depends on how the router stands alone
pub stable_stand : (net : Net) (v : ℕ) (ribs : ℕ → PathNo) (s z : State) → stand s ≡ stand z → stable_path net ribs v s ≡ stable_path net ribs v z
stable_stand net v ribs s z same = stable_is net v ribs s ∙ (ap (stable_by net v ribs) same ∙ sym (stable_is net v ribs z))
