-- What a router heard from one neighbour: the newest update of the present session, or nothing.
use Rattle.std.proofs.Common.{◌≡◌, ℕ, suc, zero, ◌+◌, ◌<◌, ◌≤◌, ◌==◌, Bool, true, false, ◌&&◌, List, [], ◌∷◌, length, map, get_or, refl, ap, sym, ◌∙◌, subst, ◌⊎◌, inl, inr, arith, if◌then◌else◌}
use Rattle.std.proofs.lemmas.Bool.{false≢true, both_ways, and_parts, and_from, eqb-true, eqb-false, eq-eqb}
use Rattle.std.proofs.lemmas.List.{length-map}
use Rattle.tw_event.specs.declared.event.Body.{Body}
use Rattle.tw_event.specs.declared.event.Body.TheVariants.{Start, Fail, Restore, Swap, Forbid, Allow, Update}
use Rattle.tw_event.specs.declared.event.Event.{Event}
use Rattle.tw_event.specs.declared.event.PathNo.{PathNo}
use Rattle.tw_event.specs.Order.{event_before}
use Rattle.tw_model.specs.declared.net.Hop.{Hop}
use Rattle.tw_model.specs.declared.state.Row.{Row}
use Rattle.tw_model.specs.Net.{empty_path, hops_of}
use Rattle.tw_model.specs.State.{fresh_row, has_peer, no_row, row, slot}
use Rattle.tw_model.specs.Effect.{effect}
use Rattle.tw_sim.specs.Simulation.{state}
use Rattle.tw_model.specs.Case.{Case, simulation}
use Rattle.tw_sim.proofs.Members.{In}
use Rattle.tw_model.proofs.Rows.{effect_rows, row_after, row_effect}

-- the newest event first, no event twice
abbrev pub Falls : List Event → Type 0
Falls [] = Unit {0}
Falls (x ∷ xs) = ((e : Event) → In e xs → event_before e x ≡ true) × Falls xs

-- a link as its end knows it: up or not, how often repaired, and when last
pub record LinkState : Type 0 where
  pub up : Bool
  pub session : ℕ
  pub since : ℕ

-- what an event makes of the link to w
abbrev pub link_after : ℕ → ℕ → Body → LinkState → LinkState
link_after w t Start l = l
link_after w t (Fail x) l = if x == w then (if l.up then record l { up = false } else l) else l
link_after w t (Restore x) l = if x == w then (if l.up then l else record { up = true; session = l.session + 1; since = t }) else l
link_after w t (Swap i j) l = l
link_after w t (Forbid k) l = l
link_after w t (Allow k) l = l
link_after w t (Update q n) l = l

abbrev pub link_along : ℕ → List Event → LinkState
link_along w [] = record { up = true; session = 0; since = 0 }
link_along w (e ∷ h) = link_after w e.time e.body (link_along w h)

abbrev pub row_along : ℕ → List Event → Row
row_along w [] = no_row
row_along w (e ∷ h) = row_after w e.src e.body (row_along w h)

-- how an event changes the row for w, and the link
pub data Change (w : ℕ) (e : Event) (r : Row) (l : LinkState) : Row → LinkState → Type 0 where
  taken : (q : PathNo) → e.src ≡ w → e.body ≡ Update q r.session → r.up ≡ true → Change w e r l (record r { heard = q }) l
  raised : e.body ≡ Restore w → r.up ≡ false → Change w e r l (record r { up = true; session = r.session + 1 }) (record { up = true; session = l.session + 1; since = e.time })
  lowered : e.body ≡ Fail w → r.up ≡ true → Change w e r l (record r { up = false; heard = empty_path }) (record l { up = false })
  nothing : ((q : PathNo) → e.src ≡ w → e.body ≡ Update q r.session → r.up ≡ true → ⊥) → Change w e r l r l

module _ (w : ℕ) (e : Event) (r : Row) (l : LinkState) where
  not_update : (b : Body) → e.body ≡ b → ((q : PathNo) (n : ℕ) → b ≡ Update q n → ⊥) → Change w e r l r l
  not_update b is other = nothing (λ q s d u. other q r.session (sym is ∙ d))

  change_fail : (x : ℕ) → e.body ≡ Fail x → (here up : Bool) → (x == w) ≡ here → r.up ≡ up
      → Change w e r l (if here then (if up then record r { up = false; heard = empty_path } else r) else r) (if here then (if up then record l { up = false } else l) else l)
  change_fail x is true true h u = lowered (is ∙ ap Fail (eqb-true x w h)) u
  change_fail x is true false h u = not_update (Fail x) is (λ q n d. cc)
  change_fail x is false u h up = not_update (Fail x) is (λ q n d. cc)

  change_restore : (x : ℕ) → e.body ≡ Restore x → (here up : Bool) → (x == w) ≡ here → r.up ≡ up
      → Change w e r l (if here then (if up then r else record r { up = true; session = r.session + 1 }) else r)
      (if here then (if up then l else record { up = true; session = l.session + 1; since = e.time }) else l)
  change_restore x is true true h u = not_update (Restore x) is (λ q n d. cc)
  change_restore x is true false h u = raised (is ∙ ap Restore (eqb-true x w h)) u
  change_restore x is false u h up = not_update (Restore x) is (λ q n d. cc)

  change_update : (q : PathNo) (n : ℕ) → e.body ≡ Update q n → (here now : Bool) → (e.src == w) ≡ here → (r.up && r.session == n) ≡ now
      → Change w e r l (if here then (if now then record r { heard = q } else r) else r) l
  change_update q n is true true h k =
      let p = and_parts r.up (r.session == n) k in
      taken q (eqb-true e.src w h) (is ∙ ap (Update q) (sym (eqb-true r.session n p.1))) p.0
  change_update q n is true false h k =
      nothing (λ p s b u.
      let same : Update q n ≡ Update p r.session = sym is ∙ b in
      let sessions : n ≡ r.session = cc in
      both_ways (r.up && r.session == n) k (and_from r.up (r.session == n) u (eq-eqb r.session n (sym sessions))))
  change_update q n is false now h k = nothing (λ p s b u. eqb-false e.src w h s)

  change_body : l.up ≡ r.up → (b : Body) → e.body ≡ b → Change w e r l (row_after w e.src b r) (link_after w e.time b l)
  change_body same Start is = not_update Start is (λ q n d. cc)
  change_body same (Swap i j) is = not_update (Swap i j) is (λ q n d. cc)
  change_body same (Forbid k) is = not_update (Forbid k) is (λ q n d. cc)
  change_body same (Allow k) is = not_update (Allow k) is (λ q n d. cc)
  change_body same (Fail x) is = grind (arith, row_after, change_fail)
  change_body same (Restore x) is = grind (arith, row_after, change_restore)
  change_body same (Update q n) is = change_update q n is (e.src == w) (r.up && r.session == n) refl refl

pub change : (w : ℕ) (e : Event) (r : Row) (l : LinkState) → l.up ≡ r.up → Change w e r l (row_after w e.src e.body r) (link_after w e.time e.body l)
change w e r l same = change_body w e r l same e.body refl

-- the row and the link agree
pub record Agree (r : Row) (l : LinkState) : Type 0 where
  pub up : l.up ≡ r.up
  pub session : l.session ≡ r.session
  pub heard : r.up ≡ false → r.heard ≡ empty_path

agree_after : (w : ℕ) (e : Event) (r : Row) (l : LinkState) (r2 : Row) (l2 : LinkState) → Change w e r l r2 l2 → Agree r l → Agree r2 l2
agree_after w e r l r2 l2 (taken q s b u) a = record { up = a.up; session = a.session; heard = λ d. absurd (both_ways r.up d u) }
agree_after w e r l r2 l2 (raised b d) a = record { up = refl; session = ap (λ n. n + 1) a.session; heard = λ c. absurd (false≢true (sym c)) }
agree_after w e r l r2 l2 (lowered b u) a = record { up = refl; session = a.session; heard = λ c. refl }
agree_after w e r l r2 l2 (nothing no_taken) a = a

pub agree_along : (w : ℕ) (h : List Event) → Agree (row_along w h) (link_along w h)
agree_along w [] = record { up = refl; session = refl; heard = λ c. refl }
agree_along w (e ∷ h) = grind (arith, agree_after, change, agree_along w h)

pub change_along : (w : ℕ) (e : Event) (h : List Event) → Change w e (row_along w h) (link_along w h) (row_along w (e ∷ h)) (link_along w (e ∷ h))
change_along w e h = change w e (row_along w h) (link_along w h) (agree_along w h).up

-- a link was repaired no later than its last event
since_after : (w t : ℕ) (e : Event) (r : Row) (l : LinkState) (r2 : Row) (l2 : LinkState) → Change w e r l r2 l2 → e.time ≤ t → l.since ≤ t → l2.since ≤ t
since_after w t e r l r2 l2 (taken q s b u) h k = k
since_after w t e r l r2 l2 (raised b d) h k = h
since_after w t e r l r2 l2 (lowered b u) h k = k
since_after w t e r l r2 l2 (nothing no_taken) h k = k

pub since_soon : (w t : ℕ) (h : List Event) → ((e : Event) → In e h → e.time ≤ t) → (link_along w h).since ≤ t
since_soon w t [] all = omega arith
since_soon w t (e ∷ h) all =
    since_after w t e (row_along w h) (link_along w h) (row_along w (e ∷ h)) (link_along w (e ∷ h)) (change_along w e h) (all e (inl refl)) (since_soon w t h (λ y k. all y (inr k)))

-- an update from w of this session, later than this time
pub record IsFrom (w session since : ℕ) (x : Event) : Type 0 where
  pub src : x.src ≡ w
  pub path : PathNo
  pub body : x.body ≡ Update path session
  pub later : since < x.time

-- what is heard is the newest update of the session since the last repair, or nothing where there is none
pub data IsHeard (w : ℕ) (h : List Event) (r : Row) (l : LinkState) : Type 0 where
  some : (u : Event) → In u h → u.src ≡ w → u.body ≡ Update r.heard r.session
      → ((x : Event) → In x h → IsFrom w r.session l.since x → (x ≡ u) ⊎ (event_before x u ≡ true)) → IsHeard w h r l
  silent : ((x : Event) → In x h → IsFrom w r.session l.since x → ⊥) → r.heard ≡ empty_path → IsHeard w h r l

heard_more : (w : ℕ) (e : Event) (h : List Event) (r : Row) (l : LinkState) → (IsFrom w r.session l.since e → ⊥) → IsHeard w h r l → IsHeard w (e ∷ h) r l
heard_more w e h r l other (some u k s b top) =
    some u (inr k) s b (λ x i f. elim i [ inl is ↦ absurd (other (subst (IsFrom w r.session l.since) is f)) | inr i ↦ top x i f ])
heard_more w e h r l other (silent never n) =
    silent (λ x i f. elim i [ inl is ↦ other (subst (IsFrom w r.session l.since) is f) | inr i ↦ never x i f ]) n

heard_after : (w : ℕ) (e : Event) (h : List Event) → ((x : Event) → In x h → event_before x e ≡ true) → (r : Row) (l : LinkState) (r2 : Row) (l2 : LinkState)
    → Change w e r l r2 l2 → (r.up ≡ false → r.heard ≡ empty_path) → (r.up ≡ true → IsHeard w h r l) → r2.up ≡ true → IsHeard w (e ∷ h) r2 l2
heard_after w e h first r l r2 l2 (taken q s b u) empty old up =
    some e (inl refl) s b (λ x i f. elim i [ inl is ↦ inl is | inr i ↦ inr (first x i) ])
heard_after w e h first r l r2 l2 (raised b d) empty old up = grind arith
heard_after w e h first r l r2 l2 (lowered b u) empty old up = absurd (false≢true up)
heard_after w e h first r l r2 l2 (nothing no_taken) empty old up =
    heard_more w e h r l (λ f. no_taken f.path f.src f.body up) (old up)

pub heard_along : (w : ℕ) (h : List Event) → Falls h → (row_along w h).up ≡ true → IsHeard w h (row_along w h) (link_along w h)
heard_along w [] f up = silent (λ x i g. i) refl
heard_along w (e ∷ h) f up =
    heard_after w e h f.0 (row_along w h) (link_along w h) (row_along w (e ∷ h)) (link_along w (e ∷ h)) (change_along w e h) (agree_along w h).heard (λ u. heard_along w h f.1 u) up

-- ---- these rows are those of the router's states

fresh_rows : (hs : List Hop) (k : ℕ) → get_or (map fresh_row hs) k no_row ≡ no_row
fresh_rows [] k = refl
fresh_rows (h ∷ hs) zero = refl
fresh_rows (h ∷ hs) (suc k) = fresh_rows hs k

module _ (case : Case) (v : ℕ) where
  -- the state after one more event of v
  pub state_home : (e : Event) (h : List Event) → e.dst ≡ v → state (simulation case) v (e ∷ h) ≡ (effect case.net v (state (simulation case) v h) e).state
  state_home e h home = ap (λ r. (effect case.net r (state (simulation case) v h) e).state) home

  pub rows_full : (h : List Event) → ((e : Event) → In e h → e.dst ≡ v) → length (state (simulation case) v h).rows ≡ length (hops_of case.net v)
  rows_full [] all = length-map (hops_of case.net v) fresh_row
  rows_full (e ∷ h) all =
      ap (λ s. length s.rows) (state_home e h (all e (inl refl))) ∙ (effect_rows case.net v (state (simulation case) v h) e ∙ rows_full h (λ x k. all x (inr k)))

  pub row_state : (w : ℕ) → has_peer case.net v w ≡ true → (h : List Event) → ((e : Event) → In e h → e.dst ≡ v)
      → row (state (simulation case) v h) (slot case.net v w) ≡ row_along w h
  row_state w there [] all = fresh_rows (hops_of case.net v) (slot case.net v w)
  row_state w there (e ∷ h) all =
      let older = λ (x : Event) (k : In x h). all x (inr k) in
      ap (λ s. row s (slot case.net v w)) (state_home e h (all e (inl refl)))
      ∙ (row_effect case.net v w there (state (simulation case) v h) e (rows_full h older) ∙ ap (row_after w e.src e.body) (row_state w there h older))
