-- When a run is over, both ends of a link have handled the same failures and repairs of it, in the same order.
use Rattle.std.proofs.Common.{arith, ◌≡◌, ℕ, ◌==◌, Bool, true, false, List, [], ◌∷◌, map, filter, refl, ap, sym, ◌∙◌, subst, inl, inr}
use Rattle.std.specs.List.{enumerate_from}
use Rattle.std.specs.Ordering.{is_lt}
use Rattle.std.specs.declared.cmp.Ordering.TheVariants.{Equal}
use Rattle.std.proofs.lemmas.Bool.{cases_Bool, false≢true, eqb-true, eq-eqb}
use Rattle.tw_event.specs.declared.event.Body.{Body}
use Rattle.tw_event.specs.declared.event.Body.TheVariants.{Start, Fail, Restore, Swap, Forbid, Allow, Update}
use Rattle.tw_event.specs.declared.event.Event.{Event}
use Rattle.tw_event.specs.Order.{body_cmp, class_of, event_before, event_cmp}
use Rattle.tw_event.proofs.Order.{same_is, same_self}
use Rattle.tw_model.specs.declared.case.Scene.{Scene}
use Rattle.tw_model.specs.declared.case.Scene.TheVariants as scene
use Rattle.tw_sim.specs.Simulation.{IsFalling}
use Rattle.tw_model.specs.Case.{Case, IsCase, opening_events, scene_events, simulation}
use Rattle.tw_sim.proofs.Members.{In, in_filter, in_filtered, in_flat_mapped, in_map, in_mapped, in_times, times_in}
use Rattle.tw_model.proofs.Openings.{opening_of}
use Rattle.tw_sim.proofs.Unique.{same_falling}
use Rattle.tw_model.proofs.Lawful.{lawful}
use Rattle.tw_model.proofs.LinkHeard.{Falls, LinkState, link_after, link_along}
use Rattle.tw_model.proofs.LinkLast.{same_cmp}

-- whether the body is a failure or a repair of the link to w
abbrev pub about : ℕ → Body → Bool
about w Start = false
about w (Fail x) = x == w
about w (Restore x) = x == w
about w (Swap i j) = false
about w (Forbid k) = false
about w (Allow k) = false
about w (Update q n) = false

-- the same failure or repair, of the link to w
abbrev pub turn_to : ℕ → Body → Body
turn_to w Start = Start
turn_to w (Fail x) = Fail w
turn_to w (Restore x) = Restore w
turn_to w (Swap i j) = Swap i j
turn_to w (Forbid k) = Forbid k
turn_to w (Allow k) = Allow k
turn_to w (Update q n) = Update q n

-- the event as it happens at v, the other end of the link to w
abbrev pub mirror : ℕ → ℕ → Event → Event
mirror v w e = record { time = e.time; dst = v; src = v; seq = e.seq; body = turn_to w e.body }

abbrev pub marks : ℕ → List Event → List Event
marks w h = filter (λ e. about w e.body) h

-- other events leave the link alone
other_after : (w t : ℕ) (b : Body) (l : LinkState) → about w b ≡ false → link_after w t b l ≡ l
other_after w t Start l h = refl
other_after w t (Fail x) l h = rw h refl
other_after w t (Restore x) l h = rw h refl
other_after w t (Swap i j) l h = refl
other_after w t (Forbid k) l h = refl
other_after w t (Allow k) l h = refl
other_after w t (Update q n) l h = refl

link_marks : (w : ℕ) (h : List Event) → link_along w h ≡ link_along w (marks w h)
link_marks w [] = refl
link_marks w (e ∷ h) = grind (arith, cases_Bool, link_after, other_after, link_along, link_marks w h)

turned_after : (v w t : ℕ) (b : Body) (l : LinkState) → about v b ≡ true → link_after v t b l ≡ link_after w t (turn_to w b) l
turned_after v w t Start l h = cc
turned_after v w t (Fail x) l h = rw (h, eq-eqb w w refl) refl
turned_after v w t (Restore x) l h = rw (h, eq-eqb w w refl) refl
turned_after v w t (Swap i j) l h = cc
turned_after v w t (Forbid k) l h = cc
turned_after v w t (Allow k) l h = cc
turned_after v w t (Update q n) l h = cc

link_mirror : (v w : ℕ) (xs : List Event) → ((e : Event) → In e xs → about v e.body ≡ true) → link_along v xs ≡ link_along w (map (mirror v w) xs)
link_mirror v w [] all = refl
link_mirror v w (e ∷ xs) all =
    ap (link_after v e.time e.body) (link_mirror v w xs (λ x k. all x (inr k))) ∙ turned_after v w e.time e.body (link_along w (map (mirror v w) xs)) (all e (inl refl))

-- an event of router w about its link to v
pub record IsMark (w v : ℕ) (e : Event) : Type 0 where
  pub dst : e.dst ≡ w
  pub src : e.src ≡ w
  pub about : about v e.body ≡ true

turned_class : (w : ℕ) (b : Body) → class_of (turn_to w b) ≡ class_of b
turned_class w Start = refl
turned_class w (Fail x) = refl
turned_class w (Restore x) = refl
turned_class w (Swap i j) = refl
turned_class w (Forbid k) = refl
turned_class w (Allow k) = refl
turned_class w (Update q n) = refl

about_cmp : (v : ℕ) (b c : Body) → about v b ≡ true → about v c ≡ true → body_cmp b c ≡ Equal
about_cmp v (Fail x) (Fail y) h k = same_cmp x y (eqb-true x v h ∙ sym (eqb-true y v k))
about_cmp v (Restore x) (Restore y) h k = same_cmp x y (eqb-true x v h ∙ sym (eqb-true y v k))
about_cmp v (Swap i j) (Swap k l) h m = absurd (false≢true h)
about_cmp v (Forbid k) (Forbid l) h m = absurd (false≢true h)
about_cmp v (Allow k) (Allow l) h m = absurd (false≢true h)
about_cmp v (Update q n) (Update p m) h k = absurd (false≢true h)
about_cmp v b c h k = refl

turned_about : (v w : ℕ) (b : Body) → about v b ≡ true → about w (turn_to w b) ≡ true
turned_about v w (Fail x) h = eq-eqb w w refl
turned_about v w (Restore x) h = eq-eqb w w refl
turned_about v w Start h = h
turned_about v w (Swap i j) h = h
turned_about v w (Forbid k) h = h
turned_about v w (Allow k) h = h
turned_about v w (Update q n) h = h

-- at the other end they come in the same order
mirror_cmp : (v w : ℕ) (x y : Event) → IsMark w v x → IsMark w v y → event_cmp (mirror v w x) (mirror v w y) ≡ event_cmp x y
mirror_cmp v w x y m n = grind (arith, same_cmp, about_cmp, turned_about, turned_class)

mirror_back : (v w : ℕ) (e : Event) → IsMark w v e → mirror w v (mirror v w e) ≡ e
mirror_back v w e m = grind arith

-- a scenario line about a link opens with an event at each end
mirror_scene : (v w n : ℕ) (s : Scene) (e : Event) → In e (scene_events n s) → IsMark w v e → In (mirror v w e) (scene_events n s)
mirror_scene v w n (scene.Fail t a b) e (inl is) m = grind arith
mirror_scene v w n (scene.Fail t a b) e (inr (inl is)) m = grind arith
mirror_scene v w n (scene.Restore t a b) e (inl is) m = grind arith
mirror_scene v w n (scene.Restore t a b) e (inr (inl is)) m = grind arith
mirror_scene v w n (scene.Swap t x i j) e (inl is) m =
    absurd (false≢true (subst (λ z. about v z.body ≡ true) is m.about))
mirror_scene v w n (scene.Forbid t x k) e (inl is) m =
    absurd (false≢true (subst (λ z. about v z.body ≡ true) is m.about))
mirror_scene v w n (scene.Allow t x k) e (inl is) m =
    absurd (false≢true (subst (λ z. about v z.body ≡ true) is m.about))
mirror_scene v w n (scene.Fail t a b) e (inr (inr z)) m = absurd z
mirror_scene v w n (scene.Restore t a b) e (inr (inr z)) m = absurd z
mirror_scene v w n (scene.Swap t x i j) e (inr z) m = absurd z
mirror_scene v w n (scene.Forbid t x k) e (inr z) m = absurd z
mirror_scene v w n (scene.Allow t x k) e (inr z) m = absurd z

module _ (case : Case) (is : IsCase case) where
  mirror_opening : (v w : ℕ) (e : Event) → In e (opening_events case.scenes) → IsMark w v e → In (mirror v w e) (opening_events case.scenes)
  mirror_opening v w e h m =
      elim (opening_of case is e h) [
        | inl start ↦ absurd (false≢true (subst (λ z. about v z.body ≡ true) start m.about))
        | inr o ↦ inr (in_flat_mapped (λ l. scene_events l.0 l.1) o.0 (mirror v w e) (enumerate_from 1 case.scenes) (mirror_scene v w o.0.0 o.0.1 e o.2 m) o.1)
      ]

  pub falling_from : (xs : List Event) → Falls xs → IsFalling (simulation case) xs
  falling_from [] f = tt
  falling_from (x ∷ xs) f = ((λ e k. f.0 e (in_times (simulation case) same_is e xs k)), falling_from xs f.1)

  pub falls_from : (xs : List Event) → IsFalling (simulation case) xs → Falls xs
  falls_from [] f = tt
  falls_from (x ∷ xs) f = ((λ e k. f.0 e (times_in (simulation case) same_self e xs k)), falls_from xs f.1)

  -- two falling lists of the same events are one
  pub same_falls : (xs ys : List Event) → Falls xs → Falls ys → ((e : Event) → In e xs → In e ys) → ((e : Event) → In e ys → In e xs) → xs ≡ ys
  same_falls xs ys f g to back =
      same_falling (simulation case) (lawful case is) xs ys (falling_from xs f) (falling_from ys g)
      (λ e k. times_in (simulation case) same_self e ys (to e (in_times (simulation case) same_is e xs k)))
      (λ e k. times_in (simulation case) same_self e xs (back e (in_times (simulation case) same_is e ys k)))

  pub falls-filter : (p : Event → Bool) (xs : List Event) → Falls xs → Falls (filter p xs)
  falls-filter p [] f = tt
  falls-filter p (x ∷ xs) f = grind (arith, cases_Bool, in_filter, falls-filter p xs f.1)

  falls-mirror : (v w : ℕ) (xs : List Event) → ((e : Event) → In e xs → IsMark w v e) → Falls xs → Falls (map (mirror v w) xs)
  falls-mirror v w [] all f = tt
  falls-mirror v w (x ∷ xs) all f = (
    (λ e k.
        let o = in_map (mirror v w) e xs k in
        subst (λ z. event_before z (mirror v w x) ≡ true) (sym o.1) (ap is_lt (mirror_cmp v w o.0 x (all o.0 (inr o.2)) (all x (inl refl))) ∙ f.0 o.0 o.2)),
    falls-mirror v w xs (λ e k. all e (inr k)) f.1,
  )

  -- the history of a router that has handled all its opening events
  pub record HasOpened (r : ℕ) (h : List Event) : Type 0 where
    pub falls : Falls h
    pub home : (e : Event) → In e h → e.dst ≡ r
    pub opened : (e : Event) → In e (opening_events case.scenes) → e.dst ≡ r → In e h
    pub links : (e : Event) (x : ℕ) → In e h → about x e.body ≡ true → In e (opening_events case.scenes)

  opening_source : (e : Event) (v : ℕ) → about v e.body ≡ true → In e (opening_events case.scenes) → e.src ≡ e.dst
  opening_source e v a h =
      elim (opening_of case is e h) [
        | inl start ↦ absurd (false≢true (subst (λ z. about v z.body ≡ true) start a))
        | inr o ↦ o.3.src
      ]

  mark_of : (r x : ℕ) (h : List Event) → HasOpened r h → (e : Event) → In e (marks x h) → IsMark r x e × In e (opening_events case.scenes)
  mark_of r x h has e k = grind (arith, in_filter, opening_source)

  mirrored : (v w : ℕ) (here there : List Event) → HasOpened v here → HasOpened w there → (e : Event) → In e (marks v there) → In (mirror v w e) (marks w here)
  mirrored v w here there has_here has_there e k =
      let m = mark_of w v there has_there e k in
      in_filtered (λ z. about w z.body) (mirror v w e) here (turned_about v w e.body m.0.about) (has_here.opened (mirror v w e) (mirror_opening v w e m.1 m.0) refl)

  -- both ends of a link know it alike
  pub ends_agree : (v w : ℕ) (here there : List Event) → HasOpened v here → HasOpened w there → link_along w here ≡ link_along v there
  ends_agree v w here there has_here has_there =
      let same : map (mirror v w) (marks v there) ≡ marks w here = same_falls (map (mirror v w) (marks v there)) (marks w here)
      (falls-mirror v w (marks v there) (λ e k. (mark_of w v there has_there e k).0) (falls-filter (λ e. about v e.body) there has_there.falls))
      (falls-filter (λ e. about w e.body) here has_here.falls)
      (λ e k. let o = in_map (mirror v w) e (marks v there) k in subst (λ z. In z (marks w here)) (sym o.1) (mirrored v w here there has_here has_there o.0 o.2))
      (λ e k.
      let m = mark_of v w here has_here e k in
      subst (λ z. In z (map (mirror v w) (marks v there))) (mirror_back w v e m.0)
      (in_mapped (mirror v w) (mirror w v e) (marks v there) (mirrored w v there here has_there has_here e k))) in
      link_marks w here ∙ (ap (link_along w) (sym same) ∙ (sym (link_mirror v w (marks v there) (λ e k. (mark_of w v there has_there e k).0.about)) ∙ sym (link_marks v there)))
