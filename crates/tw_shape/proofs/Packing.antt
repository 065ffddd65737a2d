-- Shapes as they are stored: routers are stored alike exactly where they are the same, and pending events in any order.
use Rattle.std.proofs.Common.{◌≡◌, ℕ, suc, zero, ◌+◌, ◌-◌, ◌≤◌, ◌==◌, Bool, false, true, ◌&&◌, not, slice_index, List, [], ◌∷◌, ◌++◌, drop, length, map, take, min, refl, ap, sym, ◌∙◌, subst, ◌⊎◌, inl, inr, arith}
use lib.Pointwise.{pointwise, pointwise_decides}
use Rattle.std.specs.Bool.{Decides, beq, one_answer}
use Rattle.std.specs.Cmp.{unsigned_Decides}
use Rattle.std.specs.List.{All, fold, list_all}
use Rattle.std.specs.Global.{Vec}
use Rattle.std.specs.Vec.{with_items}
use Rattle.std.proofs.lemmas.Bool.{cases_lt}
use Rattle.std.proofs.lemmas.List.{length-append, length-map, with_items_is}
use Rattle.std.proofs.lemmas.List.Folds.{list_all-map}
use Rattle.tw_event.specs.declared.event.Event.{Event}
use Rattle.tw_event.specs.declared.event.PathNo.{PathNo}
use Rattle.tw_event.specs.Order.{event_before, event_same}
use Rattle.tw_model.specs.declared.state.Row.{Row}
use Rattle.tw_sim.proofs.Members.{In, all_from_in, in_from_all}
use Rattle.tw_shape.specs.contracts.shape.SpanPartialEq.TheImpl as span_eqs
use Rattle.tw_shape.specs.contracts.shape.PartsPartialEq.TheImpl as parts_eqs
use Rattle.tw_shape.specs.declared.shape.Parts.{Parts}
use Rattle.tw_shape.specs.declared.shape.Span.{Span}
use Rattle.tw_shape.specs.Shape.{IsStill, RouterShape, Shape, can_repeat, is_update, later, seen_from, sooner}
use Rattle.tw_shape.specs.Same.{same_path, same_router, same_row, same_shape}
use Rattle.tw_shape.specs.declared.shape.Shape.TheInside.{Inside}
use Rattle.tw_shape.specs.Packed.{Covers, hash_by, in_order, least_time, routers_of, seen}
use Rattle.tw_shape.specs.Storage.{IsHashed, routers_in, shape_of}
use Rattle.tw_shape.proofs.Multiset.{all_in-insert_all, from_in_order, in_order_again, to_in_order}
use Rattle.tw_shape.proofs.Hashing.{hash_in_order}
use Rattle.tw_shape.proofs.Sameness.{both_decide, lists_decide, path_decides, router_decides}
use Rattle.tw_sim.proofs.Ordered.{length-insert_all}

-- ---- the code's equality of parts

span_of : PathNo → ℕ → ℕ → ℕ → Span
span_of p a b n = record { rib = p; rows = a; order = b; barred = n }

span_decides : (r s : Span) → Decides (span_eqs.ghosts.eq r s) (r ≡ s)
unfolding span_of
span_decides r s =
    both_decide (same_path r.rib s.rib) ((r.rows == s.rows) && ((r.order == s.order) && (r.barred == s.barred))) (path_decides r.rib s.rib)
    (both_decide {R = (r.rows ≡ s.rows) × (r.order ≡ s.order) × (r.barred ≡ s.barred)} (r.rows == s.rows) ((r.order == s.order) && (r.barred == s.barred))
    (unsigned_Decides r.rows s.rows)
    (both_decide {R = (r.order ≡ s.order) × (r.barred ≡ s.barred)} (r.order == s.order) (r.barred == s.barred)
    (unsigned_Decides r.order s.order) (unsigned_Decides r.barred s.barred) (λ p q. (p, q)) (λ p. (p.0, p.1)))
    (λ p q. (p, q.0, q.1)) (λ p. (p.0, (p.1, p.2))))
    (λ p q. let all : span_of r.rib r.rows r.order r.barred ≡ span_of s.rib s.rows s.order s.barred = (let a = q.0 in let b = q.1 in let n = q.2 in cc) in all)
    (λ e. (ap (λ x. x.rib) e, (ap (λ x. x.rows) e, ap (λ x. x.order) e, ap (λ x. x.barred) e)))

-- two shapes' routers are stored alike
pub record AreStoredAlike (p q : Parts) : Type 0 where
  pub spans : p.spans.items ≡ q.spans.items
  pub rows : p.rows.items ≡ q.rows.items
  pub order : p.order.items ≡ q.order.items
  pub barred : p.barred.items ≡ q.barred.items

parts_decide : (p q : Parts) → Decides (parts_eqs.ghosts.eq p q) (AreStoredAlike p q)
parts_decide p q =
    both_decide (pointwise span_eqs.ghosts.eq p.spans.items q.spans.items)
    (pointwise same_row p.rows.items q.rows.items && (pointwise same_path p.order.items q.order.items && pointwise beq p.barred.items q.barred.items))
    (pointwise_decides span_decides p.spans.items q.spans.items)
    (lists_decide p.rows.items q.rows.items p.order.items q.order.items p.barred.items q.barred.items)
    (λ a b. record { spans = a; rows = b.0; order = b.1; barred = b.2 })
    (λ r. (r.spans, (r.rows, r.order, r.barred)))

-- ---- the routers

take_drop : {X : Type 0} (n m : ℕ) (xs ys : List X) → n ≤ length xs → m ≤ length ys → take n xs ≡ take m ys → drop n xs ≡ drop m ys → (n ≡ m) × (xs ≡ ys)
take_drop zero zero xs ys a b t d = (refl, d)
take_drop zero (suc m) xs [] a b t d = absurd (omega arith)
take_drop zero (suc m) xs (y ∷ ys) a b t d = cc
take_drop (suc n) zero [] ys a b t d = absurd (omega arith)
take_drop (suc n) zero (x ∷ xs) ys a b t d = cc
take_drop (suc n) (suc m) [] ys a b t d = absurd (omega arith)
take_drop (suc n) (suc m) (x ∷ xs) [] a b t d = absurd (omega arith)
take_drop (suc n) (suc m) (x ∷ xs) (y ∷ ys) a b t d =
    let head : x ≡ y = cc in
    let r = take_drop n m xs ys (omega arith) (omega arith) (let k : take n xs ≡ take m ys = cc in k) d in
    (ap suc r.0, (let k = r.1 in cc))

-- the same routers have the same spans, rows, paths and bars
routers_back : (ss ts : List Span) (rs qs : List Row) (os ps : List PathNo) (bs cs : List Bool) → Covers ss rs os bs → Covers ts qs ps cs
    → routers_of ss rs os bs ≡ routers_of ts qs ps cs → (ss ≡ ts) × (rs ≡ qs) × (os ≡ ps) × (bs ≡ cs)
routers_back [] [] rs qs os ps bs cs c d h = (refl, c.0 ∙ sym d.0, c.1 ∙ sym d.1, c.2 ∙ sym d.2)
routers_back [] (t ∷ ts) rs qs os ps bs cs c d h = cc
routers_back (s ∷ ss) [] rs qs os ps bs cs c d h = cc
routers_back (s ∷ ss) (t ∷ ts) rs qs os ps bs cs c d h =
    let one : RouterShape = record { rib = s.rib; rows = take s.rows rs; order = take s.order os; barred = take s.barred bs } in
    let two : RouterShape = record { rib = t.rib; rows = take t.rows qs; order = take t.order ps; barred = take t.barred cs } in
    let head : one ≡ two = cc in
    let tail : routers_of ss (drop s.rows rs) (drop s.order os) (drop s.barred bs) ≡ routers_of ts (drop t.rows qs) (drop t.order ps) (drop t.barred cs) = cc in
    let more = routers_back ss ts (drop s.rows rs) (drop t.rows qs) (drop s.order os) (drop t.order ps) (drop s.barred bs) (drop t.barred cs) c.3 d.3 tail in
    let rows = take_drop s.rows t.rows rs qs c.0 d.0 (ap (λ r. r.rows) head) more.1 in
    let order = take_drop s.order t.order os ps c.1 d.1 (ap (λ r. r.order) head) more.2 in
    let barred = take_drop s.barred t.barred bs cs c.2 d.2 (ap (λ r. r.barred) head) more.3 in
    let span = span_same s t (ap (λ r. r.rib) head) rows.0 order.0 barred.0 in
    let spans = more.0 in
    (cc, rows.1, order.1, barred.1) where
      span_same : (s t : Span) → s.rib ≡ t.rib → s.rows ≡ t.rows → s.order ≡ t.order → s.barred ≡ t.barred → s ≡ t
      span_same s t a b e n = λ i. record { rib = a i; rows = b i; order = e i; barred = n i }

-- the code's equality of parts is the definition's of routers
pub routers_same : (p q : Parts) → Covers p.spans.items p.rows.items p.order.items p.barred.items → Covers q.spans.items q.rows.items q.order.items q.barred.items
    → parts_eqs.ghosts.eq p q ≡ pointwise same_router (routers_in p) (routers_in q)
routers_same p q a b =
    let k = pointwise_decides router_decides (routers_in p) (routers_in q) in
    one_answer (parts_eqs.ghosts.eq p q) (pointwise same_router (routers_in p) (routers_in q)) (parts_decide p q) (
      (λ h. let r = routers_back p.spans.items q.spans.items p.rows.items q.rows.items p.order.items q.order.items p.barred.items q.barred.items a b (k.0 h) in
          record { spans = r.0; rows = r.1; order = r.2; barred = r.3 }),
      (λ h. k.1 (λ i. routers_of (h.spans i) (h.rows i) (h.order i) (h.barred i))),
    )

-- ---- the pending events

abbrev least_from : ℕ → List Event → ℕ
least_from a xs = fold (λ t x. min t x.time) a xs

least_is : (a : ℕ) (xs : List Event) → (least_from a xs ≡ a) ⊎ ((e : Event) × In e xs × (e.time ≡ least_from a xs))
least_is a [] = inl refl
least_is a (x ∷ xs) =
    elim (least_is (min a x.time) xs) [
      | inr r ↦ inr (r.0, inr r.1, r.2)
      | inl h ↦ elim (cases_lt x.time a) [
        | inl l ↦ inr (x, inl refl, (let k : x.time ≡ min a x.time = omega arith in k) ∙ sym h)
        | inr l ↦ inl (h ∙ (let k : min a x.time ≡ a = omega arith in k))
      ]
    ]

least_stands : (x : Event) (xs : List Event) → (e : Event) × In e (x ∷ xs) × (e.time ≡ least_time (x ∷ xs))
least_stands x xs =
    elim (least_is x.time xs) [
      | inl h ↦ (x, inl refl, sym h)
      | inr r ↦ (r.0, inr r.1, r.2)
    ]

-- no event is before the least time
least_below : (a : ℕ) (xs : List Event) → (least_from a xs ≤ a) × ((e : Event) → In e xs → least_from a xs ≤ e.time)
least_below a [] = (omega arith, (λ e h. absurd h))
least_below a (x ∷ xs) =
    let r = least_below (min a x.time) xs in
    let first : least_from (min a x.time) xs ≤ min a x.time = r.0 in (
      omega arith,
      (λ e h. elim h [
        | inl is ↦ subst (λ z. least_from (min a x.time) xs ≤ z.time) (sym is) (omega arith)
        | inr k ↦ r.1 e k
      ]),
    )

-- ---- gathering routers

next_rows : {X : Type 0} (n : ℕ) (xs ys : List X) → n ≤ length xs → (take n (xs ++ ys) ≡ take n xs) × (drop n (xs ++ ys) ≡ drop n xs ++ ys)
next_rows zero xs ys h = (refl, refl)
next_rows (suc n) [] ys h = absurd (omega arith)
next_rows (suc n) (x ∷ xs) ys h = let r = next_rows n xs ys (omega arith) in (ap (λ l. x ∷ l) r.0, r.1)

whole : {X : Type 0} (xs : List X) → (take (length xs) xs ≡ xs) × (drop (length xs) xs ≡ [])
whole [] = (refl, refl)
whole (x ∷ xs) = let r = whole xs in (ap (λ l. x ∷ l) r.0, r.1)

-- so many of the next stand there, and they are the first of what is left, before and after more are added
record IsSpanned {X : Type 0} (n : ℕ) (xs ys : List X) : Type 0 where
  pub fits : n ≤ length (xs ++ ys)
  pub first : take n (xs ++ ys) ≡ take n xs
  pub others : drop n (xs ++ ys) ≡ drop n xs ++ ys

spanned : {X : Type 0} (n : ℕ) (xs ys : List X) → n ≤ length xs → IsSpanned n xs ys
spanned n xs ys fits =
    let both = next_rows n xs ys fits in
    let long = length-append xs ys in
    record { fits = omega arith; first = both.0; others = both.1 }

-- what is added last is spanned by its length
record IsLastSpan {X : Type 0} (n : ℕ) (xs ys : List X) : Type 0 where
  pub fits : n ≤ length (xs ++ ys)
  pub first : take n (xs ++ ys) ≡ ys
  pub others : drop n (xs ++ ys) ≡ []

last_span : {X : Type 0} (n : ℕ) (xs ys : List X) → n ≡ length ys → xs ≡ [] → IsLastSpan n xs ys
last_span n xs ys all none =
    let both = whole ys in
    let joined : xs ++ ys ≡ ys = ap (λ l. l ++ ys) none in
    record {
      fits = subst (λ l. n ≤ length l) (sym joined) (omega arith);
      first = ap (take n) joined ∙ ap (λ k. take k ys) all ∙ both.0;
      others = ap (drop n) joined ∙ ap (λ k. drop k ys) all ∙ both.1;
    }

-- one more router, with the rows, paths and bars that follow
pub covers-push : (ss : List Span) (rows rs : List Row) (order os : List PathNo) (barred bs : List Bool) (s : Span)
    → s.rows ≡ length rs → s.order ≡ length os → s.barred ≡ length bs → Covers ss rows order barred → Covers (ss ++ s ∷ []) (rows ++ rs) (order ++ os) (barred ++ bs)
covers-push [] rows rs order os barred bs s a b e c =
    let r = last_span s.rows rows rs a c.0 in
    let o = last_span s.order order os b c.1 in
    let n = last_span s.barred barred bs e c.2 in
    (r.fits, o.fits, n.fits, (r.others, o.others, n.others))
covers-push (t ∷ ss) rows rs order os barred bs s a b e c =
    let r = spanned t.rows rows rs c.0 in
    let o = spanned t.order order os c.1 in
    let n = spanned t.barred barred bs c.2 in
    let more = covers-push ss (drop t.rows rows) rs (drop t.order order) os (drop t.barred barred) bs s a b e c.3 in
    (r.fits, o.fits, n.fits, rw (r.others, o.others, n.others) more)

pub routers-push : (ss : List Span) (rows rs : List Row) (order os : List PathNo) (barred bs : List Bool) (s : Span)
    → s.rows ≡ length rs → s.order ≡ length os → s.barred ≡ length bs → Covers ss rows order barred
    → routers_of (ss ++ s ∷ []) (rows ++ rs) (order ++ os) (barred ++ bs) ≡ routers_of ss rows order barred ++ record { rib = s.rib; rows = rs; order = os; barred = bs } ∷ []
routers-push [] rows rs order os barred bs s a b e c =
    let r = last_span s.rows rows rs a c.0 in
    let o = last_span s.order order os b c.1 in
    let n = last_span s.barred barred bs e c.2 in
    λ i. record { rib = s.rib; rows = r.first i; order = o.first i; barred = n.first i } ∷ []
routers-push (t ∷ ss) rows rs order os barred bs s a b e c =
    let r = spanned t.rows rows rs c.0 in
    let o = spanned t.order order os c.1 in
    let n = spanned t.barred barred bs c.2 in
    let more = routers-push ss (drop t.rows rows) rs (drop t.order order) os (drop t.barred barred) bs s a b e c.3 in
    let rest : routers_of (ss ++ s ∷ []) (drop t.rows (rows ++ rs)) (drop t.order (order ++ os)) (drop t.barred (barred ++ bs))
    ≡ routers_of ss (drop t.rows rows) (drop t.order order) (drop t.barred barred) ++ record { rib = s.rib; rows = rs; order = os; barred = bs } ∷ []
    = (λ i. routers_of (ss ++ s ∷ []) (r.others i) (o.others i) (n.others i)) ∙ more in
    λ i. record { rib = t.rib; rows = r.first i; order = o.first i; barred = n.first i } ∷ rest i

-- ---- counting pending times from the least

least_from-sooner : (d a : ℕ) (xs : List Event) → least_from (a - d) (map (sooner d) xs) ≡ least_from a xs - d
least_from-sooner d a [] = refl
least_from-sooner d a (x ∷ xs) =
    let head : min (a - d) (x.time - d) ≡ min a x.time - d = omega arith in
    ap (λ t. least_from t (map (sooner d) xs)) head ∙ least_from-sooner d (min a x.time) xs

least-sooner : (d : ℕ) (xs : List Event) → least_time (map (sooner d) xs) ≡ least_time xs - d
least-sooner d [] = omega arith
least-sooner d (x ∷ xs) = least_from-sooner d x.time xs

least_all : (xs : List Event) (e : Event) → In e xs → least_time xs ≤ e.time
least_all [] e h = absurd h
least_all (x ∷ xs) e (inl is) = subst (λ z. least_time (x ∷ xs) ≤ z.time) (sym is) (least_below x.time xs).0
least_all (x ∷ xs) e (inr k) = (least_below x.time xs).1 e k

-- lists with the same events have the same least time
least_same : (xs ys : List Event) → ((e : Event) → In e xs → In e ys) → ((e : Event) → In e ys → In e xs) → least_time xs ≡ least_time ys
least_same [] [] a b = refl
least_same [] (y ∷ ys) a b = absurd (b y (inl refl))
least_same (x ∷ xs) [] a b = absurd (a x (inl refl))
least_same (x ∷ xs) (y ∷ ys) a b =
    let l = least_stands x xs in
    let m = least_stands y ys in
    let first = least_all (y ∷ ys) l.0 (a l.0 l.1) in
    let second = least_all (x ∷ xs) m.0 (b m.0 m.1) in
    let one = l.2 in
    let two = m.2 in
    omega arith

least_from-seen : (t a : ℕ) (n : List ℕ) (xs : List Event) → least_from (a - t) (seen t n xs) ≡ least_from a xs - t
least_from-seen t a n [] = refl
least_from-seen t a n (x ∷ xs) =
    let head : min (a - t) (x.time - t) ≡ min a x.time - t = omega arith in
    ap (λ k. least_from k (seen t n xs)) head ∙ least_from-seen t (min a x.time) n xs

least-seen : (t : ℕ) (n : List ℕ) (xs : List Event) → least_time (seen t n xs) ≡ least_time xs - t
least-seen t n [] = omega arith
least-seen t n (x ∷ xs) = least_from-seen t x.time n xs

-- when the first is due, whatever their order
pub due_in_order : (t d : ℕ) (n : List ℕ) (xs : List Event) → d ≡ least_time xs - t → d ≡ least_time (seen t n (in_order xs))
due_in_order t d n xs is =
    is ∙ ap (λ k. k - t) (least_same xs (in_order xs) (λ e h. to_in_order e xs h) (λ e h. from_in_order e xs h)) ∙ sym (least-seen t n (in_order xs))

sooner_twice : (a b : ℕ) (xs : List Event) → map (sooner b) (map (sooner a) xs) ≡ map (sooner (a + b)) xs
sooner_twice a b [] = refl
sooner_twice a b (x ∷ xs) =
    let time : x.time - a - b ≡ x.time - (a + b) = omega arith in
    rw time (ap (λ l. sooner (a + b) x ∷ l) (sooner_twice a b xs))

-- seen from when the first is due, events are the same later, as long as none is handled
moved : (d : ℕ) (xs : List Event) → All (λ e. d ≤ e.time) xs → map (sooner (least_time (map (sooner d) xs))) (map (sooner d) xs) ≡ map (sooner (least_time xs)) xs
moved d xs still =
    ap (λ k. map (sooner k) (map (sooner d) xs)) (least-sooner d xs) ∙ sooner_twice d (least_time xs - d) xs ∙ whole_way xs still where
      whole_way : (ys : List Event) → All (λ e. d ≤ e.time) ys → map (sooner (d + (least_time ys - d))) ys ≡ map (sooner (least_time ys)) ys
      whole_way [] h = refl
      whole_way (y ∷ ys) h =
          let l = least_stands y ys in
          let time = l.2 in
          let far : d ≤ l.0.time = in_from_all (λ e. d ≤ e.time) (y ∷ ys) h l.0 l.1 in
          let sum : d + (least_time (y ∷ ys) - d) ≡ least_time (y ∷ ys) = omega arith in
          ap (λ k. map (sooner k) (y ∷ ys)) sum

-- ---- shapes

-- two shapes that are the same later have the same hash
pub hash_alike : (a b : Inside) → IsHashed a → IsHashed b → (s w : Shape) → shape_of a ≡ s → shape_of b ≡ w
    → (d e : ℕ) → IsStill d s → IsStill e w → later d s ≡ later e w → a.hash ≡ b.hash
hash_alike a b p q s w one two d e still too same =
    let both : later d (shape_of a) ≡ later e (shape_of b) = ap (later d) one ∙ same ∙ sym (ap (later e) two) in
    let spans = (routers_back a.parts.spans.items b.parts.spans.items a.parts.rows.items b.parts.rows.items a.parts.order.items b.parts.order.items
    a.parts.barred.items b.parts.barred.items p.covers q.covers (ap (λ z. z.routers) both)).0 in
    let first = moved d (shape_of a).pending (subst (IsStill d) (sym one) still) in
    let second = moved e (shape_of b).pending (subst (IsStill e) (sym two) too) in
    let events : map (sooner a.due) (shape_of a).pending ≡ map (sooner b.due) (shape_of b).pending
    = ap (λ k. map (sooner k) (shape_of a).pending) p.due ∙ sym first ∙ ap (λ l. map (sooner (least_time l)) l) (ap (λ z. z.pending) both)
    ∙ second ∙ sym (ap (λ k. map (sooner k) (shape_of b).pending) q.due) in
    p.hash ∙ (λ i. hash_by (spans i) (events i)) ∙ sym q.hash

pub seen_later : (t u : ℕ) (n : List ℕ) (xs : List Event) → map (λ e. sooner u (seen_from t (slice_index n e.src) e)) xs ≡ map (sooner u) (seen t n xs)
seen_later t u n [] = refl
seen_later t u n (x ∷ xs) = ap (λ l. sooner u (seen_from t (slice_index n x.src) x) ∷ l) (seen_later t u n xs)

-- events in order are seen alike where the pending events of the shapes are
pub alike_later : (a b : Inside) (xs ys : List Event) → xs ≡ in_order a.pending.events.items → ys ≡ in_order b.pending.events.items → (d e : ℕ)
    → pointwise event_same (map (λ x. sooner d (seen_from a.pending.time (slice_index a.pending.sent.items x.src) x)) xs)
    (map (λ x. sooner e (seen_from b.pending.time (slice_index b.pending.sent.items x.src) x)) ys)
    ≡ pointwise event_same (later d (shape_of a)).pending (later e (shape_of b)).pending
alike_later a b xs ys one two d e =
    (λ i. pointwise event_same (seen_later a.pending.time d a.pending.sent.items xs i) (seen_later b.pending.time e b.pending.sent.items ys i))
    ∙ (λ i. pointwise event_same (map (sooner d) (seen a.pending.time a.pending.sent.items (one i))) (map (sooner e) (seen b.pending.time b.pending.sent.items (two i))))

length_seen : (a : Inside) → length (shape_of a).pending ≡ length a.pending.events.items
length_seen a =
    let n = length-insert_all event_before a.pending.events.items [] in
    length-map (in_order a.pending.events.items) (λ e. seen_from a.pending.time (slice_index a.pending.sent.items e.src) e) ∙ (let k : length (in_order a.pending.events.items) ≡ length a.pending.events.items = omega arith in k)

-- the hash of events in any order is that of the events in order
pub hash_stored : (spans : List Span) (t u : ℕ) (n : List ℕ) (xs : List Event) (r : ℕ)
    → r ≡ hash_by spans (map (sooner u) (seen t n xs)) → r ≡ hash_by spans (map (sooner u) (seen t n (in_order xs)))
hash_stored spans t u n xs r is =
    is ∙ ap (hash_by spans) (sym (seen_later t u n xs)) ∙ sym (hash_in_order spans (λ e. sooner u (seen_from t (slice_index n e.src) e)) xs)
    ∙ ap (hash_by spans) (seen_later t u n (in_order xs))

-- events that are put in order
pub put : (v : Vec Event) (now new : List Event) → now ≡ v.items → new ≡ in_order now → (with_items v new).items ≡ in_order v.items
put v now new a b =
    let n = length-insert_all event_before v.items [] in
    with_items_is v new (ap length (b ∙ ap in_order a) ∙ (let k : length (in_order v.items) ≡ length v.items = omega arith in k) ∙ sym v.ok.0) ∙ b ∙ ap in_order a

abbrev pub with_events : Inside → Vec Event → Inside
with_events a v = record { parts = a.parts; pending = record { time = a.pending.time; sent = a.pending.sent; events = v }; due = a.due; hash = a.hash }

module _ (a : Inside) (v : Vec Event) (is : v.items ≡ in_order a.pending.events.items) where
  pending_kept : (shape_of (with_events a v)).pending ≡ (shape_of a).pending
  pending_kept = ap (seen a.pending.time a.pending.sent.items) (ap in_order is ∙ in_order_again a.pending.events.items)

  -- the shape is the same
  pub view_kept : shape_of (with_events a v) ≡ shape_of a
  view_kept = λ i. record { routers = routers_in a.parts; pending = pending_kept i }

  pub hashed_kept : IsHashed a → IsHashed (with_events a v)
  hashed_kept h = record {
    covers = h.covers;
    due = h.due ∙ ap least_time (sym pending_kept);
    hash = h.hash ∙ ap (λ l. hash_by a.parts.spans.items (map (sooner a.due) l)) (sym pending_kept);
  }

-- whether two shapes are the same later, by their parts and their pending events
module _ (a b : Inside) (p : IsHashed a) (q : IsHashed b) (s w : Shape) (one : shape_of a ≡ s) (two : shape_of b ≡ w) (d e : ℕ) where
  whole_shapes : same_shape (later d (shape_of a)) (later e (shape_of b)) ≡ same_shape (later d s) (later e w)
  whole_shapes = λ i. same_shape (later d (one i)) (later e (two i))

  pub meets_then : (m : Bool) → parts_eqs.ghosts.eq a.parts b.parts ≡ true → m ≡ pointwise event_same (later d (shape_of a)).pending (later e (shape_of b)).pending
      → m ≡ same_shape (later d s) (later e w)
  meets_then m alike is =
      is ∙ ap (λ x. x && pointwise event_same (later d (shape_of a)).pending (later e (shape_of b)).pending) (sym alike ∙ routers_same a.parts b.parts p.covers q.covers) ∙ whole_shapes

  pub meets_else : parts_eqs.ghosts.eq a.parts b.parts ≡ false → false ≡ same_shape (later d s) (later e w)
  meets_else apart =
      ap (λ x. x && pointwise event_same (later d (shape_of a)).pending (later e (shape_of b)).pending) (sym apart ∙ routers_same a.parts b.parts p.covers q.covers) ∙ whole_shapes

-- nothing pending is due before the first
pub still_first : (a : Inside) (s : Shape) → shape_of a ≡ s → IsHashed a → IsStill a.due s
still_first a s view is =
    subst (IsStill a.due) view (all_from_in (λ e. a.due ≤ e.time) (shape_of a).pending (λ e h. let k = least_all (shape_of a).pending e h in let due = is.due in omega arith))

-- and where something is pending, the first is due then
pub still_longest : (a : Inside) (s : Shape) → shape_of a ≡ s → IsHashed a → (length a.pending.events.items ≡ 0 → ⊥)
    → (k : ℕ) → IsStill k s → k ≤ a.due
still_longest a s view is some k still = go (shape_of a).pending refl (subst (IsStill k) (sym view) still) where
  go : (xs : List Event) → (shape_of a).pending ≡ xs → All (λ e. k ≤ e.time) xs → k ≤ a.due
  go [] e all = absurd (some (let n = length_seen a in let z : length (shape_of a).pending ≡ 0 = ap length e in omega arith))
  go (x ∷ xs) e all =
      let l = least_stands x xs in
      let time = l.2 in
      let far : k ≤ l.0.time = in_from_all (λ z. k ≤ z.time) (x ∷ xs) all l.0 l.1 in
      let due : a.due ≡ least_time (x ∷ xs) = is.due ∙ ap least_time e in
      omega arith

-- whether a shape can repeat, by its events in any order
pub can_repeat_stored : (a : Inside) (s : Shape) → shape_of a ≡ s → (not (length a.pending.events.items == 0) && list_all (λ e. is_update e.body) a.pending.events.items) ≡ can_repeat s
can_repeat_stored a s view =
    let xs = a.pending.events.items in
    let all : list_all (λ e. is_update e.body) xs ≡ list_all (λ e. is_update e.body) (shape_of a).pending
    = sym (and_true (list_all (λ e. is_update e.body) xs)) ∙ sym (all_in-insert_all event_before (λ e. is_update e.body) xs [])
    ∙ sym (list_all-map (λ e. is_update e.body) (λ e. seen_from a.pending.time (slice_index a.pending.sent.items e.src) e) (in_order xs)) in
    (λ i. not (sym (length_seen a) i == 0) && all i) ∙ ap can_repeat view where
      and_true : (b : Bool) → (b && true) ≡ b
      and_true true = refl
      and_true false = refl

pub still_less : (d e : ℕ) (s : Shape) → d ≤ e → IsStill e s → IsStill d s
still_less d e s le still = λ k x l. let h = still k x l in omega arith

pub later_none : (s : Shape) → later 0 s ≡ s
later_none s = λ i. record { routers = s.routers; pending = same s.pending i } where
  same : (xs : List Event) → map (sooner 0) xs ≡ xs
  same [] = refl
  same (x ∷ xs) = let now : x.time - 0 ≡ x.time = omega arith in rw now (ap (λ l. x ∷ l) (same xs))
