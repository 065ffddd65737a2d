-- A router goes from one worker to another.
use Rattle.std.proofs.Common.{arith, ℕ, zero, suc, ◌≡◌, ◌+◌, ◌<◌, ◌≤◌, ◌==◌, Bool, true, false, true≢false, cond, List, [], ◌∷◌, ◌++◌, Option, None, Some, filter, flat_map, length, map, not, set, get_or, refl, ap, sym, ◌∙◌, subst, inl, inr, append-nil}
use Rattle.std.proofs.lemmas.Bool.{cases_Bool, eq-eqb, eqb-true, ne_eqb}
use Rattle.std.proofs.lemmas.List.{get_or-set_other, length-map, length-set}
use Rattle.std.specs.List.{AllByRecursion, range_with_len}
use Rattle.std.specs.Option.{option_map}
use Rattle.tw_exchange.specs.AnyBoard.{AnyBoard, IsBoard, all_mail, is_for, is_to, is_to_another, listed, mail_of, who, with_owner, without_mail, worker_for, workers}
use Rattle.tw_exchange.proofs.Boards.{kept, reports_rise}
use Rattle.tw_exchange.proofs.Least.{all_both, mail_each}
use Rattle.tw_process.specs.Parts.{Parts}
use Rattle.tw_sim.specs.declared.machine.Signed.{Signed}

-- what follows from two facts of each
joined : {X : Type 0} (P Q R : X → Type 0) → ((x : X) → P x → Q x → R x) → (xs : List X) → AllByRecursion P xs → AllByRecursion Q xs → AllByRecursion R xs
joined P Q R f [] h k = tt
joined P Q R f (x ∷ xs) h k = (f x h.0 k.0, joined P Q R f xs h.1 k.1)

-- ---- another owner

-- other routers keep their worker
same_worker : (owners : Option (List ℕ)) (n r w k : ℕ) → (k ≡ r → ⊥) → worker_for (option_map (λ list. set list r w) owners) n k ≡ worker_for owners n k
same_worker None n r w k ne = refl
same_worker (Some list) n r w k ne = get_or-set_other list r k w n ne

module _ {E : Type 0} (parts : Parts E) where
  pub given_board : (r w : ℕ) (x : AnyBoard E) → IsBoard parts x → AllByRecursion (λ m. is_to parts r m ≡ false) (all_mail x) → IsBoard parts (with_owner r w x)
  given_board r w x h none =
      let y = with_owner r w x in
      let now : Option ℕ = Some x.bound in
      let as_many : workers y ≡ workers x = length-set x.reports w now in
      record {
        mails = h.mails ∙ sym as_many;
        home = λ k. joined (λ m. is_for parts (who x) k m ≡ true) (λ m. is_to parts r m ≡ false) (λ m. is_for parts (who y) k m ≡ true)
            (λ m here other. ap (λ v. v == k) (ap (λ n. worker_for y.owners n (parts.dst m.event)) as_many
            ∙ same_worker x.owners (workers x) r w (parts.dst m.event) (λ e. true≢false (sym (eq-eqb (parts.dst m.event) r e) ∙ other))) ∙ here)
            (mail_of k x) (h.home k) (mail_each (λ m. is_to parts r m ≡ false) x.mail none k);
        late = h.late;
        reported = reports_rise x.bound x.reports w now (let same : x.bound ≤ x.bound = omega arith in same) h.reported;
        stop = h.stop;
      }

-- ---- the mail for one router

module _ {E : Type 0} (parts : Parts E) (r : ℕ) where
  none_to : (ms : List (Signed E)) → AllByRecursion (λ m. is_to parts r m ≡ false) ms → filter (is_to parts r) ms ≡ []
  none_to [] h = refl
  none_to (m ∷ ms) h = ap (λ b. cond b (m ∷ filter (is_to parts r) ms) (filter (is_to parts r) ms)) h.0 ∙ none_to ms h.1

  all_stay : (ms : List (Signed E)) → AllByRecursion (λ m. is_to parts r m ≡ false) ms → filter (is_to_another parts r) ms ≡ ms
  all_stay [] h = refl
  all_stay (m ∷ ms) h =
      ap (λ b. cond (not b) (m ∷ filter (is_to_another parts r) ms) (filter (is_to_another parts r) ms)) h.0 ∙ ap (λ xs. m ∷ xs) (all_stay ms h.1)

  -- a worker that does not have the router has no mail for it
  pub elsewhere : (x : AnyBoard E) (k : ℕ) → IsBoard parts x → (who x r ≡ k → ⊥) → AllByRecursion (λ m. is_to parts r m ≡ false) (mail_of k x)
  elsewhere x k h ne =
      joined (λ m. is_for parts (who x) k m ≡ true) (λ m. Unit {0}) (λ m. is_to parts r m ≡ false)
      (λ m here _. ne_eqb (parts.dst m.event) r (λ e. ne (ap (who x) (sym e) ∙ eqb-true (who x (parts.dst m.event)) k here)))
      (mail_of k x) (h.home k) (units (mail_of k x)) where
        units : (ms : List (Signed E)) → AllByRecursion (λ m. Unit {0}) ms
        units [] = tt
        units (m ∷ ms) = (tt, units ms)

  filter_both : (p : Signed E → Bool) (xs ys : List (Signed E)) → filter p (xs ++ ys) ≡ filter p xs ++ filter p ys
  filter_both p [] ys = refl
  filter_both p (x ∷ xs) ys =
      elim (p x) as (λ b. cond b (x ∷ filter p (xs ++ ys)) (filter p (xs ++ ys)) ≡ cond b (x ∷ filter p xs) (filter p xs) ++ filter p ys) [
        | true ↦ ap (λ zs. x ∷ zs) (filter_both p xs ys)
        | false ↦ filter_both p xs ys
      ]

  -- where no row has any
  none_among : (mail : List (List (Signed E))) → ((k : ℕ) → AllByRecursion (λ m. is_to parts r m ≡ false) (get_or mail k [])) → filter (is_to parts r) (flat_map (λ m. m) mail) ≡ []
  none_among [] h = refl
  none_among (m ∷ ms) h =
      filter_both (is_to parts r) m (flat_map (λ m. m) ms)
      ∙ (ap (λ xs. xs ++ filter (is_to parts r) (flat_map (λ m. m) ms)) (none_to m (h 0)) ∙ none_among ms (λ k. h (suc k)))

  -- where one row alone has some
  one_among : (mail : List (List (Signed E))) (w : ℕ) → ((k : ℕ) → (w ≡ k → ⊥) → AllByRecursion (λ m. is_to parts r m ≡ false) (get_or mail k []))
      → filter (is_to parts r) (flat_map (λ m. m) mail) ≡ filter (is_to parts r) (get_or mail w [])
  one_among [] w h = refl
  one_among (m ∷ ms) zero h =
      filter_both (is_to parts r) m (flat_map (λ m. m) ms)
      ∙ (ap (λ xs. filter (is_to parts r) m ++ xs) (none_among ms (λ k. h (suc k) (λ e. absurd (cc e)))) ∙ append-nil (filter (is_to parts r) m))
  one_among (m ∷ ms) (suc w) h =
      filter_both (is_to parts r) m (flat_map (λ m. m) ms)
      ∙ (ap (λ xs. xs ++ filter (is_to parts r) (flat_map (λ m. m) ms)) (none_to m (h 0 (λ e. absurd (cc e))))
      ∙ one_among ms w (λ k ne. h (suc k) (λ e. ne (let same : w ≡ k = omega arith in same))))

  none_leaves : (mail : List (List (Signed E))) → ((k : ℕ) → AllByRecursion (λ m. is_to parts r m ≡ false) (get_or mail k [])) → map (filter (is_to_another parts r)) mail ≡ mail
  none_leaves [] h = refl
  none_leaves (m ∷ ms) h = λ i. all_stay m (h 0) i ∷ none_leaves ms (λ k. h (suc k)) i

  one_leaves : (mail : List (List (Signed E))) (w : ℕ) → ((k : ℕ) → (w ≡ k → ⊥) → AllByRecursion (λ m. is_to parts r m ≡ false) (get_or mail k []))
      → map (filter (is_to_another parts r)) mail ≡ set mail w (filter (is_to_another parts r) (get_or mail w []))
  one_leaves [] w h = refl
  one_leaves (m ∷ ms) zero h = ap (λ xs. filter (is_to_another parts r) m ∷ xs) (none_leaves ms (λ k. h (suc k) (λ e. absurd (cc e))))
  one_leaves (m ∷ ms) (suc w) h =
      λ i. all_stay m (h 0 (λ e. absurd (cc e))) i ∷ one_leaves ms w (λ k ne. h (suc k) (λ e. ne (let same : w ≡ k = omega arith in same))) i

  -- all mail for the router waits for its worker
  pub taken_is : (x : AnyBoard E) → IsBoard parts x → filter (is_to parts r) (all_mail x) ≡ filter (is_to parts r) (mail_of (who x r) x)
  taken_is x h = one_among x.mail (who x r) (λ k. elsewhere x k h)

  pub left_is : (x : AnyBoard E) → IsBoard parts x → map (filter (is_to_another parts r)) x.mail ≡ set x.mail (who x r) (filter (is_to_another parts r) (mail_of (who x r) x))
  left_is x h = one_leaves x.mail (who x r) (λ k. elsewhere x k h)

  -- a router that no worker has is sent nothing
  no_row : {X : Type 0} (mail : List (List X)) (w : ℕ) (xs : List X) → length mail ≤ w → (get_or mail w [] ≡ []) × (set mail w xs ≡ mail)
  no_row [] w xs h = (refl, refl)
  no_row (m ∷ ms) zero xs h = absurd (omega arith)
  no_row (m ∷ ms) (suc w) xs h = let rest = no_row ms w xs (omega arith) in (rest.0, ap (λ ys. m ∷ ys) rest.1)

  pub none_taken : (x : AnyBoard E) → IsBoard parts x → workers x ≤ who x r → filter (is_to parts r) (all_mail x) ≡ []
  none_taken x h past =
      let long = h.mails in
      taken_is x h ∙ ap (filter (is_to parts r)) (no_row x.mail (who x r) [] (omega arith)).0

  pub none_left : (x : AnyBoard E) → IsBoard parts x → workers x ≤ who x r → without_mail parts r x ≡ x
  none_left x h past =
      let long = h.mails in
      ap (λ mail. record x { mail = mail }) (left_is x h ∙ (no_row x.mail (who x r) (filter (is_to_another parts r) (mail_of (who x r) x)) (omega arith)).1)

  -- nothing that is left is for the router
  none_stays : (ms : List (Signed E)) → AllByRecursion (λ m. is_to parts r m ≡ false) (filter (is_to_another parts r) ms)
  none_stays [] = tt
  none_stays (m ∷ ms) =
      elim (cases_Bool (is_to parts r m)) [
        | inl mine ↦ subst (λ b. AllByRecursion (λ m. is_to parts r m ≡ false) (cond (not b) (m ∷ filter (is_to_another parts r) ms) (filter (is_to_another parts r) ms))) (sym mine) (none_stays ms)
        | inr other ↦ subst (λ b. AllByRecursion (λ m. is_to parts r m ≡ false) (cond (not b) (m ∷ filter (is_to_another parts r) ms) (filter (is_to_another parts r) ms))) (sym other) (other, none_stays ms)
      ]

  none_remains : (mail : List (List (Signed E))) → AllByRecursion (λ m. is_to parts r m ≡ false) (flat_map (λ m. m) (map (filter (is_to_another parts r)) mail))
  none_remains [] = tt
  none_remains (m ∷ ms) =
      all_both (λ m. is_to parts r m ≡ false) (filter (is_to_another parts r) m) (flat_map (λ m. m) (map (filter (is_to_another parts r)) ms)) (none_stays m) (none_remains ms)

  pub none_after : (x y : AnyBoard E) → y ≡ without_mail parts r x → AllByRecursion (λ m. is_to parts r m ≡ false) (all_mail y)
  none_after x y is = subst (λ z. AllByRecursion (λ m. is_to parts r m ≡ false) (all_mail z)) (sym is) (none_remains x.mail)

  -- what holds of all mail holds of what is left
  row_left : (P : Signed E → Type 0) (mail : List (List (Signed E))) (k : ℕ) → AllByRecursion P (get_or mail k []) → AllByRecursion P (get_or (map (filter (is_to_another parts r)) mail) k [])
  row_left P [] k h = tt
  row_left P (m ∷ ms) zero h = kept P (is_to_another parts r) m h
  row_left P (m ∷ ms) (suc k) h = row_left P ms k h

  pub without_board : (x : AnyBoard E) → IsBoard parts x → IsBoard parts (without_mail parts r x)
  without_board x h = record {
    mails = length-map x.mail (filter (is_to_another parts r)) ∙ h.mails;
    home = λ k. row_left (λ m. is_for parts (who x) k m ≡ true) x.mail k (h.home k);
    late = λ k. row_left (λ m. x.bound ≤ parts.time m.event) x.mail k (h.late k);
    reported = h.reported;
    stop = h.stop;
  }

  -- once it is taken out of its worker's mail
  pub left_out : (w : ℕ) (x : AnyBoard E) (mail : List (List (Signed E))) → IsBoard parts x → who x r ≡ w → mail ≡ set x.mail w (filter (is_to_another parts r) (mail_of w x))
      → record x { mail = mail } ≡ without_mail parts r x
  left_out w x mail h whose is =
      ap (λ rows. record x { mail = rows }) (is ∙ (ap (λ k. set x.mail k (filter (is_to_another parts r) (mail_of k x))) (sym whose) ∙ sym (left_is x h)))

  pub taken_out : (w : ℕ) (x : AnyBoard E) → IsBoard parts x → who x r ≡ w → filter (is_to parts r) (mail_of w x) ≡ filter (is_to parts r) (all_mail x)
  taken_out w x h whose = ap (λ k. filter (is_to parts r) (mail_of k x)) (sym whose) ∙ sym (taken_is x h)

-- ---- a list of the workers that routers have

of_range : (f : ℕ → ℕ) (a k r d : ℕ) → r < k → get_or (map f (range_with_len a k)) r d ≡ f (a + r)
of_range f a zero r d within = absurd (omega arith)
of_range f a (suc k) zero d within = ap f (let same : a ≡ a + 0 = omega arith in same)
of_range f a (suc k) (suc r) d within = of_range f (a + 1) k r d (omega arith) ∙ ap f (let same : a + 1 + r ≡ a + suc r = omega arith in same)

module _ {E : Type 0} where
  -- of each of them it is the same
  pub same_listed : (x : AnyBoard E) (n r : ℕ) → r < n → who (listed n x) r ≡ who x r
  same_listed x n r within = of_range (who x) 0 n r (workers x) within ∙ ap (who x) (let same : 0 + r ≡ r = omega arith in same)

module _ {E : Type 0} (parts : Parts E) where
  pub listed_board : (n : ℕ) (x : AnyBoard E) → IsBoard parts x → AllByRecursion (λ m. parts.dst m.event < n) (all_mail x) → IsBoard parts (listed n x)
  listed_board n x h within = record {
    mails = h.mails;
    home = λ k. joined (λ m. is_for parts (who x) k m ≡ true) (λ m. parts.dst m.event < n) (λ m. is_for parts (who (listed n x)) k m ≡ true)
        (λ m here l. ap (λ v. v == k) (same_listed x n (parts.dst m.event) l) ∙ here) (mail_of k x) (h.home k) (mail_each (λ m. parts.dst m.event < n) x.mail within k);
    late = h.late;
    reported = h.reported;
    stop = h.stop;
  }
