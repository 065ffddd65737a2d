-- What the typed getters of the matches answer, in terms of the rows.
use Rattle.std.proofs.Common.{◌≡◌, ◌↔◌, ◌∙◌, ap, sym, refl, true, false, ℕ, Bool, IsTrue, Option, Some, None, IsSome, subst, List, codes}
use Rattle.std.specs.Prelude.{Err, Ok, Result, unwrap_or}
use Rattle.std.specs.Str.Parse.{ParsesBool, ParsesUnsigned}
use Rattle.clap.specs.Values.{IsUnsignedIn}
use Rattle.clap.specs.Words.{ReadsOne, Row, Text, one_of, one_text, rows_of}
use Rattle.clap.specs.declared.parser.matches.Found.{Found}
use Rattle.clap.proofs.WalkLemmas.{one_text-rows}
use Rattle.tw_options.specs.Fit.{HasNumber, HasNumberIfGiven}
use Rattle.tw_options.specs.Says.{IsNumberGiven, IsNumberIfGiven, Sets}

module _ (E : Type 0) where
  sets_text : (t : Text) (r : Option Bool) → ReadsOne {T = Bool} {E = E} ParsesBool t r
      → IsTrue (unwrap_or r false) ↔ (Some t ≡ Some (codes "true"))
  sets_text t (Some true) h = ((λ _. ap Some h), (λ _. refl))
  sets_text t (Some false) h = ((λ e. cc), (λ e. cc))
  sets_text t None h = ((λ e. cc), (λ e. absurd (h.1.0 cc)))

  sets_if_any : (o : Option Text) (r : Option Bool) → (o ≡ None → r ≡ None)
      → ((t : Text) → o ≡ Some t → ReadsOne {T = Bool} {E = E} ParsesBool t r)
      → IsTrue (unwrap_or r false) ↔ (o ≡ Some (codes "true"))
  sets_if_any None r none some = rw (none refl) ((λ e. cc), (λ e. cc))
  sets_if_any (Some t) r none some = sets_text t r (some t refl)

  -- a flag that is read as a truth value, false where it has none
  pub sets : (f : Found) (id : Text) (r : Option Bool) → (one_text f id ≡ None → r ≡ None)
      → ((t : Text) → one_text f id ≡ Some t → ReadsOne {T = Bool} {E = E} ParsesBool t r)
      → Sets id (rows_of f) (unwrap_or r false)
  sets f id r none some = rw (← one_text-rows f id) (sets_if_any (one_text f id) r none some)

-- a text in the bounds that is read as a number
gives_text : (E : Type 0) (id t : Text) (least most : ℕ) (rows : List Row) (r : Option ℕ) → one_of id rows ≡ Some t → IsUnsignedIn least most t
    → ReadsOne {T = ℕ} {E = E} (λ u x. ParsesUnsigned 64 10 u x) t r → (n : ℕ) × (r ≡ Some n) × IsNumberGiven id least most rows n
gives_text E id t least most rows (Some n) given passed h = (
  n,
  refl,
  record {
    text = t;
    given = given;
    numeral = passed.0;
    value = h.1;
    low = rw h.1 passed.2;
    high = rw h.1 passed.3;
  },
)
gives_text E id t least most rows None given passed h = absurd (h.1 (passed.0, passed.1))

only : (E : Type 0) (G : Text → Result ℕ E → Type 0) (t : Text) (r : Option ℕ)
    → ((u : Text) (x : Result ℕ E) → G u x → ParsesUnsigned 64 10 u x) → ReadsOne G t r → ReadsOne {T = ℕ} {E = E} (λ u x. ParsesUnsigned 64 10 u x) t r
only E G t (Some n) reads h = reads t (Ok n) h
only E G t None reads h = (h.0, reads t (Err h.0) h.1)

-- an option that has a number in the bounds gives it
pub gives : (E : Type 0) (G : Text → Result ℕ E → Type 0) (f : Found) (id : Text) (least most : ℕ) (r : Option ℕ)
    → ((u : Text) (x : Result ℕ E) → G u x → ParsesUnsigned 64 10 u x) → ((t : Text) → one_text f id ≡ Some t → ReadsOne G t r)
    → HasNumber id least most (rows_of f) → (n : ℕ) × (r ≡ Some n) × IsNumberGiven id least most (rows_of f) n
gives E G f id least most r reads value has =
    gives_text E id has.0 least most (rows_of f) r has.1 has.2
    (only E G has.0 r reads (value has.0 (one_text-rows f id ∙ has.1)))

-- an option that has a number in the bounds, if it has a text, gives it if it has one
pub gives_if_given : (E : Type 0) (G : Text → Result ℕ E → Type 0) (f : Found) (id : Text) (least most : ℕ) (r : Option ℕ)
    → ((u : Text) (x : Result ℕ E) → G u x → ParsesUnsigned 64 10 u x) → (one_text f id ≡ None → r ≡ None)
    → ((t : Text) → one_text f id ≡ Some t → ReadsOne G t r) → HasNumberIfGiven id least most (rows_of f)
    → IsNumberIfGiven id least most (rows_of f) r
gives_if_given E G f id least most r reads none value has = go (one_text f id) refl
  where
    go : (o : Option Text) → one_text f id ≡ o → IsNumberIfGiven id least most (rows_of f) r
    go None e = rw (none e) (sym (one_text-rows f id) ∙ e)
    go (Some t) e =
        let given : one_of id (rows_of f) ≡ Some t = sym (one_text-rows f id) ∙ e in
        let g = gives_text E id t least most (rows_of f) r given (has t given) (only E G t r reads (value t e)) in
        rw g.1 g.2

pub is_some_of : {X : Type 0} (P : X → Type 0) (r : Option X) → (x : X) × (r ≡ Some x) × P x → IsSome r
is_some_of P r h = rw h.1 refl

pub value_of : {X : Type 0} (P : X → Type 0) (r : Option X) (y : X) → (x : X) × (r ≡ Some x) × P x → r ≡ Some y → P y
value_of P r y h is =
    let same : h.0 ≡ y = cc in
    subst P same h.2
