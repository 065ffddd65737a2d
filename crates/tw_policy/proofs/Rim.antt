-- A walk from spoke to spoke comes to a router once more, and that closes a dispute wheel.
use Rattle.std.proofs.Common.{◌≡◌, ℕ, suc, zero, ◌<◌, ◌≤◌, ◌==◌, Bool, true, false, not, List, [], ◌∷◌, ◌++◌, length, filter, refl, ap, sym, ◌∙◌, subst, ◌⊎◌, inl, inr, arith}
use Rattle.std.proofs.lemmas.Bool.{cases_Bool, cases_eq, eq-eqb, ne_eqb, not_from_false}
use Rattle.tw_event.specs.declared.event.PathNo.{PathNo}
use Rattle.tw_model.specs.Net.{Net}
use Rattle.tw_model.specs.State.{State}
use Rattle.tw_sim.proofs.Members.{In, in_filtered, in_left, in_right}
use Rattle.tw_policy.specs.DisputeWheel.{AreDisputed, IsDisputed, IsDisputeWheel, LeadsTo, Pivot, is_no_worse}

filter_short : (p : ℕ → Bool) (xs : List ℕ) → length (filter p xs) ≤ length xs
filter_short p [] = omega arith
filter_short p (x ∷ xs) = let more = filter_short p xs in elim (cases_Bool (p x)) [ inl b ↦ rw b (omega arith) | inr b ↦ rw b (omega arith) ]

filter_shorter : (p : ℕ → Bool) (x : ℕ) (xs : List ℕ) → p x ≡ false → In x xs → length (filter p xs) < length xs
filter_shorter p x (y ∷ xs) b (inl e) = grind (arith, filter_short)
filter_shorter p x (y ∷ xs) b (inr k) = grind (arith, cases_Bool, filter_shorter p x xs b k)
filter_shorter p x [] b k = absurd k

-- without a router that stands there they are fewer
pub without : (v : ℕ) (xs : List ℕ) → In v xs → length (filter (λ x. not (x == v)) xs) < length xs
without v xs i = filter_shorter (λ x. not (x == v)) v xs (rw (eq-eqb v v refl) refl) i

-- there is a dispute wheel
pub record HasWheel (net : Net) (states : ℕ → State) : Type 0 where
  pub one : Pivot
  pub others : List Pivot
  pub is : IsDisputeWheel net states one others

module _ (net : Net) (states : ℕ → State) (routers : List ℕ) (rim : ℕ → PathNo) (IsSpoke : ℕ → PathNo → Type 0) where
  -- the next router round the rim, with its spoke
  pub record Next (v : ℕ) : Type 0 where
    pub router : ℕ
    pub spoke : PathNo
    pub is : IsSpoke router spoke
    pub leads : LeadsTo net states (rim v) spoke

  -- from each spoke of a router in the list the router's rim path, ranked as high, leads to a next one
  pub record GoesRound : Type 0 where
    pub within : (v : ℕ) (s : PathNo) → IsSpoke v s → In v routers
    pub ranked : (v : ℕ) (s : PathNo) → IsSpoke v s → is_no_worse (rim v) s (states v).order ≡ true
    pub next : (v : ℕ) (s : PathNo) → IsSpoke v s → Next v

  module _ (goes : GoesRound) where
    abbrev pivot : ℕ → PathNo → Pivot
    pivot v s = record { router = v; spoke = s; rim = rim v }

    disputed : (v : ℕ) (s : PathNo) → IsSpoke v s → (g : Next v) → IsDisputed net states (pivot v s) (pivot g.router g.spoke)
    disputed v s is g = record { ranked = goes.ranked v s is; leads = g.leads }

    -- ---- a walk from giver to giver comes to a router once more

    -- each with the next one, and the last with this
    abbrev LeadTo : List Pivot → Pivot → Type 0
    LeadTo [] c = Unit {0}
    LeadTo (p ∷ ps) c = AreDisputed net states p (ps ++ c ∷ [])

    lead_on_from : (p : Pivot) (ps : List Pivot) (b c : Pivot) → AreDisputed net states p (ps ++ b ∷ []) → IsDisputed net states b c
        → AreDisputed net states p ((ps ++ b ∷ []) ++ c ∷ [])
    lead_on_from p [] b c are d = (are.0, (d, tt))
    lead_on_from p (x ∷ ps) b c are d = (are.0, lead_on_from x ps b c are.1 d)

    lead_on : (ps : List Pivot) (b c : Pivot) → LeadTo ps b → IsDisputed net states b c → LeadTo (ps ++ b ∷ []) c
    lead_on [] b c lead d = (d, tt)
    lead_on (p ∷ ps) b c lead d = lead_on_from p ps b c lead d

    -- one pivot of the walk is at this router
    abbrev IsSeen : List Pivot → ℕ → Type 0
    IsSeen ps w = (p : Pivot) × In p ps × (p.router ≡ w) × (p.rim ≡ rim w)

    instead : (p : Pivot) (ps : List Pivot) (v : ℕ) (s : PathNo) → IsSpoke v s → p.rim ≡ rim v
        → AreDisputed net states p (ps ++ pivot v s ∷ []) → AreDisputed net states (pivot v s) (ps ++ pivot v s ∷ [])
    instead p [] v s is rim_is are = (record { ranked = goes.ranked v s is; leads = subst (λ z. LeadsTo net states z s) rim_is are.0.leads }, tt)
    instead p (x ∷ ps) v s is rim_is are = (record { ranked = goes.ranked v s is; leads = subst (λ z. LeadsTo net states z x.spoke) rim_is are.0.leads }, are.1)

    close : (ps : List Pivot) (v : ℕ) (s : PathNo) → IsSpoke v s → LeadTo ps (pivot v s) → (p : Pivot) → In p ps → p.rim ≡ rim v → HasWheel net states
    close (x ∷ ps) v s is lead p (inl e) rim_is = record { one = pivot v s; others = ps; is = instead x ps v s is (ap (λ z. z.rim) (sym e) ∙ rim_is) lead }
    close (x ∷ []) v s is lead p (inr none) rim_is = absurd none
    close (x ∷ y ∷ ps) v s is lead p (inr k) rim_is = close (y ∷ ps) v s is lead.1 p k rim_is
    close [] v s is lead p k rim_is = absurd k

    walk : (n : ℕ) (unseen : List ℕ) (ps : List Pivot) (v : ℕ) (s : PathNo) → length unseen ≤ n → ((w : ℕ) → In w routers → In w unseen ⊎ IsSeen ps w)
        → IsSpoke v s → LeadTo ps (pivot v s) → HasWheel net states
    walk zero unseen ps v s few each is lead =
        elim (each v (goes.within v s is)) [
          | inr seen ↦ close ps v s is lead seen.0 seen.1 seen.3
          | inl new ↦ (let less = without v unseen new in absurd (omega arith))
        ]
    walk (suc n) unseen ps v s few each is lead =
        let g = goes.next v s is in
        elim (each v (goes.within v s is)) [
          | inr seen ↦ close ps v s is lead seen.0 seen.1 seen.3
          | inl new ↦ walk n (filter (λ x. not (x == v)) unseen) (ps ++ pivot v s ∷ []) g.router g.spoke
              (let less = without v unseen new in omega arith)
              (λ w here. elim (cases_eq w v) [
                | inl e ↦ inr (pivot v s, in_right (pivot v s) ps (pivot v s ∷ []) (inl refl), sym e, ap rim (sym e))
                | inr d ↦ grind (arith, in_filtered, not, not_from_false, ne_eqb, in_left)
              ])
              g.is (lead_on ps (pivot v s) (pivot g.router g.spoke) lead (disputed v s is g))
        ]

    -- so there is a wheel
    pub goes_round : (v : ℕ) (s : PathNo) → IsSpoke v s → HasWheel net states
    goes_round v s is = walk (length routers) routers [] v s (omega arith) (λ w here. inl here) is tt
