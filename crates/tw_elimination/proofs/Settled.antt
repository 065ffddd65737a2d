-- Routers whose neighbours have kept their paths keep theirs.
use Rattle.std.proofs.Common.{◌≡◌, ℕ, suc, ◌≤◌, ◌==◌, Bool, true, false, List, [], ◌∷◌, Global, get_or, length, refl, ap, sym, ◌∙◌, subst, arith, if◌then◌else◌}
use Rattle.std.specs.declared.vec.Vec.{Vec}
use Rattle.std.proofs.lemmas.Bool.{false≢true}
use Rattle.tw_event.specs.declared.event.PathNo.{PathNo}
use Rattle.tw_instance.specs.Tables.{items, row}
use Rattle.tw_model.specs.Case.{Case, IsCase}
use Rattle.tw_model.specs.Net.{origin_path}
use Rattle.tw_model.specs.State.{has_peer}
use Rattle.tw_policy.specs.Standing.{standing}
use Rattle.tw_policy.proofs.Halts as halts
use Rattle.tw_elimination.specs.Rounds.{AreLeft, AreSettled, left_in}
use Rattle.tw_elimination.proofs.Halting.{next_is, peer_below, row_is}

-- what stands within a list and is as long is that list
short : (xs ys : List PathNo) → halts.Within xs ys → length xs ≤ length ys
short _ _ halts.ended = omega arith
short _ _ (halts.keep x xs ys w) = let more = short xs ys w in omega arith
short _ _ (halts.drop x xs ys w) = let more = short xs ys w in omega arith

whole : (xs ys : List PathNo) → halts.Within xs ys → length xs ≡ length ys → xs ≡ ys
whole _ _ halts.ended same = refl
whole _ _ (halts.keep x xs ys w) same = ap (λ zs. x ∷ zs) (whole xs ys w (omega arith))
whole _ _ (halts.drop x xs ys w) same = let few = short xs ys w in absurd (omega arith)

-- where a router's neighbours have as many paths left as before the round, a round more leaves it what it has
pub settled_are : (case : Case) → IsCase case → (n : ℕ) (left next : List (Vec PathNo Global)) → AreLeft case n (items left) → AreLeft case (suc n) (items next) → (settled : List Bool)
    → ((v : ℕ) → get_or settled v false ≡ true → (w : ℕ) → has_peer case.net v w ≡ true → length (row next w) ≡ length (row left w)) → AreSettled case (row next) settled
settled_are case is n left next now later settled same v low on =
    let peers : (w : ℕ) → has_peer case.net v w ≡ true → left_in case (suc n) w ≡ left_in case n w = λ w there.
    (let below = peer_below case.net v w there in
    whole (left_in case (suc n) w) (left_in case n w) (halts.left_within case.net (standing case) n w)
    (sym (ap length (row_is case is (suc n) (items next) later w below)) ∙ (same v on w there ∙ ap length (row_is case is n (items left) now w below)))) in
    next_is case is (suc n) (items next) later v
    ∙ (ap (λ xs. if v == 0 then origin_path ∷ [] else xs) (halts.remaining_same case.net (standing case) (left_in case (suc n)) (left_in case n) v peers [] (standing case v).order)
    ∙ sym (row_is case is (suc n) (items next) later v low))

-- at first none is settled
pub none_settled : (case : Case) (left : ℕ → List PathNo) (settled : List Bool) → settled ≡ [] → AreSettled case left settled
none_settled case left settled none v low on = absurd (false≢true (subst (λ bs. get_or bs v false ≡ true) none on))
