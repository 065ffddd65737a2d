-- What was read is the input: a source was read to its end, or to the limit.
use Rattle.std.proofs.Common.{◌≡◌, ◌≤◌, ℕ, List, [], ◌++◌, length, take, drop, take-append-drop, Option, Some, None, append-nil, sym, ap, subst, ◌∙◌}
use Rattle.std.proofs.Math.Seq.{take-append_seam}
use Rattle.std.proofs.lemmas.List.{append_cancel_left, take_all}
use Rattle.std.specs.Io.KnownBytes.{Consumes, IsAtEnd}
use Rattle.std.proofs.KnownBytes.{Consumes-trans}
use Rattle.tw_device.specs.Source.{IsInput, LosesInput}
use Rattle.tw_model.specs.declared.limits.TheConstants.{MOST_INPUT}

whole_is : (n : ℕ) (bytes left known : List ℕ) → known ≡ bytes ++ left → left ≡ [] → length bytes ≤ n → bytes ≡ take n known
whole_is n bytes left known h e l =
    let whole : known ≡ bytes = h ∙ (ap (λ ys. bytes ++ ys) e ∙ append-nil bytes) in rw whole (sym (take_all n bytes l))

front_is : (n : ℕ) (bytes left known : List ℕ) → known ≡ bytes ++ left → length bytes ≡ n → bytes ≡ take n known
front_is n bytes left known h l = rw (h, ← l) (sym (take-append_seam bytes left))

loses : (n : ℕ) (bytes left known : List ℕ) → known ≡ bytes ++ left → bytes ≡ take n known → left ≡ drop n known
loses n bytes left known h e = append_cancel_left bytes left (drop n known) (sym h ∙ (sym (take-append-drop n known) ∙ ap (λ ys. ys ++ drop n known) (sym e)))

-- what is left is what follows the input
pub loses_input : (known left : Option (List ℕ)) (bytes : List ℕ) → Consumes known left bytes → IsInput known bytes → LosesInput known left
loses_input None left bytes h e = tt
loses_input (Some xs) None bytes h e = absurd h
loses_input (Some xs) (Some ys) bytes h e = loses MOST_INPUT bytes ys xs h e

-- nothing more was given, and so nothing was left
pub input_at_end : (known left after : Option (List ℕ)) (bytes : List ℕ) → Consumes known left bytes → Consumes left after [] → IsAtEnd after → length bytes ≤ MOST_INPUT → IsInput known bytes
input_at_end None left after bytes h k e l = tt
input_at_end (Some xs) None after bytes h k e l = absurd h
input_at_end (Some xs) (Some ys) None bytes h k e l = absurd k
input_at_end (Some xs) (Some ys) (Some zs) bytes h k e l = whole_is MOST_INPUT bytes ys xs h (k ∙ e) l

-- as many as a program reads were given
pub input_at_limit : (known left : Option (List ℕ)) (bytes : List ℕ) → Consumes known left bytes → length bytes ≡ MOST_INPUT → IsInput known bytes
input_at_limit None left bytes h l = tt
input_at_limit (Some xs) None bytes h l = absurd h
input_at_limit (Some xs) (Some ys) bytes h l = front_is MOST_INPUT bytes ys xs h l

pub loses_at_end : (known left after : Option (List ℕ)) (bytes : List ℕ) → Consumes known left bytes → Consumes left after [] → IsInput known bytes → LosesInput known after
loses_at_end known left after bytes h k e = loses_input known after bytes (subst (λ ys. Consumes known after ys) (append-nil bytes) (Consumes-trans known left after bytes [] h k)) e
