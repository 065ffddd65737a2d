-- The hash of a shape, a step at a time, and that the order of the events does not count.
use Rattle.std.proofs.Common.{◌≡◌, ℕ, ◌+◌, ◌%◌, ◌^◌, List, [], ◌∷◌, map, refl, ap, sym, ◌∙◌, arith}
use Rattle.std.specs.List.{fold, sum_by}
use Rattle.tw_event.specs.declared.event.Event.{Event}
use Rattle.tw_event.specs.Order.{event_before}
use Rattle.tw_shape.specs.declared.shape.Span.{Span}
use Rattle.tw_shape.specs.Packed.{hash_by, hash_spans, in_order, word}
use Rattle.tw_shape.proofs.Multiset.{fold-insert_all}

fold-map : (step : ℕ → Event → ℕ) (f : Event → Event) (a : ℕ) (xs : List Event) → fold step a (map f xs) ≡ fold (λ b x. step b (f x)) a xs
fold-map step f a [] = refl
fold-map step f a (x ∷ xs) = fold-map step f (step a (f x)) xs

swap_sum : (a b c : ℕ) → a + b + c ≡ a + c + b
swap_sum a b c = omega arith

-- before the first event, a hash is that of the spans
pub hash_first : (spans : List Span) (see : Event → Event) (events : List Event) (a : ℕ) → a ≡ hash_spans spans
    → (a + sum_by (λ e. word (see e)) events) % 2 ^ 64 ≡ hash_by spans (map see events)
unfolding hash_by
hash_first spans see events a is =
    (λ i. (is i + sum_by (λ e. word (see e)) events) % 2 ^ 64) ∙ ap (λ n. (hash_spans spans + n) % 2 ^ 64) (sym (fold-map (λ a e. a + word e) see 0 events))

-- the order in which the events are added does not count
pub hash_in_order : (spans : List Span) (see : Event → Event) (events : List Event) → hash_by spans (map see (in_order events)) ≡ hash_by spans (map see events)
unfolding hash_by
hash_in_order spans see events =
    ap (λ n. (hash_spans spans + n) % 2 ^ 64) (
    fold-map (λ a e. a + word e) see 0 (in_order events)
    ∙ fold-insert_all event_before (λ a e. a + word (see e)) (λ a d e. swap_sum a (word (see d)) (word (see e))) 0 events []
    ∙ sym (fold-map (λ a e. a + word e) see 0 events))
