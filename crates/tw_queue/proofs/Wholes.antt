-- The table and the spare list together are a queue, and its least event.
use Rattle.std.proofs.Common.{arith, ◌≡◌, ◌<◌, ℕ, false, List}
use Rattle.std.proofs.Common.{[], ◌∷◌, IfSome, None, Option, Some, slice_get, ap, sym, ◌∙◌}
use Rattle.std.proofs.lemmas.Option.{none-some}
use Rattle.tw_sim.proofs.Counts.{none}
use Rattle.tw_event.specs.declared.event.Event.{Event}
use Rattle.tw_event.specs.Order.{event_before, event_same}
use Rattle.tw_sim.specs.Ordered.{insert, insert_all, take_out}
use Rattle.tw_sim.proofs.Ordered.{all-insert, rising-insert_all}
use Rattle.tw_ordered.specs.Queue.{AreFor, IsQueue}
use Rattle.tw_queue.specs.InTable.{IsInOrder, Table}
use Rattle.tw_ordered.proofs.Events.{event_law}
use Rattle.std.specs.List.{AllByRecursion}

pub all-insert_all : (P : Event → Type 0) (xs ys : List Event) → AllByRecursion P xs → AllByRecursion P ys → AllByRecursion P (insert_all event_before xs ys)
all-insert_all P [] ys h k = k
all-insert_all P (x ∷ xs) ys h k = all-insert_all P xs (insert event_before x ys) h.1 (all-insert event_before P x ys h.0 k)

-- the whole is a queue
pub whole_queue : (routers room : ℕ) (t : Table) (xs : List Event) → t.routers ≡ routers → IsInOrder t → AreFor routers xs
    → IsQueue (record { routers = routers; events = insert_all event_before xs t.events; room = room })
whole_queue routers room t xs n order h = grind (arith, rising-insert_all, event_law, all-insert_all)

-- where another event than the least is taken out, the least stays
pub unmoved : (e least : Event) (o : Option Event) (xs zs : List Event) → o ≡ Some least → event_same e least ≡ false → o ≡ slice_get xs 0 → zs ≡ take_out event_same e xs → o ≡ slice_get zs 0
unmoved e least o [] zs some other before left = absurd (none-some least (sym before ∙ some))
unmoved e least o (x ∷ xs) zs some other before left = grind arith

-- of nothing, nothing is left
pub none_left : (e : Event) (o : Option Event) (xs zs : List Event) → o ≡ None → o ≡ slice_get xs 0 → zs ≡ take_out event_same e xs → None ≡ slice_get zs 0
none_left e o [] zs none before left = ap (λ ys. slice_get ys 0) (sym left)
none_left e o (x ∷ xs) zs none before left = absurd (none-some x (sym none ∙ before))

pub first_home : (n : ℕ) (xs : List Event) → AreFor n xs → IfSome (slice_get xs 0) (λ e. e.dst < n)
first_home n [] h = tt
first_home n (x ∷ xs) h = h.0
