-- Events in the order of their comparison (own).
use Rattle.std.specs.Prelude.{ℕ, ◌+◌, ◌≡◌, Bool, not, List, []}
use Rattle.std.specs.Ordering.{is_eq, is_lt}
use Rattle.std.specs.declared.cmp.Ordering.{Ordering}
use Rattle.std.specs.declared.cmp.Reverse.{Reverse}
use Rattle.tw_sim.specs.Ordered.{insert_all, times}
use Rattle.tw_sim.specs.Rising.{IsRising}

module _ {E : Type 0} (cmp : E → E → Ordering) where
  -- whether an event is handled before another, and whether two are one
  abbrev pub is_before : E → E → Bool
  is_before d e = is_lt (cmp d e)

  abbrev pub is_same : E → E → Bool
  is_same d e = is_eq (cmp d e)

  abbrev pub is_other : E → E → Bool
  is_other d e = not (is_same d e)

  -- the order in which a heap has the least event on top
  abbrev pub reversed : Reverse E → Reverse E → Ordering
  reversed x y = cmp y.0 x.0

  -- how often an event stands among others
  abbrev pub count : E → List E → ℕ
  count e events = times is_same e events

  -- events in rising order
  abbrev pub in_order : List E → List E
  in_order events = insert_all is_before events []

  -- the first ones first
  abbrev pub IsInOrder : List E → Type 0
  IsInOrder events = IsRising is_before is_same events

  -- the new events are the old ones and some more, in any order
  abbrev pub AreWith : List E → List E → List E → Type 0
  AreWith more old new = (e : E) → count e new ≡ count e more + count e old
