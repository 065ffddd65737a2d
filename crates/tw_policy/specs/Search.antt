-- All stable assignments, by search: narrow what each router has left, and where a router still has a choice try each of its
-- paths (own).
use Rattle.std.specs.Prelude.{ℕ, suc, zero, ◌+◌, ◌≡◌, ◌<◌, ◌==◌, Bool, false, ◌&&◌, List, [], ◌∷◌, ◌++◌, length, nat_lt, slice_index_or, Option, Some, None, if◌then◌else◌}
use Rattle.std.specs.List.{filter, find, list_all, list_any, range_with_len}
use Rattle.tw_event.specs.declared.event.PathNo.{PathNo}
use Rattle.tw_model.specs.Net.{Net, empty_path, origin_path}
use Rattle.tw_model.specs.State.{State}
use Rattle.tw_model.specs.Quiet.{stable_path}
use Rattle.tw_policy.specs.Left.{remaining}

-- whether the path is one of these
abbrev pub is_one_of : List PathNo → PathNo → Bool
is_one_of xs q = list_any (λ x. q.0 == x.0) xs

-- both lists, where both are there
abbrev pub joined : {X : Type 0} → Option (List X) → Option (List X) → Option (List X)
joined (Some xs) (Some ys) = Some (xs ++ ys)
joined (Some xs) None = None
joined None ys = None

-- the router's list is this path alone, the others' as they were
abbrev pub only_at : (ℕ → List PathNo) → ℕ → PathNo → ℕ → List PathNo
only_at left v q w = if w == v then q ∷ [] else left w

-- whether the router has two paths left or more
abbrev pub has_choice : (ℕ → List PathNo) → ℕ → Bool
has_choice left v = nat_lt 1 (length (left v))

-- whether the router has a path left
abbrev pub has_any : (ℕ → List PathNo) → ℕ → Bool
has_any left v = nat_lt 0 (length (left v))

-- the first path that the router has left
abbrev pub first_of : (ℕ → List PathNo) → ℕ → PathNo
first_of left v = slice_index_or (left v) 0 empty_path

-- what a search finds for each of these paths of router v
abbrev pub each : ((ℕ → List PathNo) → Option (List (ℕ → PathNo))) → (ℕ → List PathNo) → ℕ → List PathNo → Option (List (ℕ → PathNo))
each found left v [] = Some []
each found left v (q ∷ qs) = joined (found (only_at left v q)) (each found left v qs)

module _ (net : Net) (states : ℕ → State) where
  -- what a router has left of these lists
  abbrev pub narrowed : (ℕ → List PathNo) → ℕ → List PathNo
  narrowed left v = filter (is_one_of (if v == 0 then origin_path ∷ [] else remaining net states left v [] (states v).order)) (left v)

  -- whether each router has the best path that the others' allow
  abbrev pub is_stable : (ℕ → PathNo) → Bool
  is_stable ribs = list_all (λ v. (ribs v).0 == (stable_path net ribs v (states v)).0) (range_with_len 0 net.nodes)

  -- the assignment that the lists leave, where each has a path and it is stable
  abbrev pub settled : (ℕ → List PathNo) → List (ℕ → PathNo)
  settled left = if list_all (has_any left) (range_with_len 0 net.nodes) && is_stable (first_of left) then first_of left ∷ [] else []

  -- what is found where this router has a choice, or none has
  abbrev pub split : ((ℕ → List PathNo) → Option (List (ℕ → PathNo))) → (ℕ → List PathNo) → Option ℕ → Option (List (ℕ → PathNo))
  split found left None = Some (settled left)
  split found left (Some v) = each found left v (left v)

  -- the stable assignments within the lists, or none told where so many steps down are not enough
  abbrev pub search : ℕ → (ℕ → List PathNo) → Option (List (ℕ → PathNo))
  search zero left = None
  search (suc n) left = split (search n) (narrowed left) (find (has_choice (narrowed left)) (range_with_len 0 net.nodes))

  -- at first each router has all of its paths, and the empty one
  abbrev pub all_paths : ℕ → List PathNo
  all_paths v = if v == 0 then origin_path ∷ [] else (states v).order ++ empty_path ∷ []

-- no path stands twice
abbrev pub AreOnce : List PathNo → Type 0
AreOnce [] = Unit {0}
AreOnce (x ∷ xs) = (list_any (λ y. x.0 == y.0) xs ≡ false) × AreOnce xs

-- the two give some router different paths
abbrev pub Differ : ℕ → (ℕ → PathNo) → (ℕ → PathNo) → Type 0
Differ nodes one two = (v : ℕ) × (v < nodes) × (one v ≡ two v → ⊥)

-- how many paths these routers have left in all
abbrev pub total : (ℕ → List PathNo) → List ℕ → ℕ
total left [] = 0
total left (v ∷ vs) = length (left v) + total left vs
