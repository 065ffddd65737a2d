-- Instances of the literature (Griffin, Shepherd, Wilfong 2002), each link with a delay of 1, on which the definitions are tried.
use Rattle.std.specs.Prelude.{ℕ, List, [], ◌∷◌, map, Option}
use Rattle.std.specs.List.{range_with_len}
use Rattle.std.specs.Option.{option_map}
use Rattle.tw_event.specs.declared.event.PathNo.{PathNo}
use Rattle.tw_model.specs.declared.net.Link.{Link}
use Rattle.tw_model.specs.Net.{Net}
use Rattle.tw_model.specs.PermittedPath.{PermittedPath}
use Rattle.tw_model.specs.State.{opening}
use Rattle.tw_policy.specs.DisputeWheel.{Pivot}
use Rattle.tw_policy.specs.Search.{all_paths, search}

-- a link with a delay of 1 in both directions
abbrev pub quick_link : ℕ → ℕ → Link
quick_link a b = record { first = a; second = b; delay = 1; back = 1 }

-- a permitted path of the router at which it begins
abbrev pub permitted_at : ℕ → List ℕ → PermittedPath
permitted_at v rest = record { owner = v; nodes = v ∷ rest }

-- the path of this number
abbrev pub numbered : ℕ → PathNo
numbered k = record { 0 = k }

-- two routers, each of which prefers the way by the other
abbrev pub disagree : Net
disagree = record {
  nodes = 3;
  links = quick_link 0 1 ∷ quick_link 0 2 ∷ quick_link 1 2 ∷ [];
  permitted = permitted_at 1 (2 ∷ 0 ∷ []) ∷ permitted_at 1 (0 ∷ []) ∷ permitted_at 2 (1 ∷ 0 ∷ []) ∷ permitted_at 2 (0 ∷ []) ∷ [];
}

-- three routers in a ring, each of which prefers the way by the next one
abbrev pub ring_of_three : Net
ring_of_three = record {
  nodes = 4;
  links = quick_link 0 1 ∷ quick_link 0 2 ∷ quick_link 0 3 ∷ quick_link 1 2 ∷ quick_link 2 3 ∷ quick_link 1 3 ∷ [];
  permitted =
      permitted_at 1 (2 ∷ 0 ∷ []) ∷ permitted_at 1 (0 ∷ []) ∷ permitted_at 2 (3 ∷ 0 ∷ []) ∷ permitted_at 2 (0 ∷ []) ∷ permitted_at 3 (1 ∷ 0 ∷ [])
      ∷ permitted_at 3 (0 ∷ []) ∷ [];
}

-- four routers that have exactly one stable assignment, and come to rest
abbrev pub good_gadget : Net
good_gadget = record {
  nodes = 5;
  links =
      quick_link 0 1 ∷ quick_link 0 2 ∷ quick_link 0 3 ∷ quick_link 1 2 ∷ quick_link 1 3 ∷ quick_link 2 4 ∷ quick_link 3 4 ∷ [];
  permitted =
      permitted_at 1 (3 ∷ 0 ∷ []) ∷ permitted_at 1 (0 ∷ []) ∷ permitted_at 2 (1 ∷ 0 ∷ []) ∷ permitted_at 2 (0 ∷ []) ∷ permitted_at 3 (0 ∷ [])
      ∷ permitted_at 4 (3 ∷ 0 ∷ []) ∷ permitted_at 4 (2 ∷ 0 ∷ []) ∷ [];
}

-- the same with one more path of router 3, the one that it prefers
abbrev pub naughty_gadget : Net
naughty_gadget = record {
  nodes = 5;
  links = good_gadget.links;
  permitted =
      permitted_at 1 (3 ∷ 0 ∷ []) ∷ permitted_at 1 (0 ∷ []) ∷ permitted_at 2 (1 ∷ 0 ∷ []) ∷ permitted_at 2 (0 ∷ []) ∷ permitted_at 3 (4 ∷ 2 ∷ 0 ∷ [])
      ∷ permitted_at 3 (0 ∷ []) ∷ permitted_at 4 (3 ∷ 0 ∷ []) ∷ permitted_at 4 (2 ∷ 0 ∷ []) ∷ [];
}

-- the same with router 4's two paths the other way round
abbrev pub bad_gadget : Net
bad_gadget = record {
  nodes = 5;
  links = good_gadget.links;
  permitted =
      permitted_at 1 (3 ∷ 0 ∷ []) ∷ permitted_at 1 (0 ∷ []) ∷ permitted_at 2 (1 ∷ 0 ∷ []) ∷ permitted_at 2 (0 ∷ []) ∷ permitted_at 3 (4 ∷ 2 ∷ 0 ∷ [])
      ∷ permitted_at 3 (0 ∷ []) ∷ permitted_at 4 (2 ∷ 0 ∷ []) ∷ permitted_at 4 (3 ∷ 0 ∷ []) ∷ [];
}

-- the numbers of the routers' paths, in ascending order of the routers
abbrev pub numbers : Net → (ℕ → PathNo) → List ℕ
numbers net ribs = map (λ v. (ribs v).0) (range_with_len 0 net.nodes)

-- the stable assignments that a search of all paths finds within so many steps down
abbrev pub found_in : Net → ℕ → Option (List (List ℕ))
found_in net n = option_map (map (numbers net)) (search net (opening net) n (all_paths net (opening net)))

-- the pivot with these numbers of its spoke and its rim path
abbrev pub pivot : ℕ → ℕ → ℕ → Pivot
pivot v spoke rim = record { router = v; spoke = numbered spoke; rim = numbered rim }
