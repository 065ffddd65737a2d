-- The neighbours whose link is up, one by one.
use Rattle.std.proofs.Common.{◌≡◌, ℕ, ◌+◌, ◌<◌, ◌≤◌, arith, Bool, List, ◌∷◌, length, map, get_or, drop, ap₂, ◌∙◌, refl, true, false}
use Rattle.std.proofs.lemmas.List.{drop_more, length-map}
use Rattle.std.proofs.lemmas.List.Sums.{count_by-le-length, length-filter}
use Rattle.std.proofs.lemmas.Slice.Zip.{length-zip}
use Rattle.std.proofs.lemmas.List.FromFn.{length-enumerate_from}
use Rattle.std.specs.List.{enumerate_from, filter, zip}
use Rattle.tw_event.specs.declared.event.Event.{Event}
use Rattle.tw_event.specs.declared.event.PathNo.{PathNo}
use Rattle.tw_model.specs.declared.net.Hop.{Hop}
use Rattle.tw_model.specs.declared.state.Row.{Row}
use Rattle.tw_model.specs.Effect.{update_to}

-- of these neighbours with their rows those whose link is up
abbrev pub up_pairs : List Hop → List Row → List (Hop × Row)
up_pairs hops rows = filter (λ p. p.1.up) (zip hops rows)

-- no more than there are rows
pub length-up_pairs : (hops : List Hop) (rows : List Row) → length (up_pairs hops rows) ≤ length rows
length-up_pairs hops rows =
    let up : Hop × Row → Bool = λ p. p.1.up in
    omega (arith, length-filter up (zip hops rows), count_by-le-length up (zip hops rows), length-zip hops rows)

-- an update to each of them, numbered from n
abbrev pub updates_to : ℕ → ℕ → PathNo → ℕ → List (Hop × Row) → List Event
updates_to v t q n pairs = map (λ e. update_to v t q e.0 e.1.0 e.1.1) (enumerate_from n pairs)

-- a link that is down is passed over
pub up_pairs-skip : (hops : List Hop) (rows : List Row) (i : ℕ) (h : Hop) (r : Row) → i < length hops → i < length rows → (get_or rows i r).up ≡ false
    → up_pairs (drop i hops) (drop i rows) ≡ up_pairs (drop (i + 1) hops) (drop (i + 1) rows)
up_pairs-skip hops rows i h r a b down = ap₂ up_pairs (drop_more hops i h a) (drop_more rows i r b) ∙ rw down refl

-- one update to each neighbour
pub length-updates_to : (v t : ℕ) (q : PathNo) (n : ℕ) (pairs : List (Hop × Row)) → length (updates_to v t q n pairs) ≡ length pairs
length-updates_to v t q n pairs =
    length-map (enumerate_from n pairs) (λ e. update_to v t q e.0 e.1.0 e.1.1) ∙ length-enumerate_from n pairs

-- a link that is up is the next
pub up_pairs-keep : (hops : List Hop) (rows : List Row) (i : ℕ) (h : Hop) (r : Row) → i < length hops → i < length rows → (get_or rows i r).up ≡ true
    → up_pairs (drop i hops) (drop i rows) ≡ (get_or hops i h, get_or rows i r) ∷ up_pairs (drop (i + 1) hops) (drop (i + 1) rows)
up_pairs-keep hops rows i h r a b up = ap₂ up_pairs (drop_more hops i h a) (drop_more rows i r b) ∙ rw up refl
