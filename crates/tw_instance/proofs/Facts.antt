-- Tests that code makes, and what they say of a net.
use Rattle.std.proofs.Common.{◌≡◌, ℕ, suc, zero, ◌==◌, true, false, not, ◌&&◌, ◌||◌, List, [], ◌∷◌, length}
use Rattle.std.proofs.Common.{nat_le, Option, Some, None, Bool, is_some, IfSome, refl, ap, sym, ◌∙◌, subst, inl, inr, arith}
use Rattle.std.specs.Cmp.{both_ways as same_truth}
use Rattle.std.specs.List.{All, list_any}
use Rattle.std.proofs.lemmas.List.Elements.{All-head, All-tail}
use Rattle.std.proofs.lemmas.Bool.{and_parts, both_ways, cases_Bool, eq-eqb, eqb-true, eqb-false, false_from_ne_true, ne_eqb, not-false, not-true, or_cases, or_parts}
use Rattle.tw_event.specs.declared.event.PathNo.{PathNo}
use Rattle.tw_model.specs.declared.limits.TheConstants.{MOST_PATHS}
use Rattle.tw_model.specs.PermittedPath.{PermittedPath}
use Rattle.tw_model.specs.Net.{Net, IsPath, begins_at, hops_of, joins, path, paths_of, same_path}
use Rattle.tw_model.specs.Rules.{IsNet, is_linked, path_count}
use Rattle.tw_sim.proofs.Members.{any_from_in, in_from_any}
use Rattle.tw_model.proofs.Nets.{hop_between, hop_of, is_link_of, joined_by}
use Rattle.tw_model.proofs.Paths.{same_path_is}
use Rattle.tw_instance.proofs.Permitted.{Begins, IsOwned, is_given, are_listed, given_where_numbered}

-- ---- links

-- w is a neighbour of v exactly where a link joins them
pub peer-linked : (net : Net) (v w : ℕ) → IsNet net → list_any (λ x. x.peer == w) (hops_of net v) ≡ is_linked net.links v w
peer-linked net v w is = same_truth _ _
    (λ t.
    let h = in_from_any (λ x. x.peer == w) (hops_of net v) t in
    let l = hop_of net v h.0 h.2 in
    any_from_in (joins v w) l.0 net.links (subst (λ u. joins v u l.0 ≡ true) (eqb-true h.0.peer w h.1) l.1.between) l.1.given)
    (λ t.
    let l = in_from_any (joins v w) net.links t in
    let below = (joined_by net v w l.0 (is_link_of net is l.0 l.2) l.1).there in
    let h = hop_between net v w below t in
    any_from_in (λ x. x.peer == w) h.0 (hops_of net v) (eq-eqb h.0.peer w h.2) h.1)

-- ---- permitted paths

none_of_origin : (nodes : ℕ) (paths : List PermittedPath) → All (IsOwned nodes) paths → path_count paths 0 ≡ 0
none_of_origin nodes [] all = refl
none_of_origin nodes (p ∷ paths) all =
    let here = All-head (IsOwned nodes) p paths all in
    let no : (p.owner == 0) ≡ false = ne_eqb p.owner 0 (λ e. let some = here.0 in omega arith) in
    rw no (none_of_origin nodes paths (All-tail (IsOwned nodes) p paths all))

-- whether a router has as many permitted paths as it may
pub full-counted : (net : Net) (v : ℕ) → IsNet net → nat_le MOST_PATHS (length (paths_of net v)) ≡ nat_le MOST_PATHS (path_count net.permitted v)
full-counted net zero h =
    let all = are_listed net h in
    ap (λ xs. nat_le MOST_PATHS (length xs)) all.origin ∙ ap (nat_le MOST_PATHS) (sym (none_of_origin net.nodes net.permitted all.owners))
full-counted net (suc v) h = ap (nat_le MOST_PATHS) ((are_listed net h).counts (suc v) (omega arith))

-- whether these nodes are no path of this owner
abbrev is_misowned : ℕ → List ℕ → Bool
is_misowned owner nodes = owner == 0 || not (begins_at nodes owner)

none_given : (count owner : ℕ) (nodes : List ℕ) (paths : List PermittedPath) → All (IsOwned count) paths → All Begins paths → is_misowned owner nodes ≡ true → is_given paths owner nodes ≡ false
none_given count owner nodes [] owners begin mis = refl
none_given count owner nodes (q ∷ paths) owners begin mis =
    let other : (q.owner == owner && same_path q.nodes nodes) ≡ false = false_from_ne_true (q.owner == owner && same_path q.nodes nodes) (λ t.
    (let both = and_parts (q.owner == owner) (same_path q.nodes nodes) t in
    let e = eqb-true q.owner owner both.0 in
    let first = subst (λ ns. begins_at ns q.owner ≡ true) (same_path_is q.nodes nodes both.1) (All-head Begins q paths begin) in
    let begins : begins_at nodes owner ≡ true = subst (λ v. begins_at nodes v ≡ true) e first in
    elim (or_cases (owner == 0) (not (begins_at nodes owner)) mis) [
      | inl z ↦ (let zero_is = eqb-true owner 0 z in let here = All-head (IsOwned count) q paths owners in let some = here.0 in absurd (omega arith))
      | inr other ↦ both_ways (begins_at nodes owner) (not-true (begins_at nodes owner) other) begins
    ])) in
    rw other (none_given count owner nodes paths (All-tail (IsOwned count) q paths owners) (All-tail Begins q paths begin) mis)

-- nodes that begin elsewhere were not given for this owner
not_given : (net : Net) (owner : ℕ) (nodes : List ℕ) → IsNet net → is_misowned owner nodes ≡ true → is_given net.permitted owner nodes ≡ false
not_given net owner nodes h mis = let all = are_listed net h in none_given net.nodes owner nodes net.permitted all.owners all.begin mis

-- nodes were given for their owner exactly where they have a number
given_number : (net : Net) (owner : ℕ) (nodes : List ℕ) (o : Option PathNo) → IsNet net → is_misowned owner nodes ≡ false
    → IfSome o (λ q. IsPath net q × (path net q ≡ nodes)) → ((q : PathNo) → IsPath net q → path net q ≡ nodes → o ≡ Some q) → is_some o ≡ is_given net.permitted owner nodes
given_number net owner nodes o h mis found only =
    let parts = or_parts (owner == 0) (not (begins_at nodes owner)) mis in
    let ne = eqb-false owner 0 parts.0 in
    given_where_numbered net (record { owner = owner; nodes = nodes }) o h (omega arith) (not-false (begins_at nodes owner) parts.1) found only

-- nodes were given exactly where they have a number and are a path of the owner
pub given_exactly : (net : Net) (owner : ℕ) (nodes : List ℕ) (o : Option PathNo) → IsNet net
    → IfSome o (λ q. IsPath net q × (path net q ≡ nodes)) → ((q : PathNo) → IsPath net q → path net q ≡ nodes → o ≡ Some q)
    → (is_some o && not (is_misowned owner nodes)) ≡ is_given net.permitted owner nodes
given_exactly net owner nodes None h found only =
    elim (cases_Bool (is_misowned owner nodes)) [
      | inl mis ↦ sym (not_given net owner nodes h mis)
      | inr own ↦ given_number net owner nodes None h own found only
    ]
given_exactly net owner nodes (Some q) h found only =
    elim (cases_Bool (is_misowned owner nodes)) [
      | inl mis ↦ ap not mis ∙ sym (not_given net owner nodes h mis)
      | inr own ↦ ap not own ∙ given_number net owner nodes (Some q) h own found only
    ]
