-- The places of paths at their routers, as paths are added.
use Rattle.std.proofs.Common.{◌≡◌, ℕ, suc, ◌==◌, true, List, [], ◌∷◌, ◌++◌, length, get_or, arith, None, Some, refl, ap, sym, ◌∙◌, subst, inl, inr}
use Rattle.std.specs.List.{slice_get}
use Rattle.std.proofs.lemmas.Bool.{cases_eq, cases_lt, eqb-true}
use Rattle.std.proofs.lemmas.List.{get_or_append_left, get_or_push, length-append, length_push}
use Rattle.std.proofs.lemmas.Option.{get_or_from_slice_get, slice_get-get_or, slice_get_within}
use Rattle.tw_event.specs.declared.event.PathNo.{PathNo}
use Rattle.tw_model.specs.declared.net.Link.{Link}
use Rattle.tw_model.specs.PermittedPath.{PermittedPath}
use Rattle.tw_model.specs.Net.{Net, begins_at, is_own, path, paths_of, bare_net}
use Rattle.tw_model.specs.Rules.{path_fault}
use Rattle.tw_model.proofs.Paths.{own_is_path}
use Rattle.tw_instance.specs.Places.{ArePlaces}
use Rattle.tw_instance.proofs.Growing.{next_number, path_kept, path_new}
use Rattle.tw_instance.proofs.Paths.{path-origin}
use Rattle.tw_instance.proofs.Permitted.{begins_owner, is_listed, length-paths, next_path, none_permitted}

-- what is found in a list is found in a longer one
get_more : (xs ys : List PathNo) (k : ℕ) (x : PathNo) → slice_get xs k ≡ Some x → slice_get (xs ++ ys) k ≡ Some x
get_more xs ys k x e =
    let below = slice_get_within xs k x e in
    slice_get-get_or (xs ++ ys) k x (let n = length-append xs ys in omega arith) ∙ ap Some (get_or_append_left xs ys x k below ∙ get_or_from_slice_get xs k x x e)

get_last : (xs : List PathNo) (k : ℕ) (x : PathNo) → k ≡ length xs → slice_get (xs ++ x ∷ []) k ≡ Some x
get_last xs k x e = slice_get-get_or (xs ++ x ∷ []) k x (let n = length_push xs x in omega arith) ∙ ap Some (get_or_push xs x x k (sym e))

-- ---- before any path

bare_places : (nodes : ℕ) → ArePlaces (bare_net nodes) (0 ∷ 0 ∷ [])
bare_places nodes = record {
  long = refl;
  empty = refl;
  each = λ v q own.
      let is = own_is_path (bare_net nodes) v q own in
      let low = is.0 in
      let one : q.0 ≡ 1 = (let some : q.0 ≡ 0 → ⊥ = is.1 in omega arith) in
      let begins : (0 == v) ≡ true = subst (λ p. begins_at p v ≡ true) (path-origin (bare_net nodes) q one) own in
      let at : v ≡ 0 = sym (eqb-true 0 v begins) in
      rw (one, at) (ap (λ ps. slice_get ps 0) (none_permitted nodes 0 []));
}

pub new_places : (nodes : ℕ) (links : List Link) (paths : List PermittedPath) (places : List ℕ) → links ≡ [] → paths ≡ [] → places ≡ 0 ∷ 0 ∷ []
    → ArePlaces (record { nodes = nodes; links = links; permitted = paths }) places
new_places nodes links paths places no_link no_path zeros =
    let same : bare_net nodes ≡ record { nodes = nodes; links = links; permitted = paths } = λ i. record { nodes = nodes; links = sym no_link i; permitted = sym no_path i } in
    subst (λ net. ArePlaces net places) same (subst (ArePlaces (bare_net nodes)) (sym zeros) (bare_places nodes))

-- ---- one more link

-- links don't matter for the places
pub linked_places : (net : Net) (links : List Link) (places : List ℕ) → ArePlaces net places → ArePlaces (record net { links = links }) places
unfolding paths_of path
linked_places net links places so = record { long = so.long; empty = so.empty; each = so.each }

-- ---- one more path

module _ (net : Net) (p : PermittedPath) (places : List ℕ) (place : ℕ) (fault : path_fault net p ≡ None) (so : ArePlaces net places) (here : place ≡ length (paths_of net p.owner)) where
  old_place : (v : ℕ) (q : PathNo) (k : ℕ) → slice_get (paths_of net v) k ≡ Some q → slice_get (paths_of (record net { permitted = net.permitted ++ p ∷ [] }) v) k ≡ Some q
  old_place v q k e =
      let at = is_listed net p (next_path net p fault).begins in
      elim (cases_eq v p.owner) [
        | inl own ↦ (
            let grown = ap (paths_of (record net { permitted = net.permitted ++ p ∷ [] })) own ∙ (at.owner ∙ ap (λ u. paths_of net u ++ next_number net ∷ []) (sym own)) in
            ap (λ ps. slice_get ps k) grown ∙ get_more (paths_of net v) (next_number net ∷ []) k q e)
        | inr ne ↦ (ap (λ ps. slice_get ps k) (at.others v ne) ∙ e)
      ]

  new_place : (v : ℕ) (q : PathNo) → q ≡ next_number net → is_own (record net { permitted = net.permitted ++ p ∷ [] }) v q ≡ true
      → slice_get (paths_of (record net { permitted = net.permitted ++ p ∷ [] }) v) place ≡ Some q
  new_place v q same own =
      let begins = (next_path net p fault).begins in
      let at = is_listed net p begins in
      let nodes = ap (path (record net { permitted = net.permitted ++ p ∷ [] })) same ∙ path_new net p in
      let ours : begins_at p.nodes v ≡ true = subst (λ ns. begins_at ns v ≡ true) nodes own in
      let owner : p.owner ≡ v = eqb-true p.owner v (sym (begins_owner p.nodes p.owner v begins) ∙ ours) in
      ap (λ u. slice_get (paths_of (record net { permitted = net.permitted ++ p ∷ [] }) u) place) (sym owner)
      ∙ (ap (λ ps. slice_get ps place) at.owner ∙ (get_last (paths_of net p.owner) place (next_number net) here ∙ ap Some (sym same)))

  pub pushed_places : ArePlaces (record net { permitted = net.permitted ++ p ∷ [] }) (places ++ place ∷ [])
  pushed_places =
      let n = so.long in
      let count = length-paths net in
      let counted = length-paths (record net { permitted = net.permitted ++ p ∷ [] }) in
      let longer = length_push net.permitted p in
      record {
        long = let m = length_push places place in omega arith;
        empty = get_or_append_left places (place ∷ []) 0 0 (omega arith) ∙ so.empty;
        each = λ v q own.
            let is = (own_is_path (record net { permitted = net.permitted ++ p ∷ [] }) v q own).0 in
            elim (cases_lt q.0 (length places)) [
              | inl below ↦ (
                  let kept = path_kept net p q (omega arith) in
                  let old : is_own net v q ≡ true = subst (λ ns. begins_at ns v ≡ true) kept own in
                  ap (λ k. slice_get (paths_of (record net { permitted = net.permitted ++ p ∷ [] }) v) k) (get_or_append_left places (place ∷ []) 0 q.0 below)
                  ∙ old_place v q (get_or places q.0 0) (so.each v q old))
              | inr last ↦ (
                  let at : q.0 ≡ suc (suc (length net.permitted)) = omega arith in
                  let same : q ≡ next_number net = λ i. record { 0 = at i } in
                  ap (λ k. slice_get (paths_of (record net { permitted = net.permitted ++ p ∷ [] }) v) k) (get_or_push places place 0 q.0 (omega arith)) ∙ new_place v q same own)
            ];
      }
