-- Paths by their numbers: the number of a path's nodes is its own.
use Rattle.std.proofs.Common.{◌≡◌, ℕ, ◌-◌, Bool, List, length, map, Option, Some, None, refl, ap, sym, ◌∙◌, arith}
use Rattle.std.specs.Prelude.{IfSome}
use Rattle.std.specs.List.{find, range_with_len}
use Rattle.std.specs.Option.{unwrap_or}
use Rattle.tw_event.specs.declared.event.PathNo.{PathNo}
use Rattle.tw_model.specs.Net.{IsPath, Net, empty_path, path, paths, same_path}
use Rattle.tw_model.specs.Rules.{IsNet}
use Rattle.tw_model.proofs.Paths.{path_exact, same_path_is, same_path_self}
use Rattle.tw_sim.proofs.Members.{In, any_from_in, find_some, in_find, in_map, in_mapped, in_range, range_has}
use Rattle.tw_elimination.specs.Wheel.{number_of}

abbrev pub numbers : Net → List PathNo
numbers net = map (λ k. let q : PathNo = record { 0 = k } in q) (range_with_len 0 (length (paths net)))

pub is_number : (net : Net) (q : PathNo) → In q (numbers net) → IsPath net q
is_number net q i =
    let from = in_map (λ k. let p : PathNo = record { 0 = k } in p) q (range_with_len 0 (length (paths net))) i in
    let within = in_range from.0 0 (length (paths net)) from.2 in
    let same = ap (λ (p : PathNo). p.0) from.1 in
    omega arith

-- the number of a path's nodes is its own
pub number_is : (net : Net) → IsNet net → (q : PathNo) → IsPath net q → number_of net (path net q) ≡ q
unfolding number_of
number_is net is q within =
    let test : PathNo → Bool = λ p. same_path (path net p) (path net q) in
    let here : In q (numbers net) = in_mapped (λ k. let p : PathNo = record { 0 = k } in p) q.0 (range_with_len 0 (length (paths net))) (range_has q.0 0 (length (paths net)) (omega arith) (omega arith)) in
    let found = find_some test (numbers net) (any_from_in test q (numbers net) (same_path_self (path net q)) here) in
    let met = in_find test found.0 (numbers net) found.1 in
    ap (λ o. unwrap_or o empty_path) found.1
    ∙ path_exact net is found.0 q (is_number net found.0 met.1) within (same_path_is (path net found.0) (path net q) met.0)

-- what a look-up tells is the number of the nodes
pub number_told : (net : Net) → IsNet net → (nodes : List ℕ) (o : Option PathNo) → IfSome o (λ q. IsPath net q × (path net q ≡ nodes))
    → ((q : PathNo) → IsPath net q → path net q ≡ nodes → o ≡ Some q) → unwrap_or o empty_path ≡ number_of net nodes
unfolding number_of
number_told net is nodes (Some q) some only = sym (number_is net is q some.0) ∙ ap (number_of net) some.1
number_told net is nodes None some only = at (find test (numbers net)) refl where
  test : PathNo → Bool
  test p = same_path (path net p) nodes

  at : (o : Option PathNo) → find test (numbers net) ≡ o → empty_path ≡ number_of net nodes
  at None e = sym (ap (λ o. unwrap_or o empty_path) e)
  at (Some q) e =
      let met = in_find test q (numbers net) e in
      let none : None ≡ Some q = only q (is_number net q met.1) (same_path_is (path net q) nodes met.0) in
      absurd (cc)
