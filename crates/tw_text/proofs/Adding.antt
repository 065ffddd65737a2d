-- An item that was added is the one that was read; one that was refused breaks the rule that was named.
use Rattle.std.proofs.Common.{◌≡◌, ◌↔◌, ◌^◌, ◌≤◌, ◌<◌, ◌==◌, ℕ, nat_lt, true, false, not, ◌&&◌, List, [], ◌∷◌, get_or}
use Rattle.std.proofs.Common.{length, Option, Some, None, Result, Ok, Err, refl, ap₂, subst, ap, sym, ◌∙◌, inl, inr, arith}
use Rattle.std.proofs.lemmas.Bool.{and_parts, cases_Bool, not-false}
use Rattle.std.proofs.lemmas.Bool.Decides.{nat_tests}
use Rattle.std.specs.List.{list_all}
use Rattle.tw_instance.proofs.Sound.{is_router}
use Rattle.tw_model.proofs.Unbroken.{none_broken}
use Rattle.tw_model.specs.declared.case.Scene.TheVariants.{Allow, Fail, Forbid, Restore, Swap}
use Rattle.tw_model.specs.declared.memory.OrMemory.{OrMemory}
use Rattle.tw_model.specs.declared.memory.OrMemory.TheVariants.{Fault, Memory}
use Rattle.tw_model.specs.declared.rule.Rule.{Rule}
use Rattle.tw_model.specs.declared.rule.Rule.TheVariants.{NoSuchPlace, Range}
use Rattle.tw_model.specs.Case.{Case, IsCase}
use Rattle.tw_model.specs.Memory.{IsUnlessMemory, map_fault}
use Rattle.tw_model.specs.Net.{Net, paths_of}
use Rattle.tw_model.specs.Rules.{has_line, has_place, is_within, link_fault, scene_breaks, scene_fault}
use Rattle.tw_lines.specs.declared.text_fault.LineFault.{LineFault}
use Rattle.tw_lines.specs.declared.text_fault.LineFault.TheVariants as x
use Rattle.tw_lines.proofs.Steps.{passed}
use Rattle.tw_text.specs.declared.draft.Draft.{Draft}
use Rattle.tw_text.specs.declared.keyword.Keyword.{Keyword}
use Rattle.tw_text.specs.declared.keyword.Keyword.TheVariants as keyword
use Rattle.tw_text.specs.Drafts.{node_in, nodes_in, of_rule, place_of, with_link, with_path, with_scene}
use Rattle.tw_text.specs.FaultTable.{unless_fault}
use Rattle.tw_text.specs.Statements.{end_line, link_line, scene_with, statement_with}

pub refused : {A : Type 0} (result : Result A (OrMemory Rule)) (e : OrMemory Rule) (f : OrMemory LineFault) (fault : Option Rule) (next : Draft) → result ≡ Err e → f ≡ map_fault (λ r. x.Rule r) e
    → ((r : Rule) → (result ≡ Err (Fault r)) ↔ (fault ≡ Some r)) → IsUnlessMemory (Err f) (unless_fault (of_rule fault) next)
refused result Memory f fault next is same h = rw same tt
refused result (Fault r) f fault next is same h = rw (same, (h r).0 is) refl

pub node_is : (net : Net) (n m : ℕ) → Ok m ≡ node_in net n → m ≡ n
node_is net n m h = sym (passed (nat_lt n net.nodes) n m (x.Rule Range) (sym h)).1

-- nodes that the instance does not have are no path of it
pub nodes_refused : (version : ℕ) (net : Net) (owner m : ℕ) (nodes : List ℕ) (e : OrMemory LineFault) → Ok m ≡ node_in net owner
    → (let told : Result (List ℕ) (OrMemory LineFault) = Err e in IsUnlessMemory told (nodes_in net nodes))
    → (let told : Result Draft (OrMemory LineFault) = Err e in IsUnlessMemory told (with_path version net (record { owner = owner; nodes = nodes })))
nodes_refused version net owner m nodes Memory is told = tt
nodes_refused version net owner m nodes (Fault f) is told =
    let below = (passed (nat_lt owner net.nodes) owner m (x.Rule Range) (sym is)).0 in
    elim (cases_Bool (list_all (λ n. nat_lt n net.nodes) nodes)) [
      | inl t ↦ (let all : nodes_in net nodes ≡ Ok nodes = rw t refl in let wrong : Ok nodes ≡ Err f = sym all ∙ told in absurd (cc))
      | inr g ↦ (
          let none : nodes_in net nodes ≡ Err (x.Rule Range) = rw g refl in
          let e : Err (x.Rule Range) ≡ Err f = sym none ∙ told in
          let same : x.Rule Range ≡ f = cc in
          rw (below, g) (ap Err same))
    ]

pub nodes_are : (net : Net) (ns ms : List ℕ) → nodes_in net ns ≡ Ok ms → ms ≡ ns
nodes_are net ns ms h = sym (passed (list_all (λ n. nat_lt n net.nodes) ns) ns ms (x.Rule Range) h).1

pub link_refused : {A : Type 0} (result : Result A (OrMemory Rule)) (e : OrMemory Rule) (f : OrMemory LineFault) (version : ℕ) (net : Net) (a b delay back k l : ℕ)
    → Ok k ≡ node_in net a → Ok l ≡ node_in net b → result ≡ Err e → f ≡ map_fault (λ r. x.Rule r) e
    → ((r : Rule) → (result ≡ Err (Fault r)) ↔ (link_fault net (record { first = k; second = l; delay = delay; back = back }) ≡ Some r))
    → IsUnlessMemory (Err f) (with_link version net (record { first = a; second = b; delay = delay; back = back }))
link_refused result e f version net a b delay back k l first second is same h =
    rw (← node_is net a k first, ← node_is net b l second) (refused result e f (link_fault net (record { first = k; second = l; delay = delay; back = back })) _ is same h)

-- a path of nodes that the instance has
pub path_taken : (version : ℕ) (net : Net) (v w : ℕ) (ns ms : List ℕ) (r : Result Draft (OrMemory LineFault)) → Ok w ≡ node_in net v → nodes_in net ns ≡ Ok ms
    → IsUnlessMemory r (with_path version net (record { owner = w; nodes = ms })) → IsUnlessMemory r (with_path version net (record { owner = v; nodes = ns }))
path_taken version net v w ns ms r owner nodes h = rw (← node_is net v w owner, ← nodes_are net ns ms nodes) h

-- what a `u32` does not hold is no place, and nor is 0
place-within : (n i : ℕ) → n < 2 ^ 32 → is_within 1 n (place_of i) ≡ is_within 1 n i
place-within n i h =
    elim (cases_Bool (nat_lt i (2 ^ 32))) [
      | inl t ↦ rw t refl
      | inr f ↦ rw f (grind (arith, nat_tests))
    ]

place_is : (n i : ℕ) → n < 2 ^ 32 → is_within 1 n i ≡ true → place_of i ≡ i
place_is n i h t = let g : nat_lt i (2 ^ 32) ≡ true = grind (arith, nat_tests) in rw g refl

-- a place that is none is refused
no_place : (net : Net) (v k : ℕ) → has_place net v k ≡ false → not (has_line net v k) ≡ false → ⊥
no_place net v k none kept =
    let w = and_parts (not (v == 0)) (has_place net v k) (not-false (has_line net v k) kept) in
    let g = sym none ∙ w.1 in absurd (cc)

none_same : (f g : Option Rule) (a b : Draft) → f ≡ g → (g ≡ None → ⊥) → unless_fault (of_rule f) a ≡ unless_fault (of_rule g) b
none_same f None a b e some = absurd (some refl)
none_same f (Some r) a b e some = rw e refl

few_places : (case : Case) (v : ℕ) → IsCase case → length (paths_of case.net v) < 2 ^ 32
few_places case v is = let few = (is_router case.net v is.net).few_paths in omega arith

-- an exchange of places as a `u32` holds them
swap_same : (version : ℕ) (case : Case) (t v i j : ℕ) → IsCase case → with_scene version case (Swap t v (place_of i) (place_of j)) ≡ with_scene version case (Swap t v i j)
swap_same version case t v i j is =
    let n = length (paths_of case.net v) in
    let small = few_places case v is in
    let count = length case.scenes in
    elim (cases_Bool (has_place case.net v i && has_place case.net v j)) [
      | inl t' ↦ (let w = and_parts (has_place case.net v i) (has_place case.net v j) t' in
          ap₂ (λ i j. with_scene version case (Swap t v i j)) (place_is n i small w.0) (place_is n j small w.1))
      | inr f ↦
          none_same (scene_fault case.net count (Swap t v (place_of i) (place_of j))) (scene_fault case.net count (Swap t v i j)) _ _
          (rw (place-within n i small, place-within n j small) refl)
          (λ none. absurd (
          let places = not-false (has_place case.net v i && has_place case.net v j) (none_broken (scene_breaks case.net count (Swap t v i j)) none NoSuchPlace) in
          let g = sym places ∙ f in cc))
    ]

pub swap_taken : (version : ℕ) (case : Case) (t v i j w k l : ℕ) (r : Result Draft (OrMemory LineFault)) → IsCase case → w ≡ v → k ≡ place_of i → l ≡ place_of j
    → IsUnlessMemory r (with_scene version case (Swap t w k l)) → IsUnlessMemory r (with_scene version case (Swap t v i j))
swap_taken version case t v i j w k l r is e p q h =
    subst (IsUnlessMemory r) (swap_same version case t v i j is) (subst (λ v. IsUnlessMemory r (with_scene version case (Swap t v (place_of i) (place_of j)))) e
    (subst (λ k. IsUnlessMemory r (with_scene version case (Swap t w k (place_of j)))) p (subst (λ l. IsUnlessMemory r (with_scene version case (Swap t w k l))) q h)))

-- a place of a path, as a `u32` holds it
forbid_same : (version : ℕ) (case : Case) (t v k : ℕ) → IsCase case → with_scene version case (Forbid t v (place_of k)) ≡ with_scene version case (Forbid t v k)
forbid_same version case t v k is =
    let n = length (paths_of case.net v) in
    let small = few_places case v is in
    let count = length case.scenes in
    elim (cases_Bool (has_place case.net v k)) [
      | inl there ↦ ap (λ k. with_scene version case (Forbid t v k)) (place_is n k small there)
      | inr none ↦
          none_same (scene_fault case.net count (Forbid t v (place_of k))) (scene_fault case.net count (Forbid t v k)) _ _ (rw (place-within n k small) refl)
          (λ kept. no_place case.net v k none (none_broken (scene_breaks case.net count (Forbid t v k)) kept NoSuchPlace))
    ]

allow_same : (version : ℕ) (case : Case) (t v k : ℕ) → IsCase case → with_scene version case (Allow t v (place_of k)) ≡ with_scene version case (Allow t v k)
allow_same version case t v k is =
    let n = length (paths_of case.net v) in
    let small = few_places case v is in
    let count = length case.scenes in
    elim (cases_Bool (has_place case.net v k)) [
      | inl there ↦ ap (λ k. with_scene version case (Allow t v k)) (place_is n k small there)
      | inr none ↦
          none_same (scene_fault case.net count (Allow t v (place_of k))) (scene_fault case.net count (Allow t v k)) _ _ (rw (place-within n k small) refl)
          (λ kept. no_place case.net v k none (none_broken (scene_breaks case.net count (Allow t v k)) kept NoSuchPlace))
    ]

pub forbid_taken : (version : ℕ) (case : Case) (t v k w l : ℕ) (r : Result Draft (OrMemory LineFault)) → IsCase case → w ≡ v → l ≡ place_of k
    → IsUnlessMemory r (with_scene version case (Forbid t w l)) → IsUnlessMemory r (with_scene version case (Forbid t v k))
forbid_taken version case t v k w l r is e p h =
    subst (IsUnlessMemory r) (forbid_same version case t v k is) (subst (λ v. IsUnlessMemory r (with_scene version case (Forbid t v (place_of k)))) e
    (subst (λ l. IsUnlessMemory r (with_scene version case (Forbid t w l))) p h))

pub allow_taken : (version : ℕ) (case : Case) (t v k w l : ℕ) (r : Result Draft (OrMemory LineFault)) → IsCase case → w ≡ v → l ≡ place_of k
    → IsUnlessMemory r (with_scene version case (Allow t w l)) → IsUnlessMemory r (with_scene version case (Allow t v k))
allow_taken version case t v k w l r is e p h =
    subst (IsUnlessMemory r) (allow_same version case t v k is) (subst (λ v. IsUnlessMemory r (with_scene version case (Allow t v (place_of k)))) e
    (subst (λ l. IsUnlessMemory r (with_scene version case (Allow t w l))) p h))

pub link_said : (k : Keyword) (ns : List ℕ) → k ≡ keyword.Link → 3 ≤ length ns → length ns < 4
    → statement_with k ns ≡ Ok (link_line (record { first = get_or ns 0 0; second = get_or ns 1 0; delay = get_or ns 2 0; back = get_or ns 2 0 }))
link_said k (a ∷ b ∷ c ∷ []) e low high = rw e refl
link_said k ns e low high = absurd (omega arith)

pub two_way_link_said : (k : Keyword) (ns : List ℕ) → k ≡ keyword.TwoWayLink → 4 ≤ length ns → length ns < 5
    → statement_with k ns ≡ Ok (link_line (record { first = get_or ns 0 0; second = get_or ns 1 0; delay = get_or ns 2 0; back = get_or ns 3 0 }))
two_way_link_said k (a ∷ b ∷ c ∷ d ∷ []) e low high = rw e refl
two_way_link_said k ns e low high = absurd (omega arith)

pub fail_said : (k : Keyword) (ns : List ℕ) → k ≡ keyword.Fail → 3 ≤ length ns → length ns < 4 → scene_with k ns ≡ Ok (Fail (get_or ns 0 0) (get_or ns 1 0) (get_or ns 2 0))
fail_said k (a ∷ b ∷ c ∷ []) e low high = rw e refl
fail_said k ns e low high = absurd (omega arith)

pub restore_said : (k : Keyword) (ns : List ℕ) → k ≡ keyword.Restore → 3 ≤ length ns → length ns < 4 → scene_with k ns ≡ Ok (Restore (get_or ns 0 0) (get_or ns 1 0) (get_or ns 2 0))
restore_said k (a ∷ b ∷ c ∷ []) e low high = rw e refl
restore_said k ns e low high = absurd (omega arith)

pub swap_said : (k : Keyword) (ns : List ℕ) → k ≡ keyword.Swap → 4 ≤ length ns → length ns < 5
    → scene_with k ns ≡ Ok (Swap (get_or ns 0 0) (get_or ns 1 0) (get_or ns 2 0) (get_or ns 3 0))
swap_said k (a ∷ b ∷ c ∷ d ∷ []) e low high = rw e refl
swap_said k ns e low high = absurd (omega arith)

pub forbid_said : (k : Keyword) (ns : List ℕ) → k ≡ keyword.Forbid → 3 ≤ length ns → length ns < 4 → scene_with k ns ≡ Ok (Forbid (get_or ns 0 0) (get_or ns 1 0) (get_or ns 2 0))
forbid_said k (a ∷ b ∷ c ∷ []) e low high = rw e refl
forbid_said k ns e low high = absurd (omega arith)

pub allow_said : (k : Keyword) (ns : List ℕ) → k ≡ keyword.Allow → 3 ≤ length ns → length ns < 4 → scene_with k ns ≡ Ok (Allow (get_or ns 0 0) (get_or ns 1 0) (get_or ns 2 0))
allow_said k (a ∷ b ∷ c ∷ []) e low high = rw e refl
allow_said k ns e low high = absurd (omega arith)

pub end_said : (k : Keyword) (ns : List ℕ) → k ≡ keyword.End → length ns < 1 → statement_with k ns ≡ Ok end_line
end_said k [] e none = rw e refl
end_said k (n ∷ ns) e none = absurd (omega arith)
