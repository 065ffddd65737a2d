-- What a build tells of its items, item by item.
use Rattle.std.proofs.Common.{◌≡◌, ◌↔◌, ℕ, ◌+◌, ◌<◌, List, [], ◌∷◌, ◌++◌, length, get_or, drop, take, Option}
use Rattle.std.proofs.Common.{Some, None, Result, Ok, Err, refl, sym, subst, ap, ◌∙◌, append_assoc, zero-add, arith, inl, inr}
use Rattle.std.specs.List.{enumerate_from}
use Rattle.std.proofs.lemmas.List.{at_drop_more, take_more}
use Rattle.std.proofs.lemmas.List.Elements.{All-cons, All-head, All-nil, All-tail}
use Rattle.std.proofs.lemmas.List.FromFn.{get_or-enumerate_from, length-enumerate_from}
use Rattle.tw_model.specs.declared.memory.OrMemory.{OrMemory}
use Rattle.tw_model.specs.declared.memory.OrMemory.TheVariants.{Fault, Memory}
use Rattle.tw_model.specs.declared.net.Link.{Link}
use Rattle.tw_model.specs.declared.rule.Rule.{Rule}
use Rattle.tw_model.specs.PermittedPath.{PermittedPath}
use Rattle.tw_model.specs.Net.{Net, bare_net}
use Rattle.tw_model.specs.Rules.{path_fault}
use Rattle.tw_instance.specs.Build.{IsRefusedAt, JudgedItem, LacksMemory, NoneBreaks, TellsOf, judged_links, judged_paths}
use Rattle.tw_instance.specs.declared.refusal.At.{At}
use Rattle.tw_instance.specs.declared.refusal.Item.{Item}
use Rattle.tw_instance.specs.declared.refusal.Item.TheVariants.{Path}

-- the answer of a call for one item says which rule it breaks
abbrev pub SaysRule : {T : Type 0} → Result T (OrMemory Rule) → Option Rule → Type 0
SaysRule result broken = (r : Rule) → (result ≡ Err (Fault r)) ↔ (broken ≡ Some r)

-- an item that breaks a rule is where the build was refused
pub refused_by : (broken : Option Rule) (rule : Rule) (item : Item) (items : List JudgedItem) → broken ≡ Some rule → IsRefusedAt ((item, broken) ∷ items) (record { item = item; fault = Fault rule })
refused_by broken rule item items is = rw is refl

-- an item that was not taken, of a kind that takes memory, is where the build was refused
pub refused_here : (T : Type 0) (fault : OrMemory Rule) (broken : Option Rule) (item : Item) (items : List JudgedItem) → LacksMemory item (record { item = item; fault = Memory })
    → (let e : Result T (OrMemory Rule) = Err fault in SaysRule e broken) → IsRefusedAt ((item, broken) ∷ items) (record { item = item; fault = fault })
refused_here T (Fault r) broken item items lacks h = refused_by broken r item items ((h r).0 refl)
refused_here T Memory None item items lacks h = inl lacks
refused_here T Memory (Some r) item items lacks h = absurd (let e = (h r).1 refl in cc)

-- an item that was taken leaves what is told of those behind it
pub told_after : {T : Type 0} (result : Result T At) (broken : Option Rule) (item : Item) (items : List JudgedItem) → broken ≡ None → TellsOf result items → TellsOf result ((item, broken) ∷ items)
told_after (Ok x) broken item items none h = All-cons (λ item. item.1 ≡ None) (item, broken) items none h
told_after (Err at) broken item items none h = rw none (inr h)

-- a build that was refused among the first of its items
pub refused_early : (xs ys : List JudgedItem) (at : At) → IsRefusedAt xs at → IsRefusedAt (xs ++ ys) at
refused_early ((item, Some r) ∷ xs) ys at h = h
refused_early ((item, None) ∷ xs) ys at (inl e) = inl e
refused_early ((item, None) ∷ xs) ys at (inr h) = inr (refused_early xs ys at h)
refused_early [] ys at h = absurd h

-- the first of its items were taken
pub told_later : {T : Type 0} (result : Result T At) (xs ys : List JudgedItem) → NoneBreaks xs → TellsOf result ys → TellsOf result (xs ++ ys)
told_later result [] ys all h = h
told_later result ((item, broken) ∷ xs) ys all h =
    told_after result broken item (xs ++ ys) (All-head (λ item. item.1 ≡ None) (item, broken) xs all) (told_later result xs ys (All-tail (λ item. item.1 ≡ None) (item, broken) xs all) h)

-- ---- in a build

-- the links are judged after none
pub same_links : (net : Net) (nodes : ℕ) (given links : List Link) → net ≡ bare_net nodes → given ≡ links → judged_links net 1 given ≡ judged_links (bare_net nodes) 1 links
same_links net nodes given links bare same = ap (λ n. judged_links n 1 given) bare ∙ ap (judged_links (bare_net nodes) 1) same

-- the paths are judged after the links
pub same_judged : (net more : Net) (nodes : ℕ) (given links : List Link) (paths : List PermittedPath) → net ≡ bare_net nodes → given ≡ links → more ≡ record net { links = net.links ++ given }
    → judged_paths more 1 paths ≡ judged_paths (record { nodes = nodes; links = links; permitted = [] }) 1 paths
same_judged net more nodes given links paths bare same grown =
    ap (λ n. judged_paths n 1 paths) grown
    ∙ (ap (λ (n : Net). judged_paths (record n { links = n.links ++ given }) 1 paths) bare ∙ ap (λ ls. judged_paths (record { nodes = nodes; links = ls; permitted = [] }) 1 paths) same)

-- ---- in a loop over items

-- what is told of the items that are left is told of all
abbrev pub Covers : List JudgedItem → List JudgedItem → Type 0
Covers left all = (result : Result (Unit {0}) At) → TellsOf result left → TellsOf result all

-- the item of a turn was taken
pub covers_after : (left all items : List JudgedItem) (broken : Option Rule) (item : Item) → Covers left all → left ≡ (item, broken) ∷ items → broken ≡ None → Covers items all
covers_after left all items broken item covers is none result told = covers result (subst (TellsOf result) (sym is) (told_after result broken item items none told))

-- the item of a turn was not taken
pub covers_here : (left all items : List JudgedItem) (broken : Option Rule) (item : Item) (fault : OrMemory Rule) (at : At) → LacksMemory item (record { item = item; fault = Memory }) → Covers left all → left ≡ (item, broken) ∷ items
    → (let e : Result (Unit {0}) (OrMemory Rule) = Err fault in SaysRule e broken) → at ≡ record { item = item; fault = fault } → (let e : Result (Unit {0}) At = Err at in TellsOf e all)
covers_here left all items broken item fault at lacks covers is says made =
    covers (Err at) (subst (λ xs. IsRefusedAt xs at) (sym is) (subst (IsRefusedAt ((item, broken) ∷ items)) (sym made) (refused_here (Unit {0}) fault broken item items lacks says)))

-- no item is left: all were taken
pub covers_end : (left all : List JudgedItem) → Covers left all → left ≡ [] → NoneBreaks all
covers_end left all covers none = covers (Ok tt) (subst NoneBreaks (sym none) (All-nil (λ item. item.1 ≡ None)))

-- the item of a turn, with its place
pub turn_of : (all : List PermittedPath) (n i : ℕ) (p : PermittedPath) → (n < length (enumerate_from 0 all)) × ((i, p) ≡ get_or (enumerate_from 0 all) n (i, p))
    → (n < length all) × (i ≡ n) × (p ≡ get_or all n p)
turn_of all n i p t =
    let long = length-enumerate_from 0 all in
    let below : n < length all = let b = t.0 in omega arith in
    let e = t.1 ∙ get_or-enumerate_from 0 all n (i, p) below in
    (below, ap (λ (q : ℕ × PermittedPath). q.0) e ∙ zero-add n, ap (λ (q : ℕ × PermittedPath). q.1) e)

-- the paths that are left, by the first of them
pub first_path : (net : Net) (all : List PermittedPath) (n : ℕ) (p : PermittedPath) → n < length all → p ≡ get_or all n p
    → judged_paths net (n + 1) (drop n all) ≡ (Path (n + 1), path_fault net p) ∷ judged_paths (record net { permitted = net.permitted ++ p ∷ [] }) (n + 1 + 1) (drop (n + 1) all)
first_path net all n p below is =
    at_drop_more (judged_paths net (n + 1)) all n p below ∙ ap (λ q. judged_paths net (n + 1) (q ∷ drop (n + 1) all)) (sym is)

-- what a turn leaves, where the path was taken
pub after_path : (net more old : Net) (all : List PermittedPath) (n : ℕ) (p : PermittedPath) → n < length all → p ≡ get_or all n p
    → more ≡ record net { permitted = net.permitted ++ p ∷ [] } → path_fault net p ≡ None
    → net ≡ record old { permitted = old.permitted ++ take n all } → Covers (judged_paths net (n + 1) (drop n all)) (judged_paths old 1 all)
    → (more ≡ record old { permitted = old.permitted ++ take (n + 1) all }) × Covers (judged_paths more (n + 1 + 1) (drop (n + 1) all)) (judged_paths old 1 all)
after_path net more old all n p below is grown none now covers =
    let later = covers_after _ _ _ (path_fault net p) (Path (n + 1)) covers (first_path net all n p below is) none in
    let ends : old.permitted ++ take n all ++ p ∷ [] ≡ old.permitted ++ take (n + 1) all =
    append_assoc old.permitted (take n all) (p ∷ []) ∙ ap (λ ls. old.permitted ++ ls) (ap (λ q. take n all ++ q ∷ []) is ∙ sym (take_more all n p below)) in (
      grown ∙ (ap (λ (m : Net). record m { permitted = m.permitted ++ p ∷ [] }) now ∙ ap (λ ls. record old { permitted = ls }) ends),
      subst (λ m. Covers (judged_paths m (n + 1 + 1) (drop (n + 1) all)) (judged_paths old 1 all)) (sym grown) later,
    )
