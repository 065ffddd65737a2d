-- The text of a case, part by part.
use Rattle.std.proofs.Common.{◌≡◌, ℕ, ◌==◌, true, List, [], ◌∷◌, ◌++◌, map, codes, decimal, ap, ap₂, refl, subst, sym, ◌∙◌, append_assoc, inl, inr, arith}
use Rattle.std.proofs.lemmas.Bool.{cases_Bool}
use Rattle.std.proofs.lemmas.Bool.Decides.{nat_tests}
use Rattle.std.proofs.lemmas.Fmt.{decimal_digit}
use Rattle.std.proofs.lemmas.List.{append-nil}
use Rattle.std.proofs.lemmas.List.Concat.{flat_map-append}
use Rattle.std.proofs.lemmas.List.Folds.{flat_map-map}
use Rattle.std.specs.List.{flat_map, join_with_byte}
use Rattle.tw_model.specs.Case.{Case, IsCase}
use Rattle.tw_model.specs.PermittedPath.{PermittedPath}
use Rattle.tw_model.specs.Net.{Net}
use Rattle.tw_model.specs.declared.case.Scene.{Scene}
use Rattle.tw_model.specs.declared.net.Link.{Link}
use Rattle.tw_lines.specs.Words.{ended_line}
use Rattle.tw_text.specs.Statements.{Statement, nodes_line, link_line, path_line, scene_line, end_line}
use Rattle.tw_text.specs.Text.{line_of, line_of_path, line_of_scene, statements_of, text_of_case}
use Rattle.tw_text.specs.Versions.{header}
use Rattle.tw_text.proofs.Only.{is_said}
use Rattle.tw_model.specs.Rules.{is_within}
use Rattle.tw_model.specs.declared.limits.TheConstants.{LATEST_VERSION}

-- the lines of statements, each with its end
abbrev pub lines_text : ℕ → List Statement → List ℕ
lines_text version statements = flat_map (λ s. ended_line (line_of version s)) statements

-- numbers behind a word, each with a space before it
join-numbers : (w : List ℕ) (ns : List ℕ) → join_with_byte 32 (w ∷ map decimal ns) ≡ w ++ flat_map (λ n. 32 ∷ decimal n) ns
join-numbers w [] = sym (append-nil w)
join-numbers w (n ∷ ns) = ap (λ t. w ++ 32 ∷ t) (join-numbers (decimal n) ns)

path-text : (owner : ℕ) (ns : List ℕ)
    → (codes "path " ++ decimal owner) ++ (flat_map (λ n. 32 ∷ decimal n) ns ++ 10 ∷ []) ≡ ended_line (line_of_path (record { owner = owner; nodes = ns }))
path-text owner ns =
    ap (λ t. codes "path " ++ t) (sym (append_assoc (decimal owner) (flat_map (λ n. 32 ∷ decimal n) ns) (10 ∷ [])) ∙ ap (λ t. t ++ 10 ∷ []) (sym (join-numbers (decimal owner) ns)))

-- the three parts of a path line, pushed one after another
pub path-pushed : (old a b c : List ℕ) (owner : ℕ) (ns : List ℕ) → a ≡ old ++ (codes "path " ++ decimal owner) → b ≡ a ++ flat_map (λ n. 32 ∷ decimal n) ns → c ≡ b ++ 10 ∷ []
    → c ≡ old ++ ended_line (line_of_path (record { owner = owner; nodes = ns }))
path-pushed old a b c owner ns p q r =
    r ∙ ap (λ t. t ++ 10 ∷ []) (q ∙ ap (λ t. t ++ flat_map (λ n. 32 ∷ decimal n) ns) p)
    ∙ append_assoc (old ++ (codes "path " ++ decimal owner)) (flat_map (λ n. 32 ∷ decimal n) ns) (10 ∷ [])
    ∙ append_assoc old (codes "path " ++ decimal owner) (flat_map (λ n. 32 ∷ decimal n) ns ++ 10 ∷ [])
    ∙ ap (λ t. old ++ t) (path-text owner ns)

mapped : {X : Type 0} (version : ℕ) (f : X → Statement) (xs : List X) → lines_text version (map f xs) ≡ flat_map (λ x. ended_line (line_of version (f x))) xs
mapped version f xs = flat_map-map (λ s. ended_line (line_of version s)) f xs

text-parts : (case : Case) → text_of_case case ≡ ended_line (header case.version) ++ (ended_line (line_of case.version (nodes_line case.net.nodes))
    ++ (flat_map (λ l. ended_line (line_of case.version (link_line l))) case.net.links ++ (flat_map (λ p. ended_line (line_of_path p)) case.net.permitted
    ++ (flat_map (λ s. ended_line (line_of_scene s)) case.scenes ++ (ended_line (line_of case.version end_line) ++ [])))))
unfolding text_of_case
text-parts case =
    let v = case.version in
    let f = λ (s : Statement). ended_line (line_of v s) in
    let scene_lines = map (λ s. scene_line s) case.scenes in
    let path_lines = map (λ p. path_line p) case.net.permitted in
    let link_lines = map (λ l. link_line l) case.net.links in
    let last = end_line ∷ [] in
    let scenes = flat_map-append f scene_lines last ∙ ap (λ t. t ++ lines_text v last) (mapped v (λ s. scene_line s) case.scenes) in
    let paths = flat_map-append f path_lines (scene_lines ++ last) ∙ ap₂ (λ xs ys. xs ++ ys) (mapped v (λ p. path_line p) case.net.permitted) scenes in
    let links = flat_map-append f link_lines (path_lines ++ (scene_lines ++ last)) ∙ ap₂ (λ xs ys. xs ++ ys) (mapped v (λ l. link_line l) case.net.links) paths in
    ap (λ t. ended_line (header v) ++ t) (flat_map-map ended_line (line_of v) (statements_of case) ∙ ap (λ t. ended_line (line_of v (nodes_line case.net.nodes)) ++ t) links)

-- the first two lines, with the number of the version in the header
two_lines : (version n : ℕ) → is_within 1 LATEST_VERSION version ≡ true
    → codes "spp " ++ (decimal version ++ (codes "\nnodes " ++ (decimal n ++ 10 ∷ []))) ≡ ended_line (header version) ++ ended_line (line_of version (nodes_line n))
two_lines version n h =
    elim (cases_Bool (version == 1)) [
      | inl t ↦ let e : version ≡ 1 = grind (arith, nat_tests) in rw e (rw (decimal_digit 1 (omega arith)) refl)
      | inr f ↦ let e : version ≡ 2 = grind (arith, nat_tests) in rw e (rw (decimal_digit 2 (omega arith)) refl)
    ]

six : (h n l p s e : List ℕ) → ((((h ++ n) ++ l) ++ p) ++ s) ++ e ≡ h ++ (n ++ (l ++ (p ++ (s ++ (e ++ [])))))
six h n l p s e = simp (append_assoc, append-nil)

-- the parts of a case, pushed one after another
pub case-pushed : (case : Case) (net : Net) (v n : ℕ) (links : List Link) (paths : List PermittedPath) (scenes : List Scene) (a b c d e : List ℕ)
    → IsCase case → v ≡ case.version → net ≡ case.net → n ≡ net.nodes → links ≡ net.links → paths ≡ net.permitted → scenes ≡ case.scenes
    → a ≡ codes "spp " ++ (decimal v ++ (codes "\nnodes " ++ (decimal n ++ 10 ∷ []))) → b ≡ a ++ flat_map (λ l. ended_line (line_of v (link_line l))) links
    → c ≡ b ++ flat_map (λ p. ended_line (line_of_path p)) paths → d ≡ c ++ flat_map (λ s. ended_line (line_of_scene s)) scenes
    → e ≡ d ++ ended_line (line_of v end_line) → e ≡ text_of_case case
case-pushed case net v n links paths scenes a b c d e is hv hn h1 h2 h3 h4 p q r s t =
    let w = case.version in
    let within = (is_said w case.net case.scenes is.version).within in
    let lines = p ∙ two_lines v n (subst (λ v. is_within 1 LATEST_VERSION v ≡ true) (sym hv) within) in
    let link_text = flat_map (λ l. ended_line (line_of w (link_line l))) case.net.links in
    let path_text = flat_map (λ p. ended_line (line_of_path p)) case.net.permitted in
    let scene_text = flat_map (λ s. ended_line (line_of_scene s)) case.scenes in
    t ∙ rw (s, r, q, lines, h1, h2, h3, h4, hn, hv) (six (ended_line (header w)) (ended_line (line_of w (nodes_line case.net.nodes))) link_text path_text scene_text (ended_line (line_of w end_line)))
    ∙ sym (text-parts case)
