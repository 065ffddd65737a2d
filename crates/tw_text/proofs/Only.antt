-- The text of a case is read as that case.
use Rattle.std.proofs.Common.{◌≡◌, ℕ, ◌≤◌, ◌==◌, Bool, true, false, not, ◌&&◌, ◌||◌, List, [], ◌∷◌, ◌++◌, length, map, None, Some, Ok, refl, subst, sym, append_assoc, inl, inr, arith}
use Rattle.std.proofs.lemmas.Bool.{and_parts, cases_Bool, not-false}
use Rattle.std.proofs.lemmas.Bool.Decides.{nat_tests}
use Rattle.std.proofs.lemmas.List.{append-nil, length_push}
use Rattle.std.specs.List.{AllByRecursion, list_all}
use Rattle.tw_model.specs.Case.{Case, IsCase}
use Rattle.tw_model.proofs.Nets.{nodes_within}
use Rattle.tw_model.proofs.Unbroken.{none_broken}
use Rattle.tw_model.specs.PermittedPath.{PermittedPath}
use Rattle.tw_model.specs.Net.{Net}
use Rattle.tw_model.specs.Rules.{IsNet, LinksFollow, PathsFollow, ScenesFollow, case_breaks, case_fault, is_first_link, is_first_scene, is_within, suits_version}
use Rattle.tw_model.specs.declared.case.Scene.{Scene}
use Rattle.tw_model.specs.declared.limits.TheConstants.{LATEST_VERSION, MOST_ROUTERS}
use Rattle.tw_model.specs.declared.net.Link.{Link}
use Rattle.tw_model.specs.declared.rule.Rule.TheVariants.{Version}
use Rattle.tw_lines.specs.Words.{is_plain}
use Rattle.tw_lines.proofs.Parts.{Follows, IsPlainReader, text_reads}
use Rattle.tw_text.specs.declared.draft.Draft.{Draft}
use Rattle.tw_text.specs.declared.draft.Draft.TheVariants.{Start, Header, Links, Paths, Scenes, Done}
use Rattle.tw_text.specs.FaultTable.{draft_after, is_done, is_misplaced, is_start, net_of, scenes_of, version_in, with_statement}
use Rattle.tw_text.specs.Reading.{case_of, case_reader}
use Rattle.tw_text.specs.Statements.{Statement, nodes_line, link_line, path_line, scene_line, end_line}
use Rattle.tw_text.specs.Text.{line_of, lines_of, statements_of, text_of_case}
use Rattle.tw_text.specs.Versions.{header, version_of}
use Rattle.tw_text.proofs.Faults.{plain-from_step, start_step}
use Rattle.tw_text.proofs.Lines.{Fits, line-step}
use Rattle.tw_text.proofs.Said.{IsSayable}
use Rattle.tw_text.proofs.Short.{link_short, nodes_short, path_short, scene_short}

-- reading these lines leads from d to the case
abbrev pub Leads : Draft → List (List ℕ) → Case → Type 0
Leads d lines c = Follows case_reader d lines (Done c)

leads_on : (d next : Draft) (c : Case) (line : List ℕ) (lines : List (List ℕ)) → draft_after d line true ≡ Ok next → Leads next lines c → Leads d (line ∷ lines) c
leads_on d next c line lines h g = (next, h, g)

-- these statements of a version, one after another, lead from d to the case
abbrev Lead : ℕ → Draft → List Statement → Case → Type 0
Lead version d statements c = Leads d (map (line_of version) statements) c

say : (version : ℕ) (d : Draft) (c : Case) (s : Statement) (rest : List Statement) → version_in d ≡ version → IsSayable version s → Fits d s → Lead version (with_statement d s) rest c
    → Lead version d (s ∷ rest) c
say version d c s rest is h f g =
    leads_on d (with_statement d s) c (line_of version s) (map (line_of version) rest)
    (subst (λ v. draft_after d (line_of v s) true ≡ Ok (with_statement d s)) is (line-step d s (subst (λ v. IsSayable v s) (sym is) h) f)) g

-- ---- what version 1 says

-- each passes the test, in version 1
abbrev pub EachFirst : {X : Type 0} → Bool → (X → Bool) → List X → Type 0
EachFirst first f xs = AllByRecursion (λ x. (not first || f x) ≡ true) xs

each_first : {X : Type 0} (first : Bool) (f : X → Bool) (xs : List X) → (not first || list_all f xs) ≡ true → EachFirst first f xs
each_first first f [] h = tt
each_first false f (x ∷ xs) h = (refl, each_first false f xs refl)
each_first true f (x ∷ xs) h = let w = and_parts (f x) (list_all f xs) h in (w.0, each_first true f xs w.1)

both_first : (first a b : Bool) → (not first || (a && b)) ≡ true → ((not first || a) ≡ true) × ((not first || b) ≡ true)
both_first false a b h = (refl, refl)
both_first true a b h = and_parts a b h

-- a version that says the case: each of its lines, and it has a header
pub record IsSaid (version : ℕ) (net : Net) (scenes : List Scene) : Type 0 where
  pub within : is_within 1 LATEST_VERSION version ≡ true
  pub links : EachFirst (version == 1) is_first_link net.links
  pub scenes_are : EachFirst (version == 1) is_first_scene scenes

pub is_said : (version : ℕ) (net : Net) (scenes : List Scene) → case_fault version net scenes ≡ None → IsSaid version net scenes
is_said version net scenes h =
    let suits = suits_version version net.links scenes in
    let w = and_parts (is_within 1 LATEST_VERSION version) suits (not-false (is_within 1 LATEST_VERSION version && suits) (none_broken (case_breaks version net scenes) h Version)) in
    let b = both_first (version == 1) (list_all is_first_link net.links) (list_all is_first_scene scenes) w.1 in
    record { within = w.0; links = each_first (version == 1) is_first_link net.links b.0; scenes_are = each_first (version == 1) is_first_scene scenes b.1 }

version_of-header : (version : ℕ) → is_within 1 LATEST_VERSION version ≡ true → version_of (header version) ≡ Some version
version_of-header version h =
    elim (cases_Bool (version == 1)) [
      | inl t ↦ let e : version ≡ 1 = grind (arith, nat_tests) in rw e refl
      | inr f ↦ let e : version ≡ 2 = grind (arith, nat_tests) in rw e refl
    ]

plain_header : (version : ℕ) → list_all is_plain (header version) ≡ true
plain_header version =
    elim (cases_Bool (version == 1)) [
      | inl t ↦ rw t refl
      | inr f ↦ rw f refl
    ]

-- ---- the statements of a case

-- an instance without paths
abbrev bare : ℕ → List Link → Net
bare n links = record { nodes = n; links = links; permitted = [] }

say_links : (version n : ℕ) (before links : List Link) (rest : List Statement) (c : Case) → n ≤ MOST_ROUTERS → EachFirst (version == 1) is_first_link links → LinksFollow (bare n before) links
    → Lead version (Links version (bare n (before ++ links))) rest c → Lead version (Links version (bare n before)) (map (λ l. link_line l) links ++ rest) c
say_links version n before [] rest c small first h g = rw append-nil at g
say_links version n before (l ∷ links) rest c small first h g =
    say version (Links version (bare n before)) c (link_line l) (map (λ l. link_line l) links ++ rest) refl (link_short version (bare n before) l first.0 small h.0)
    (record { later = refl; placed = refl; unended = refl; kept = h.0 })
    (say_links version n (before ++ l ∷ []) links rest c small first.1 h.1 (rw (append_assoc before (l ∷ []) links) g))

-- scenes and the end may follow
record TakesScenes (version : ℕ) (d : Draft) (net : Net) (scenes : List Scene) : Type 0 where
  later : is_start d ≡ false
  version_is : version_in d ≡ version
  net_is : net_of d ≡ net
  scenes_are : scenes_of d ≡ scenes
  scene : (s : Scene) → is_misplaced d (scene_line s) ≡ false
  end : is_misplaced d end_line ≡ false
  unended : is_done d ≡ false

-- so may paths
record TakesPaths (version : ℕ) (d : Draft) (net : Net) : Type 0 where
  path : (p : PermittedPath) → is_misplaced d (path_line p) ≡ false
  scenes : TakesScenes version d net []

takes_links : (version : ℕ) (net : Net) → TakesPaths version (Links version net) net
takes_links version net = record {
  path = λ p. refl;
  scenes = record { later = refl; version_is = refl; net_is = refl; scenes_are = refl; scene = λ s. refl; end = refl; unended = refl };
}

takes_paths : (version : ℕ) (net : Net) → TakesPaths version (Paths version net) net
takes_paths version net = record {
  path = λ p. refl;
  scenes = record { later = refl; version_is = refl; net_is = refl; scenes_are = refl; scene = λ s. refl; end = refl; unended = refl };
}

takes_scenes : (version : ℕ) (net : Net) (scenes : List Scene) → TakesScenes version (Scenes version (record { version = LATEST_VERSION; net = net; scenes = scenes })) net scenes
takes_scenes version net scenes = record { later = refl; version_is = refl; net_is = refl; scenes_are = refl; scene = λ s. refl; end = refl; unended = refl }

abbrev with_paths : Net → List PermittedPath → Net
with_paths net paths = record net { permitted = paths }

say_paths : (version : ℕ) (net : Net) (before paths : List PermittedPath) (d : Draft) (c : Case) (rest : List Statement) → net.nodes ≤ MOST_ROUTERS
    → PathsFollow (with_paths net before) paths → TakesPaths version d (with_paths net before)
    → ((next : Draft) → TakesPaths version next (with_paths net (before ++ paths)) → Lead version next rest c) → Lead version d (map (λ p. path_line p) paths ++ rest) c
say_paths version net before [] d c rest small h t g = g d (rw append-nil t)
say_paths version net before (p ∷ paths) d c rest small h t g =
    let after = with_paths net (before ++ p ∷ []) in
    say version d c (path_line p) (map (λ p. path_line p) paths ++ rest) t.scenes.version_is (path_short version (with_paths net before) p small h.0)
    (record { later = t.scenes.later; placed = t.path p; unended = t.scenes.unended; kept = rw t.scenes.net_is h.0 })
    (rw (t.scenes.version_is, t.scenes.net_is) (say_paths version net (before ++ p ∷ []) paths (Paths version after) c rest small h.1 (takes_paths version after)
    (rw (append_assoc before (p ∷ []) paths) g)))

say_scenes : (version : ℕ) (net : Net) (before scenes : List Scene) (d : Draft) (c : Case) (rest : List Statement) → IsNet net → EachFirst (version == 1) is_first_scene scenes
    → ScenesFollow net (length before) scenes → TakesScenes version d net before
    → ((next : Draft) → TakesScenes version next net (before ++ scenes) → Lead version next rest c) → Lead version d (map (λ s. scene_line s) scenes ++ rest) c
say_scenes version net before [] d c rest is first h t g = g d (rw append-nil t)
say_scenes version net before (s ∷ scenes) d c rest is first h t g =
    let after : Case = record { version = LATEST_VERSION; net = net; scenes = before ++ s ∷ [] } in
    say version d c (scene_line s) (map (λ s. scene_line s) scenes ++ rest) t.version_is (scene_short version net (length before) s first.0 is h.0)
    (record { later = t.later; placed = t.scene s; unended = t.unended; kept = rw (t.net_is, t.scenes_are) h.0 })
    (rw (t.version_is, t.net_is, t.scenes_are) (say_scenes version net (before ++ s ∷ []) scenes (Scenes version after) c rest is first.1 (rw (length_push before s) h.1)
    (takes_scenes version net (before ++ s ∷ [])) (rw (append_assoc before (s ∷ []) scenes) g)))

say_end : (version : ℕ) (net : Net) (scenes : List Scene) (d : Draft) → case_fault version net scenes ≡ None → TakesScenes version d net scenes
    → Lead version d (end_line ∷ []) (record { version = version; net = net; scenes = scenes })
say_end version net scenes d h t =
    say version d (record { version = version; net = net; scenes = scenes }) end_line [] t.version_is (record { said = refl; short = tt; count = refl })
    (record { later = t.later; placed = t.end; unended = t.unended; kept = rw (t.version_is, t.net_is, t.scenes_are) h })
    (rw (t.version_is, t.net_is, t.scenes_are) refl)

pub leads_case : (c : Case) → IsCase c → Leads Start (lines_of c) c
leads_case c h =
    let v = c.version in
    let n = c.net.nodes in
    let small = (nodes_within n h.net.nodes).1 in
    let said = is_said v c.net c.scenes h.version in
    leads_on Start (Header v) c (header v) (map (line_of v) (statements_of c)) (start_step (header v) (Some v) true (plain_header v) (sym (version_of-header v said.within)))
    (say v (Header v) c (nodes_line n) _ refl (nodes_short v n h.net.nodes) (record { later = refl; placed = refl; unended = refl; kept = h.net.nodes })
    (say_links v n [] c.net.links _ c small said.links h.net.links
    (say_paths v (bare n c.net.links) [] c.net.permitted (Links v (bare n c.net.links)) c _ small h.net.permitted (takes_links v (bare n c.net.links)) (λ next t.
    say_scenes v c.net [] c.scenes next c _ h.net said.scenes_are h.scenes t.scenes (λ last u. say_end v c.net c.scenes last h.version u)))))

pub case_plain : IsPlainReader case_reader
case_plain d after line h = plain-from_step d after line true h

-- the text of a case is read as that case
pub case_of-text : (c : Case) → IsCase c → case_of (text_of_case c) ≡ Ok c
unfolding case_of text_of_case
case_of-text c h = text_reads case_reader Start (Done c) c (lines_of c) case_plain (leads_case c h) refl
