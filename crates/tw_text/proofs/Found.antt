-- A text that is read as a case is the text of that case, and the case keeps the rules.
use Rattle.std.proofs.Common.{◌≡◌, ℕ, true, false, List, [], ◌∷◌, ◌++◌, map, bytes_eq, if◌then◌else◌, Option}
use Rattle.std.proofs.Common.{Some, None, Result, Ok, refl, ap, sym, ◌∙◌, append_assoc, inl, inr, subst}
use Rattle.std.proofs.lemmas.Bool.{cases_Bool}
use Rattle.std.proofs.lemmas.List.{append-nil, map-append}
use Rattle.std.specs.Cmp.Lexicographic.{bytes_decides}
use Rattle.std.specs.List.{find, flat_map, join_with_byte}
use Rattle.tw_model.specs.Case.{Case, IsCase}
use Rattle.tw_model.specs.PermittedPath.{PermittedPath}
use Rattle.tw_model.specs.Net.{Net}
use Rattle.tw_model.specs.Rules.{is_within, IsNet, rules_in_order}
use Rattle.tw_model.specs.declared.case.Scene.{Scene}
use Rattle.tw_model.specs.declared.net.Link.{Link}
use Rattle.tw_model.specs.declared.rule.Rule.{Rule}
use Rattle.tw_model.specs.declared.limits.TheConstants.{LATEST_VERSION}
use Rattle.tw_model.proofs.Grown.{case_alone, case_with_scene, net_alone, net_with_link, net_with_path}
use Rattle.tw_sim.proofs.Members.{In, in_find}
use Rattle.tw_lines.specs.declared.text_fault.LineFault.{LineFault}
use Rattle.tw_lines.specs.declared.text_fault.LineFault.TheVariants as x
use Rattle.tw_lines.specs.Words.{ended_line, words}
use Rattle.tw_lines.proofs.Parts.{PreservesDraft, follows_kept, text_read}
use Rattle.tw_lines.proofs.Splits.{join-words}
use Rattle.tw_lines.proofs.Steps.{bound}
use Rattle.tw_text.specs.declared.draft.Draft.{Draft}
use Rattle.tw_text.specs.declared.draft.Draft.TheVariants.{Start, Header, Links, Paths, Scenes, Done}
use Rattle.tw_text.specs.Drafts.{fault_after, of_rule, step_by}
use Rattle.tw_text.specs.FaultTable.{breaks, draft_after, is_done, is_misplaced, is_start, said_after, unless_fault, version_in, with_statement}
use Rattle.tw_text.specs.Reading.{case_of, case_reader, whole_case}
use Rattle.tw_text.specs.Statements.{Statement, nodes_line, link_line, path_line, scene_line, end_line}
use Rattle.tw_text.specs.Text.{line_of, statements_of, text_of_case}
use Rattle.tw_text.specs.Versions.{header, version_of}
use Rattle.tw_text.proofs.Faults.{later_step, plain-from_step, start_step, started}
use Rattle.tw_text.proofs.Lines.{Fits}
use Rattle.tw_text.proofs.Said.{statement_of-is}

-- what the lines have said that gave these, from line 2 on
abbrev statements_from : Net → List Scene → List Statement
statements_from net scenes = nodes_line net.nodes ∷ (map (λ l. link_line l) net.links ++ (map (λ p. path_line p) net.permitted ++ map (λ s. scene_line s) scenes))

abbrev statements_in : Draft → List Statement
statements_in Start = []
statements_in (Header version) = []
statements_in (Links version net) = statements_from net []
statements_in (Paths version net) = statements_from net []
statements_in (Scenes version c) = statements_from c.net c.scenes
statements_in (Done c) = statements_of c

-- the lines of which a draft was made
abbrev pub lines_in : Draft → List (List ℕ)
lines_in d = if is_start d then [] else header (version_in d) ∷ map (line_of (version_in d)) (statements_in d)

-- what a draft holds keeps the rules
abbrev pub IsDraft : Draft → Type 0
IsDraft Start = Unit {0}
IsDraft (Header version) = Unit {0}
IsDraft (Links version net) = IsNet net × (net.permitted ≡ [])
IsDraft (Paths version net) = IsNet net
IsDraft (Scenes version c) = IsCase c
IsDraft (Done c) = IsCase c

-- a draft with what a statement adds
record Adds (d : Draft) (s : Statement) : Type 0 where
  draft : IsDraft (with_statement d s)
  said : statements_in (with_statement d s) ≡ statements_in d ++ s ∷ []

-- an instance without paths
abbrev bare : Net → List Link → List PermittedPath → Net
bare net links paths = record net { links = links; permitted = paths }

link_said : (net : Net) (l : Link) (paths : List PermittedPath) → paths ≡ []
    → statements_from (bare net (net.links ++ l ∷ []) paths) [] ≡ statements_from (bare net net.links paths) [] ++ link_line l ∷ []
link_said net l paths none =
    let said = map (λ l. link_line l) net.links in
    rw none (ap (λ t. nodes_line net.nodes ∷ t) (append-nil (map (λ l. link_line l) (net.links ++ l ∷ [])) ∙ (map-append (λ l. link_line l) net.links (l ∷ [])
    ∙ ap (λ t. t ++ link_line l ∷ []) (sym (append-nil said)))))

path_said : (net : Net) (p : PermittedPath) → statements_from (record net { permitted = net.permitted ++ p ∷ [] }) [] ≡ statements_from net [] ++ path_line p ∷ []
path_said net p = simp (map-append, append_assoc, append-nil)

scene_said : (net : Net) (scenes : List Scene) (s : Scene) → statements_from net (scenes ++ s ∷ []) ≡ statements_from net scenes ++ scene_line s ∷ []
scene_said net scenes s = simp (map-append, append_assoc)

end_said : (version : ℕ) (net : Net) (scenes : List Scene) → statements_of (record { version = version; net = net; scenes = scenes }) ≡ statements_from net scenes ++ end_line ∷ []
end_said version net scenes = simp append_assoc

-- the latest version says every case
latest : (c : Case) → IsCase c → IsCase (record c { version = LATEST_VERSION })
latest c h = record { net = h.net; scenes = h.scenes; version = refl }

adds : (d : Draft) (s : Statement) → IsDraft d → Fits d s → Adds d s
adds (Header version) (nodes_line n) h f = record { draft = (net_alone n f.kept, refl); said = refl }
adds (Links version net) (link_line l) h f = record { draft = (net_with_link net l h.0 f.kept, h.1); said = link_said net l net.permitted h.1 }
adds (Links version net) (path_line p) h f = record { draft = net_with_path net p h.0 f.kept; said = path_said net p }
adds (Links version net) (scene_line s) h f = record { draft = case_with_scene net [] s (case_alone net h.0) f.kept; said = scene_said net [] s }
adds (Links version net) end_line h f = record { draft = record { net = h.0; scenes = tt; version = f.kept }; said = end_said version net [] }
adds (Paths version net) (path_line p) h f = record { draft = net_with_path net p h f.kept; said = path_said net p }
adds (Paths version net) (scene_line s) h f = record { draft = case_with_scene net [] s (case_alone net h) f.kept; said = scene_said net [] s }
adds (Paths version net) end_line h f = record { draft = record { net = h; scenes = tt; version = f.kept }; said = end_said version net [] }
adds (Scenes version c) (scene_line s) h f = record { draft = case_with_scene c.net c.scenes s (latest c h) f.kept; said = scene_said c.net c.scenes s }
adds (Scenes version c) end_line h f = record { draft = record { net = h.net; scenes = h.scenes; version = f.kept }; said = end_said version c.net c.scenes }
adds d s h f = absurd (let placed = f.placed in let unended = f.unended in let later = f.later in cc)

no_rule : (broken : Option Rule) → of_rule broken ≡ None → broken ≡ None
no_rule None h = refl
no_rule (Some r) h = absurd (cc)

-- where a line has no fault, its statement fits
fits : (d : Draft) (s : Statement) → is_start d ≡ false → fault_after d s true ≡ None → Fits d s
fits d s later h =
    elim (cases_Bool (is_misplaced d s)) [
      | inl t ↦ absurd (let e : Some x.Order ≡ None = rw t at h in cc)
      | inr f ↦
          elim (cases_Bool (is_done d)) [
            | inl t ↦ absurd (let e : Some x.End ≡ None = rw (f, t) at h in cc)
            | inr g ↦ record { later = later; placed = f; unended = g; kept = no_rule (find (breaks d s) rules_in_order) (rw (f, g) at h) }
          ]
    ]

pub no_fault : (fault : Option LineFault) (next after : Draft) → unless_fault fault next ≡ Ok after → (fault ≡ None) × (next ≡ after)
no_fault None next after h = (refl, let r : Result Draft LineFault = Ok next in let g : r ≡ Ok after = h in cc)
no_fault (Some f) next after h = absurd (cc)

-- the draft after a line without a fault
abbrev Steps : Draft → Draft → List ℕ → Type 0
Steps d after line = PreservesDraft case_reader IsDraft lines_in d after line

lines-more : (d next : Draft) (s : Statement) → is_start d ≡ false → is_start next ≡ false → version_in next ≡ version_in d → statements_in next ≡ statements_in d ++ s ∷ []
    → lines_in next ≡ lines_in d ++ line_of (version_in d) s ∷ []
lines-more d next s h g v e =
    let line = line_of (version_in d) in rw (h, g, v) (ap (λ ls. header (version_in d) ∷ ls) (ap (map line) e ∙ map-append line (statements_in d) (s ∷ [])))

same_version : (d : Draft) (s : Statement) → version_in (with_statement d s) ≡ version_in d
same_version d (nodes_line n) = refl
same_version d (link_line l) = refl
same_version d (path_line p) = refl
same_version d (scene_line s) = refl
same_version d end_line = refl

begun : (d : Draft) (s : Statement) → is_start (with_statement d s) ≡ false
begun d (nodes_line n) = refl
begun d (link_line l) = refl
begun d (path_line p) = refl
begun d (scene_line s) = refl
begun d end_line = refl

-- nothing follows the end
pub undone : (d after : Draft) (line : List ℕ) → draft_after d line true ≡ Ok after → is_done d ≡ false
undone Start after line stepped = refl
undone d after line stepped =
    let b = bound (said_after d line) (λ s. step_by d s true) after (sym (later_step d line true refl (plain-from_step d after line true stepped)) ∙ stepped) in
    (fits d b.value refl (no_fault (fault_after d b.value true) (with_statement d b.value) after b.next).0).unended

later_steps : (d after : Draft) (line : List ℕ) → is_start d ≡ false → IsDraft d → draft_after d line true ≡ Ok after → Steps d after line
later_steps d after line later h stepped =
    let plain = plain-from_step d after line true stepped in
    let b = bound (said_after d line) (λ s. step_by d s true) after (sym (later_step d line true later plain) ∙ stepped) in
    let s = b.value in
    let n = no_fault (fault_after d s true) (with_statement d s) after b.next in
    let a = adds d s h (fits d s later n.0) in
    let e : line ≡ line_of (version_in d) s = sym (join-words line) ∙ ap (join_with_byte 32) (statement_of-is (version_in d) (words line) s b.was) in
    record {
      draft = subst IsDraft n.1 a.draft;
      lines = sym (ap lines_in n.1) ∙ (lines-more d (with_statement d s) s later (begun d s) (same_version d s) a.said ∙ ap (λ l. lines_in d ++ l ∷ []) (sym e));
    }

-- a header was read
pub started_is : (found : Option ℕ) (after : Draft) → started found true ≡ Ok after → ((version : ℕ) × (found ≡ Some version) × (Header version ≡ after))
started_is None after h = absurd (cc)
started_is (Some version) after h = (version, refl, let r : Result Draft LineFault = Ok (Header version) in let g : r ≡ Ok after = h in cc)

header_is : (line : List ℕ) (version : ℕ) → version_of line ≡ Some version → line ≡ header version
header_is line version h =
    (bytes_decides line (header version)).0 (in_find (λ version. bytes_eq line (header version)) version (1 ∷ 2 ∷ []) h).0

pub header_within : (line : List ℕ) (version : ℕ) → version_of line ≡ Some version → is_within 1 LATEST_VERSION version ≡ true
header_within line version h = one_of version (in_find (λ version. bytes_eq line (header version)) version (1 ∷ 2 ∷ []) h).1
  where
    one_of : (version : ℕ) → In version (1 ∷ 2 ∷ []) → is_within 1 LATEST_VERSION version ≡ true
    one_of version (inl e) = rw e refl
    one_of version (inr (inl e)) = rw e refl
    one_of version (inr (inr none)) = absurd none

start_steps : (after : Draft) (line : List ℕ) → draft_after Start line true ≡ Ok after → Steps Start after line
start_steps after line stepped =
    let found = version_of line in
    let b = started_is found after (sym (start_step line found true (plain-from_step Start after line true stepped) refl) ∙ stepped) in
    record { draft = subst IsDraft b.2 tt; lines = sym (ap lines_in b.2) ∙ ap (λ l. l ∷ []) (sym (header_is line b.0 b.1)) }

pub steps : (d after : Draft) (line : List ℕ) → IsDraft d → draft_after d line true ≡ Ok after → Steps d after line
steps Start after line h stepped = start_steps after line stepped
steps d after line h stepped = later_steps d after line refl h stepped

done_at : (d : Draft) (c : Case) → whole_case d ≡ Some c → d ≡ Done c
done_at (Done case) c h = let e : case ≡ c = cc in ap (λ c. Done c) e
done_at d c h = absurd (cc)

-- what was read is the case of the text
pub case_of-is : (text : List ℕ) (c : Case) → case_of text ≡ Ok c → IsCase c × (text ≡ text_of_case c)
unfolding case_of text_of_case
case_of-is text c h =
    let w = text_read case_reader Start text c h in
    let done = done_at w.last c w.whole in
    let k = follows_kept case_reader IsDraft lines_in steps Start w.last w.lines tt w.follows in
    (subst IsDraft done k.0, w.same ∙ ap (flat_map ended_line) (sym k.1 ∙ ap lines_in done))
