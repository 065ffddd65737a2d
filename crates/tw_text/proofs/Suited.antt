-- No text breaks the rule of versions: the lines of a version say nothing that it does not have.
use Rattle.std.proofs.Common.{◌≡◌, ℕ, suc, ◌==◌, Bool, true, false, not, ◌&&◌, ◌||◌, List, [], ◌∷◌, ◌++◌, length, Option, Some, None, Result, Ok, Err, refl, ap, sym, subst, ◌∙◌, inl, inr}
use Rattle.std.proofs.lemmas.Bool.{and_parts, cases_Bool}
use Rattle.std.proofs.Math.Bool.{or-true}
use Rattle.std.proofs.lemmas.List.Folds.{list_all-append}
use Rattle.std.specs.List.{find, list_all}
use Rattle.tw_model.specs.declared.case.Scene.{Scene}
use Rattle.tw_model.specs.declared.case.Scene.TheVariants.{Allow, Fail, Forbid, Restore, Swap}
use Rattle.tw_model.specs.declared.limits.TheConstants.{LATEST_VERSION}
use Rattle.tw_model.specs.declared.net.Link.{Link}
use Rattle.tw_model.specs.declared.rule.Rule.{Rule}
use Rattle.tw_model.specs.declared.rule.Rule.TheVariants.{Version}
use Rattle.tw_model.specs.Net.{Net}
use Rattle.tw_model.specs.Rules.{is_first_link, is_first_scene, is_within, rules_in_order, scene_breaks, suits_version}
use Rattle.tw_sim.proofs.Members.{in_find}
use Rattle.tw_lines.specs.declared.text_fault.LineFault.{LineFault}
use Rattle.tw_lines.specs.declared.text_fault.LineFault.TheVariants as x
use Rattle.tw_lines.specs.declared.text_fault.TextFault.{TextFault}
use Rattle.tw_lines.specs.Reading.{at_line, fault_at, finishes, reads, whole_at, ◌>>=◌}
use Rattle.tw_lines.specs.Words.{is_plain, parts_of, words}
use Rattle.tw_lines.proofs.Steps.{bound}
use Rattle.tw_text.specs.declared.draft.Draft.{Draft}
use Rattle.tw_text.specs.declared.draft.Draft.TheVariants.{Start}
use Rattle.tw_text.specs.Drafts.{fault_after, of_rule, step_by, step_said}
use Rattle.tw_text.specs.FaultTable.{breaks, draft_after, is_done, is_misplaced, is_start, net_of, said_after, scenes_of, unless_fault, version_in, with_statement}
use Rattle.tw_text.specs.Reading.{case_of, case_reader}
use Rattle.tw_text.specs.Statements.{Statement, nodes_line, link_line, path_line, scene_line, end_line}
use Rattle.tw_text.specs.Versions.{version_of}
use Rattle.tw_text.proofs.Early.{IsToldEarly}
use Rattle.tw_text.proofs.Faults.{early, later_step, plain-from_step, plain_step, start_step, started}
use Rattle.tw_text.proofs.Found.{header_within, no_fault, started_is}
use Rattle.tw_text.proofs.Said.{says, statement_of-says}

-- ---- what the lines before have given is what their version has

abbrev suits : Draft → Bool
suits d = is_within 1 LATEST_VERSION (version_in d) && suits_version (version_in d) (net_of d).links (scenes_of d)

abbrev IsSuited : Draft → Type 0
IsSuited d = is_start d ≡ false → suits d ≡ true

-- one more link or scene, in version 1 or not
more_links : (first : Bool) (links : List Link) (l : Link) (scenes : List Scene) → (not first || (list_all is_first_link links && list_all is_first_scene scenes)) ≡ true
    → (not first || is_first_link l) ≡ true → (not first || (list_all is_first_link (links ++ l ∷ []) && true)) ≡ true
more_links false links l scenes h g = refl
more_links true links l scenes h g =
    let w = and_parts (list_all is_first_link links) (list_all is_first_scene scenes) h in rw (list_all-append is_first_link links (l ∷ []), w.0, g) refl

no_scenes : (first : Bool) (links : List Link) (scenes : List Scene) → (not first || (list_all is_first_link links && list_all is_first_scene scenes)) ≡ true
    → (not first || (list_all is_first_link links && true)) ≡ true
no_scenes false links scenes h = refl
no_scenes true links scenes h = rw (and_parts (list_all is_first_link links) (list_all is_first_scene scenes) h).0 refl

more_scenes : (first : Bool) (links : List Link) (scenes : List Scene) (s : Scene) → (not first || (list_all is_first_link links && list_all is_first_scene scenes)) ≡ true
    → (not first || is_first_scene s) ≡ true → (not first || (list_all is_first_link links && list_all is_first_scene (scenes ++ s ∷ []))) ≡ true
more_scenes false links scenes s h g = refl
more_scenes true links scenes s h g =
    let w = and_parts (list_all is_first_link links) (list_all is_first_scene scenes) h in rw (list_all-append is_first_scene scenes (s ∷ []), w.0, w.1, g) refl

suits_more : (d : Draft) (s : Statement) → suits d ≡ true → says (version_in d) s ≡ true → suits (with_statement d s) ≡ true
suits_more d s h g =
    let within = is_within 1 LATEST_VERSION (version_in d) in
    let w = and_parts within (suits_version (version_in d) (net_of d).links (scenes_of d)) h in
    let both : (b : Bool) → b ≡ true → (within && b) ≡ true = λ b e. rw (w.0, e) refl in
    more s both w.1 g
  where
    more : (s : Statement) → ((b : Bool) → b ≡ true → (is_within 1 LATEST_VERSION (version_in d) && b) ≡ true)
        → suits_version (version_in d) (net_of d).links (scenes_of d) ≡ true → says (version_in d) s ≡ true → suits (with_statement d s) ≡ true
    more (nodes_line n) both h g = both _ (or-true (not (version_in d == 1)))
    more (link_line l) both h g = both _ (more_links (version_in d == 1) (net_of d).links l (scenes_of d) h g)
    more (path_line p) both h g = both _ (no_scenes (version_in d == 1) (net_of d).links (scenes_of d) h)
    more (scene_line s) both h g = both _ (more_scenes (version_in d == 1) (net_of d).links (scenes_of d) s h g)
    more end_line both h g = both _ h

later_suits : (d after : Draft) (line : List ℕ) → is_start d ≡ false → suits d ≡ true → draft_after d line true ≡ Ok after → suits after ≡ true
later_suits d after line later h stepped =
    let b = bound (said_after d line) (λ s. step_by d s true) after (sym (later_step d line true later (plain-from_step d after line true stepped)) ∙ stepped) in
    let n = no_fault (fault_after d b.value true) (with_statement d b.value) after b.next in
    subst (λ d. suits d ≡ true) n.1 (suits_more d b.value h (statement_of-says (version_in d) (words line) b.value b.was))

start_suits : (after : Draft) (line : List ℕ) → draft_after Start line true ≡ Ok after → suits after ≡ true
start_suits after line stepped =
    let found = version_of line in
    let b = started_is found after (sym (start_step line found true (plain-from_step Start after line true stepped) refl) ∙ stepped) in
    subst (λ d. suits d ≡ true) b.2 (rw (header_within line b.0 b.1) (or-true (not (b.0 == 1))))

stays_suited : (d after : Draft) (line : List ℕ) → IsSuited d → draft_after d line true ≡ Ok after → IsSuited after
stays_suited Start after line h stepped = λ later. start_suits after line stepped
stays_suited d after line h stepped = λ later. later_suits d after line refl (h refl) stepped

-- ---- so no line breaks the rule

scene_keeps : (net : Net) (count : ℕ) (s : Scene) → scene_breaks net count s Version ≡ false
scene_keeps net count (Fail t a b) = refl
scene_keeps net count (Restore t a b) = refl
scene_keeps net count (Swap t v i j) = refl
scene_keeps net count (Forbid t v k) = refl
scene_keeps net count (Allow t v k) = refl

line_keeps : (d : Draft) (s : Statement) → suits d ≡ true → breaks d s Version ≡ false
line_keeps d (nodes_line n) h = refl
line_keeps d (link_line l) h = refl
line_keeps d (path_line p) h = refl
line_keeps d (scene_line s) h = scene_keeps (net_of d) (length (scenes_of d)) s
line_keeps d end_line h = ap not h

no_such_rule : (broken : Rule → Bool) → broken Version ≡ false → of_rule (find broken rules_in_order) ≡ Some (x.Rule Version) → ⊥
no_such_rule broken h e = none (find broken rules_in_order) refl e
  where
    none : (found : Option Rule) → find broken rules_in_order ≡ found → of_rule found ≡ Some (x.Rule Version) → ⊥
    none None is e = absurd (cc)
    none (Some r) is e =
        let same : r ≡ Version = cc in
        let t = (in_find broken r rules_in_order is).0 in
        let u : broken Version ≡ true = subst (λ r. broken r ≡ true) same t in
        let g = sym u ∙ h in absurd (cc)

other_fault : (d : Draft) (s : Statement) (ended : Bool) → suits d ≡ true → fault_after d s ended ≡ Some (x.Rule Version) → ⊥
other_fault d s ended h e =
    elim (cases_Bool (is_misplaced d s)) [
      | inl t ↦ absurd (let g : Some x.Order ≡ Some (x.Rule Version) = rw t at e in cc)
      | inr f ↦
          elim (cases_Bool (not ended || is_done d)) [
            | inl t ↦ absurd (let g : Some x.End ≡ Some (x.Rule Version) = rw (f, t) at e in cc)
            | inr g ↦ no_such_rule (breaks d s) (line_keeps d s h) (rw (f, g) at e)
          ]
    ]

was_fault : (fault : Option LineFault) (next : Draft) (f : LineFault) → unless_fault fault next ≡ Err f → fault ≡ Some f
was_fault None next f h = absurd (cc)
was_fault (Some g) next f h = let r : Result Draft LineFault = Err g in let e : r ≡ Err f = h in let same : g ≡ f = cc in ap (λ f. Some f) same

said_fault : (d : Draft) (said : Result Statement LineFault) (ended : Bool) → suits d ≡ true → IsToldEarly said → step_said d said ended ≡ Err (x.Rule Version) → ⊥
said_fault d (Ok s) ended h early e = other_fault d s ended h (was_fault (fault_after d s ended) (with_statement d s) (x.Rule Version) e)
said_fault d (Err x.Word) ended h early e = absurd (cc)
said_fault d (Err x.Number) ended h early e = absurd (cc)
said_fault d (Err fault) ended h early e = absurd early

start_fault : (found : Option ℕ) (ended : Bool) → started found ended ≡ Err (x.Rule Version) → ⊥
start_fault None ended h = absurd (cc)
start_fault (Some version) true h = absurd (cc)
start_fault (Some version) false h = absurd (cc)

plain_fault : (d : Draft) (line : List ℕ) (ended : Bool) → list_all is_plain line ≡ true → IsSuited d → draft_after d line ended ≡ Err (x.Rule Version) → ⊥
plain_fault Start line ended plain h e = start_fault (version_of line) ended (sym (start_step line (version_of line) ended plain refl) ∙ e)
plain_fault d line ended plain h e = said_fault d (said_after d line) ended (h refl) (early (version_in d) (words line)) (sym (later_step d line ended refl plain) ∙ e)

never_broken : (d : Draft) (line : List ℕ) (ended : Bool) → IsSuited d → draft_after d line ended ≡ Err (x.Rule Version) → ⊥
never_broken d line ended h e =
    elim (cases_Bool (list_all is_plain line)) [
      | inl t ↦ plain_fault d line ended t h e
      | inr f ↦ absurd (let g = sym (plain_step d line ended f) ∙ e in cc)
    ]

-- ---- and no text does

line_fault : {A B : Type 0} (k j : ℕ) (given : Result A LineFault) (next : A → Result B TextFault) (f : LineFault) → ((a : A) → given ≡ Ok a → next a ≡ Err (fault_at j f) → ⊥)
    → (given ≡ Err f → ⊥) → (at_line k given >>= next) ≡ Err (fault_at j f) → ⊥
line_fault k j (Ok a) next f after here e = after a refl e
line_fault {B = B} k j (Err g) next f after here e =
    let r : Result B TextFault = Err (fault_at k g) in let h : r ≡ Err (fault_at j f) = e in
    let same : fault_at k g ≡ fault_at j f = cc in
    let fault : g ≡ f = ap (λ (t : TextFault). t.fault) same in here (ap (λ f. Err f) fault)

end_fault : {B : Type 0} (k j : ℕ) → (let r : Result B TextFault = Err (fault_at k x.End) in r ≡ Err (fault_at j (x.Rule Version))) → ⊥
end_fault k j h = let same : fault_at k x.End ≡ fault_at j (x.Rule Version) = cc in let e = ap (λ (t : TextFault). t.fault) same in absurd (cc)

whole_fault : {A : Type 0} (k j : ℕ) (whole : Option A) → whole_at k whole ≡ Err (fault_at j (x.Rule Version)) → ⊥
whole_fault k j (Some a) h = absurd (cc)
whole_fault k j None h = end_fault k j h

last_fault : (d : Draft) (k j : ℕ) (rest : List ℕ) → IsSuited d → finishes case_reader d k rest ≡ Err (fault_at j (x.Rule Version)) → ⊥
last_fault d k j rest h e =
    elim (cases_Bool (length rest == 0)) [
      | inl t ↦ whole_fault k j (case_reader.whole d) (rw t at e)
      | inr f ↦ line_fault k j (draft_after d rest false) (λ _. Err (fault_at k x.End)) (x.Rule Version) (λ a is g. end_fault k j g) (never_broken d rest false h) (rw f at e)
    ]

no_line : (d : Draft) (k j : ℕ) (parts : List (List ℕ)) → IsSuited d → reads case_reader d k parts ≡ Err (fault_at j (x.Rule Version)) → ⊥
unfolding reads
no_line d k j [] h e = end_fault k j e
no_line d k j (rest ∷ []) h e = last_fault d k j rest h e
no_line d k j (line ∷ next ∷ parts) h e =
    line_fault k j (draft_after d line true) (λ after. reads case_reader after (suc k) (next ∷ parts)) (x.Rule Version)
    (λ after is g. no_line after (suc k) j (next ∷ parts) (stays_suited d after line h is) g) (never_broken d line true h) e

pub no_text : (text : List ℕ) (line : ℕ) → case_of text ≡ Err (fault_at line (x.Rule Version)) → ⊥
unfolding case_of
no_text text line h = no_line Start 1 line (parts_of text) (λ later. absurd (cc)) h
