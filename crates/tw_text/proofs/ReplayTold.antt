-- A text is read as a case and steps exactly where it is the text of the case and then that of the steps.
use Rattle.std.proofs.Common.{◌≡◌, ◌↔◌, ℕ, true, false, List, [], ◌∷◌, ◌++◌, Option, Some, Result, Ok, Err, IfOk, refl, ap, ap₂, sym, ◌∙◌, append_assoc, subst}
use Rattle.std.proofs.lemmas.List.{append-nil}
use Rattle.std.proofs.lemmas.List.Concat.{flat_map-append}
use Rattle.std.specs.List.{flat_map}
use Rattle.std.specs.declared.alloc.Global.{Global}
use Rattle.std.specs.declared.vec.Vec.{Vec}
use Rattle.tw_model.specs.Case.{Case, IsCase}
use Rattle.tw_model.specs.declared.memory.OrMemory.{OrMemory}
use Rattle.tw_model.specs.Memory.{IsUnlessMemory}
use Rattle.tw_sim.specs.declared.machine.Step.{Step}
use Rattle.tw_lines.specs.declared.text_fault.TextFault.{TextFault}
use Rattle.tw_lines.specs.Reading.{◌>>=◌}
use Rattle.tw_lines.specs.Words.{ended_line}
use Rattle.tw_lines.proofs.Parts.{Follows, IsPlainReader, PreservesDraft, follows_kept, follows_on, text_read, text_reads}
use Rattle.tw_lines.proofs.Steps.{bound}
use Rattle.tw_text.specs.declared.draft.Draft.{Draft}
use Rattle.tw_text.specs.declared.draft.Draft.TheVariants.{Start, Header, Links, Paths, Scenes, Done}
use Rattle.tw_text.specs.declared.replay_text.ReplayDraft.{ReplayDraft}
use Rattle.tw_text.specs.declared.replay_text.ReplayDraft.TheVariants as replay
use Rattle.tw_text.specs.declared.step_text.StepDraft.{StepDraft}
use Rattle.tw_text.specs.declared.step_text.StepDraft.TheVariants as steps
use Rattle.tw_text.specs.FaultTable.{draft_after, is_done}
use Rattle.tw_text.specs.Reading.{case_reader}
use Rattle.tw_text.specs.ReplayText.{after_case, after_replay_line, replay_of, replay_reader, seen, text_of_replay, whole_replay}
use Rattle.tw_text.specs.StepText.{HasText, after_line, lines_of_steps, step_reader, text_of_steps}
use Rattle.tw_text.specs.Text.{lines_of, text_of_case}
use Rattle.tw_text.proofs.Found.{IsDraft, lines_in, steps, undone}
use Rattle.tw_text.proofs.Only.{case_plain, leads_case}
use Rattle.tw_text.proofs.StepTold.{IsStepDraft, leads_steps, no_steps, step_lines_in, steps_kept, steps_plain}

-- a line of the case text, or of the step text
case_line : (d : Draft) (after : ReplayDraft) (l : List ℕ) → (draft_after d l true >>= λ next. let r : Result ReplayDraft _ = Ok (after_case next) in r) ≡ Ok after
    → ((next : Draft) × (draft_after d l true ≡ Ok next) × (after_case next ≡ after))
case_line d after l h =
    let b = bound (draft_after d l true) (λ next. let r : Result ReplayDraft _ = Ok (after_case next) in r) after h in
    (b.value, b.was, let r : Result ReplayDraft _ = Ok (after_case b.value) in let g : r ≡ Ok after = b.next in cc)

step_line : (case : Case) (d : StepDraft) (after : ReplayDraft) (l : List ℕ) → (after_line d l true >>= λ next. let r : Result ReplayDraft _ = Ok (replay.Steps case next) in r) ≡ Ok after
    → ((next : StepDraft) × (after_line d l true ≡ Ok next) × (replay.Steps case next ≡ after))
step_line case d after l h =
    let b = bound (after_line d l true) (λ next. let r : Result ReplayDraft _ = Ok (replay.Steps case next) in r) after h in
    (b.value, b.was, let r : Result ReplayDraft _ = Ok (replay.Steps case b.value) in let g : r ≡ Ok after = b.next in cc)

replay_plain : IsPlainReader replay_reader
replay_plain (replay.Case d) after l h = let w = case_line d after l h in case_plain d w.0 l w.1
replay_plain (replay.Steps case d) after l h = let w = step_line case d after l h in steps_plain d w.0 l w.1

-- ---- what was read is the case and the steps of the text

-- the lines of which a draft was made
abbrev replay_lines_in : ReplayDraft → List (List ℕ)
replay_lines_in (replay.Case d) = lines_in d
replay_lines_in (replay.Steps case d) = lines_of case ++ step_lines_in d

abbrev IsReplayDraft : ReplayDraft → Type 0
IsReplayDraft (replay.Case d) = IsDraft d
IsReplayDraft (replay.Steps case d) = IsCase case × IsStepDraft d

-- a draft of a case, and the same as a draft of a replay
record IsSame (d : Draft) : Type 0 where
  draft : IsReplayDraft (after_case d)
  lines : replay_lines_in (after_case d) ≡ lines_in d

same : (d : Draft) → IsDraft d → IsSame d
same (Done case) h = record { draft = (h, no_steps); lines = append-nil (lines_of case) }
same Start h = record { draft = h; lines = refl }
same (Header version) h = record { draft = h; lines = refl }
same (Links version net) h = record { draft = h; lines = refl }
same (Paths version net) h = record { draft = h; lines = refl }
same (Scenes version case) h = record { draft = h; lines = refl }

replay_kept : (d after : ReplayDraft) (l : List ℕ) → IsReplayDraft d → after_replay_line d l true ≡ Ok after → PreservesDraft replay_reader IsReplayDraft replay_lines_in d after l
replay_kept (replay.Case d) after l h stepped =
    let w = case_line d after l stepped in
    let k = steps d w.0 l h w.1 in
    let s = same w.0 k.draft in
    subst (λ after. PreservesDraft replay_reader IsReplayDraft replay_lines_in (replay.Case d) after l) w.2 (record { draft = s.draft; lines = s.lines ∙ k.lines })
replay_kept (replay.Steps case d) after l h stepped =
    let w = step_line case d after l stepped in
    let k = steps_kept d w.0 l h.1 w.1 in
    subst (λ after. PreservesDraft replay_reader IsReplayDraft replay_lines_in (replay.Steps case d) after l) w.2
    (record { draft = (h.0, k.draft); lines = ap (λ ls. lines_of case ++ ls) k.lines ∙ sym (append_assoc (lines_of case) (step_lines_in d) (l ∷ [])) })

-- both were read
done_replay : (d : ReplayDraft) (case : Case) (list : List Step) → whole_replay d ≡ Some (case, list) → d ≡ replay.Steps case (steps.Done list)
done_replay (replay.Case d) case list h = absurd (cc)
done_replay (replay.Steps c (steps.Open some)) case list h = absurd (cc)
done_replay (replay.Steps c (steps.Done done)) case list h =
    let r : Option (Case × List Step) = Some (c, done) in let g : r ≡ Some (case, list) = h in
    let e : (let p : Case × List Step = (c, done) in p ≡ (case, list)) = cc in
    ap₂ (λ c s. replay.Steps c (steps.Done s)) (ap (λ (p : Case × List Step). p.0) e) (ap (λ (p : Case × List Step). p.1) e)

pub replay_of-is : (text : List ℕ) (case : Case) (list : List Step) → replay_of text ≡ Ok (case, list) → IsCase case × HasText list × (text ≡ text_of_replay case list)
unfolding replay_of text_of_replay text_of_case text_of_steps
replay_of-is text case list h =
    let w = text_read replay_reader (replay.Case Start) text (case, list) h in
    let done = done_replay w.last case list w.whole in
    let k = follows_kept replay_reader IsReplayDraft replay_lines_in replay_kept (replay.Case Start) w.last w.lines tt w.follows in
    let is = subst IsReplayDraft done k.0 in
    (is.0, is.1, w.same ∙ ap (flat_map ended_line) (sym k.1 ∙ ap replay_lines_in done) ∙ flat_map-append ended_line (lines_of case) (lines_of_steps list))

-- ---- the text of a case and of steps is read as these

unended : (d : Draft) → is_done d ≡ false → after_case d ≡ replay.Case d
unended (Done case) h = absurd (cc)
unended Start h = refl
unended (Header version) h = refl
unended (Links version net) h = refl
unended (Paths version net) h = refl
unended (Scenes version case) h = refl

-- the lines of a case lead to its steps
follow_case : (d : Draft) (case : Case) (lines : List (List ℕ)) → is_done d ≡ false → Follows case_reader d lines (Done case)
    → Follows replay_reader (replay.Case d) lines (replay.Steps case (steps.Open []))
follow_case d case [] h follows = absurd (let e = ap is_done follows in let g = sym h ∙ e in cc)
follow_case d case (l ∷ []) h follows = (after_case follows.0, rw (follows.1) refl, ap after_case follows.2)
follow_case d case (l ∷ m ∷ lines) h follows =
    let next = follows.0 in
    let open' = undone next follows.2.0 m follows.2.1 in
    (replay.Case next, rw (follows.1) (ap (λ d. Ok d) (unended next open')), follow_case next case (m ∷ lines) open' follows.2)

-- the lines of steps
follow_steps : (case : Case) (d last : StepDraft) (lines : List (List ℕ)) → Follows step_reader d lines last → Follows replay_reader (replay.Steps case d) lines (replay.Steps case last)
follow_steps case d last [] h = ap (replay.Steps case) h
follow_steps case d last (l ∷ lines) h = (replay.Steps case h.0, rw (h.1) refl, follow_steps case h.0 last lines h.2)

pub replay_of-text : (case : Case) (list : List Step) → IsCase case → HasText list → replay_of (text_of_replay case list) ≡ Ok (case, list)
unfolding replay_of text_of_replay text_of_case text_of_steps
replay_of-text case list is has =
    let first = follow_case Start case (lines_of case) refl (leads_case case is) in
    let then' = follow_steps case (steps.Open []) (steps.Done list) (lines_of_steps list) (leads_steps list has) in
    let both = follows_on replay_reader (replay.Case Start) (replay.Steps case (steps.Open [])) (replay.Steps case (steps.Done list)) (lines_of case) (lines_of_steps list) first then' in
    ap replay_of (sym (flat_map-append ended_line (lines_of case) (lines_of_steps list)))
    ∙ text_reads replay_reader (replay.Case Start) (replay.Steps case (steps.Done list)) (case, list) (lines_of case ++ lines_of_steps list) replay_plain both refl

-- ---- what was told

pub replay_exactly : (text : List ℕ) (case : Case) (list : List Step) → (replay_of text ≡ Ok (case, list)) ↔ (IsCase case × HasText list × (text ≡ text_of_replay case list))
replay_exactly text case list = (replay_of-is text case list, λ h. ap replay_of h.2 ∙ replay_of-text case list h.0 h.1)

pub found_replay : (result : Result (Case × Vec Step Global) (OrMemory TextFault)) (text : List ℕ) → IsUnlessMemory (seen result) (replay_of text)
    → IfOk result (λ read. IsCase read.0 × HasText read.1.items × (text ≡ text_of_replay read.0 read.1.items))
found_replay (Ok read) text h = replay_of-is text read.0 read.1.items h
found_replay (Err e) text h = tt

pub only_replay : (result : Result (Case × List Step) (OrMemory TextFault)) (text : List ℕ) (case : Case) (list : List Step) → IsCase case → HasText list → text ≡ text_of_replay case list
    → IsUnlessMemory result (replay_of text) → IsUnlessMemory result (Ok (case, list))
only_replay result text case list is has e h = rw ((replay_exactly text case list).1 (is, has, e)) at h
