-- A text is read as steps exactly where it is the text of these steps.
use Rattle.std.proofs.Common.{◌≡◌, ◌↔◌, ℕ, ◌≤◌, ◌+◌, nat_le, true, false, List, [], ◌∷◌, ◌++◌, length, map, codes, Some, Result, Ok, Err, IfOk, refl, ap, sym, ◌∙◌, append_assoc, subst, arith}
use Rattle.std.proofs.lemmas.Bool.Decides.{nat_tests}
use Rattle.std.proofs.lemmas.List.{append-nil, length_push, map-append}
use Rattle.std.specs.List.{AllByRecursion, flat_map}
use Rattle.std.specs.declared.alloc.Global.{Global}
use Rattle.std.specs.declared.vec.Vec.{Vec}
use Rattle.tw_model.specs.declared.memory.OrMemory.{OrMemory}
use Rattle.tw_model.specs.Memory.{IsUnlessMemory}
use Rattle.tw_sim.specs.declared.machine.Step.{Step}
use Rattle.tw_lines.specs.declared.text_fault.TextFault.{TextFault}
use Rattle.tw_lines.specs.Words.{ended_line}
use Rattle.tw_lines.proofs.Parts.{Follows, IsPlainReader, PreservesDraft, follows_kept, text_read, text_reads}
use Rattle.tw_text.specs.declared.step_text.StepDraft.{StepDraft}
use Rattle.tw_text.specs.declared.step_text.StepDraft.TheVariants.{Open, Done}
use Rattle.tw_text.specs.declared.step_text.StepLine.{StepLine}
use Rattle.tw_text.specs.declared.step_text.StepLine.TheVariants as line
use Rattle.tw_model.specs.declared.limits.TheConstants.{MOST_STEPS}
use Rattle.tw_text.specs.Drafts.{result_items}
use Rattle.tw_text.specs.StepText.{HasLine, HasText, after_line, is_ended, is_past_most, line_of_step, lines_of_steps, step_reader, steps_in, steps_of, text_of_steps, whole_steps, with_step_line}
use Rattle.tw_text.proofs.StepLines.{line_taken, takes}
use Rattle.tw_text.proofs.StepSaid.{CanSay, end_said, line_text, line_was, step_said}

pub steps_plain : IsPlainReader step_reader
steps_plain d after l h = (takes d after l h).plain

-- ---- what was read is the steps of the text

-- the lines of which a draft was made
abbrev pub step_lines_in : StepDraft → List (List ℕ)
step_lines_in (Open steps) = map line_of_step steps
step_lines_in (Done steps) = lines_of_steps steps

-- what a draft holds is the steps of a text
abbrev pub IsStepDraft : StepDraft → Type 0
IsStepDraft d = HasText (steps_in d)

each_more : (steps : List Step) (s : Step) → AllByRecursion HasLine steps → HasLine s → AllByRecursion HasLine (steps ++ s ∷ [])
each_more [] s h g = (g, tt)
each_more (t ∷ steps) s h g = (h.0, each_more steps s h.1 g)

one_more : (steps : List Step) (s : Step) → HasText steps → nat_le MOST_STEPS (length steps) ≡ false → HasLine s → HasText (steps ++ s ∷ [])
one_more steps s h few g = let n = length_push steps s in record { few = grind (arith, nat_tests); lines = each_more steps s h.lines g }

adds : (d : StepDraft) (l : List ℕ) (said : StepLine) → IsStepDraft d → is_ended d ≡ false → is_past_most d said ≡ false → l ≡ line_text said → CanSay said
    → PreservesDraft step_reader IsStepDraft step_lines_in d (with_step_line d said) l
adds (Done steps) l said h unended few is can = absurd (cc)
adds (Open steps) l (line.Step s) h unended few is can =
    record { draft = one_more steps s h few can; lines = map-append line_of_step steps (s ∷ []) ∙ ap (λ l. map line_of_step steps ++ l ∷ []) (sym is) }
adds (Open steps) l line.End h unended few is can = record { draft = h; lines = ap (λ l. map line_of_step steps ++ l ∷ []) (sym is) }

pub steps_kept : (d after : StepDraft) (l : List ℕ) → IsStepDraft d → after_line d l true ≡ Ok after → PreservesDraft step_reader IsStepDraft step_lines_in d after l
steps_kept d after l h stepped =
    let t = takes d after l stepped in
    let w = line_was l t.said t.taken.says in
    subst (λ after. PreservesDraft step_reader IsStepDraft step_lines_in d after l) t.taken.same (adds d l t.said h t.taken.unended t.taken.few w.line w.can)

pub done_steps : (d : StepDraft) (steps : List Step) → whole_steps d ≡ Some steps → d ≡ Done steps
done_steps (Done done) steps h = let e : done ≡ steps = cc in ap (λ s. Done s) e
done_steps (Open some) steps h = absurd (cc)

pub no_steps : HasText []
no_steps = record { few = omega arith; lines = tt }

pub steps_of-is : (text : List ℕ) (steps : List Step) → steps_of text ≡ Ok steps → HasText steps × (text ≡ text_of_steps steps)
unfolding steps_of text_of_steps
steps_of-is text steps h =
    let w = text_read step_reader (Open []) text steps h in
    let done = done_steps w.last steps w.whole in
    let k = follows_kept step_reader IsStepDraft step_lines_in steps_kept (Open []) w.last w.lines no_steps w.follows in
    (subst IsStepDraft done k.0, w.same ∙ ap (flat_map ended_line) (sym k.1 ∙ ap step_lines_in done))

-- ---- the text of steps is read as these

pub follow_steps : (before steps : List Step) → length before + length steps ≤ MOST_STEPS → AllByRecursion HasLine steps
    → Follows step_reader (Open before) (lines_of_steps steps) (Done (before ++ steps))
follow_steps before [] few h = (Done before, line_taken (Open before) (codes "end") line.End end_said.plain end_said.says refl refl, ap (λ s. Done s) (sym (append-nil before)))
follow_steps before (s ∷ steps) few h =
    let said = step_said s h.0 in
    let n = length_push before s in
    let room : nat_le MOST_STEPS (length before) ≡ false = grind (arith, nat_tests) in
    let rest = follow_steps (before ++ s ∷ []) steps (omega (arith, n, few)) h.1 in
    (Open (before ++ s ∷ []), line_taken (Open before) (line_of_step s) (line.Step s) said.plain said.says refl room, rw (append_assoc before (s ∷ []) steps) at rest)

pub leads_steps : (steps : List Step) → HasText steps → Follows step_reader (Open []) (lines_of_steps steps) (Done steps)
leads_steps steps h = follow_steps [] steps (let few = h.few in omega arith) h.lines

pub steps_of-text : (steps : List Step) → HasText steps → steps_of (text_of_steps steps) ≡ Ok steps
unfolding steps_of text_of_steps
steps_of-text steps h = text_reads step_reader (Open []) (Done steps) steps (lines_of_steps steps) steps_plain (leads_steps steps h) refl

-- ---- what was told

pub steps_exactly : (text : List ℕ) (steps : List Step) → (steps_of text ≡ Ok steps) ↔ (HasText steps × (text ≡ text_of_steps steps))
steps_exactly text steps = (steps_of-is text steps, λ h. ap steps_of h.1 ∙ steps_of-text steps h.0)

pub found_steps : (result : Result (Vec Step Global) (OrMemory TextFault)) (text : List ℕ) → IsUnlessMemory (result_items result) (steps_of text)
    → IfOk result (λ v. HasText v.items × (text ≡ text_of_steps v.items))
found_steps (Ok v) text h = steps_of-is text v.items h
found_steps (Err e) text h = tt

pub only_steps : (result : Result (List Step) (OrMemory TextFault)) (text : List ℕ) (steps : List Step) → HasText steps → text ≡ text_of_steps steps → IsUnlessMemory result (steps_of text)
    → IsUnlessMemory result (Ok steps)
only_steps result text steps is e h = rw ((steps_exactly text steps).1 (is, e)) at h

-- steps with one text are one
pub one_list : (steps others : List Step) → HasText steps → HasText others → text_of_steps steps ≡ text_of_steps others → steps ≡ others
one_list steps others p q e =
    let h = sym (steps_of-text steps p) ∙ ap steps_of e ∙ steps_of-text others q in let g : (let r : Result (List Step) TextFault = Ok steps in r ≡ Ok others) = h in cc
