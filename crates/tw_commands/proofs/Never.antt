-- A program whose command never gets stuck never stops by a full counter.
use Rattle.std.proofs.Common.{ℕ, Bool, List, Option, Result, Ok, Err, inl, inr}
use Rattle.tw_commands.specs.declared.cause.Cause.{Cause}
use Rattle.tw_commands.specs.declared.cause.Cause.TheVariants.{Memory, CounterFull, NoThread, Device}
use Rattle.tw_commands.specs.declared.cause.Status.{Status}
use Rattle.tw_commands.specs.ForCase.{StuckFor}
use Rattle.tw_commands.specs.Output.{Answers, Leaves, Output}
use Rattle.tw_lines.specs.declared.text_fault.TextFault.{TextFault}

never : {I : Type 0} (read : Result I TextFault) → StuckFor (λ _. ⊥) read → ⊥
never (Ok case) h = h
never (Err fault) h = h

leaves_weaker : (result : Result Status Cause) (output : Output) (stuck other : Type 0) (old new : Option (List ℕ)) (failed : Bool) → (stuck → other)
    → Leaves result output stuck old new failed → Leaves result output other old new failed
leaves_weaker (Ok status) output stuck other old new failed f h = h
leaves_weaker (Err Memory) output stuck other old new failed f h = h
leaves_weaker (Err CounterFull) output stuck other old new failed f h = (f h.0, h.1)
leaves_weaker (Err NoThread) output stuck other old new failed f h = h
leaves_weaker (Err Device) output stuck other old new failed f h = h

pub answers_never : {I : Type 0} (result : Result Status Cause) (output : List ℕ → Output) (read : List ℕ → Result I TextFault) (known old new : Option (List ℕ)) (reader writer : Bool)
    → Answers result output (λ input. StuckFor (λ _. ⊥) (read input)) known old new reader writer → Answers result output (λ _. ⊥) known old new reader writer
answers_never result output read known old new reader writer h = (
  h.0,
  h.1,
  elim h.2 [
    | inl unread ↦ inl unread
    | inr left ↦ inr (left.0, leaves_weaker result (output h.0) (StuckFor (λ _. ⊥) (read h.0)) ⊥ old new writer (never (read h.0)) left.1)
  ],
)
