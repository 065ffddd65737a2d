-- What is promised of a call that memory may be refused to (own).
use Rattle.std.specs.Prelude.{ℕ, ◌≡◌, List, Option, Some, codes, Result, Ok, Err}
use Rattle.tw_model.specs.declared.memory.OrMemory.{OrMemory}
use Rattle.tw_model.specs.declared.memory.OrMemory.TheVariants.{Fault, Memory}

-- memory, or what f makes of the fault
abbrev pub map_fault : {E F : Type 0} → (E → F) → OrMemory E → OrMemory F
map_fault f (Fault e) = Fault (f e)
map_fault f Memory = Memory

-- the words of the fault, where they are known, or that memory was refused
abbrev pub fault_words : {E : Type 0} → (E → Option (List ℕ)) → OrMemory E → Option (List ℕ)
fault_words words (Fault e) = words e
fault_words words Memory = Some (codes "memory was refused")

-- the call answered what is due, unless memory was refused
abbrev pub IsUnlessMemory : {T E : Type 0} → Result T (OrMemory E) → Result T E → Type 0
IsUnlessMemory (Ok x) due = due ≡ Ok x
IsUnlessMemory (Err (Fault e)) due = due ≡ Err e
IsUnlessMemory (Err Memory) due = Unit {0}
