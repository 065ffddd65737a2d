-- Neighbours of a router and their slots, by the remainders of their numbers: a direct-mapped table (own).
use Rattle.std.specs.Prelude.{ℕ, ◌≡◌, ◌<◌, ◌%◌, List, length, slice_index_or}
use Rattle.tw_instance.specs.declared.peers.Guess.{Guess}

-- where the number has the remainder of its place, it stands in the row at that slot
abbrev pub IsGuess : List ℕ → ℕ → Guess → Type 0
IsGuess row place g = g.peer % 64 ≡ place → (g.slot < length row) × (slice_index_or row g.slot 0 ≡ g.peer)

-- each of these is a guess for its place
abbrev pub AreGuesses : List ℕ → List Guess → Type 0
AreGuesses row guesses = (place : ℕ) (g : Guess) → place < 64 → g ≡ slice_index_or guesses place g → IsGuess row place g
