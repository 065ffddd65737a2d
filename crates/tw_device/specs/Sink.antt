-- What a device takes, where that is known (own).
use Rattle.std.specs.Prelude.{ℕ, ◌≡◌, Bool, false, true, List, ◌++◌, Option, Result, Ok, Err}
use Rattle.std.specs.Io.KnownBytes.{Appends}

-- what a device holds, and whether it has failed
pub record Device : Type 0 where
  pub written : Option (List ℕ)
  pub failed : Bool

-- known bytes stay, and grow by a prefix of the text
pub record Begins (old new : Option (List ℕ)) (text : List ℕ) : Type 0 where
  pub front : List ℕ
  pub rest : List ℕ
  pub whole : text ≡ front ++ rest
  pub grown : Appends old new front

-- at Ok the text was written, and nothing else; at Err a prefix of it, and the device has failed
abbrev pub Puts : {T E : Type 0} → Result T E → Option (List ℕ) → Option (List ℕ) → Bool → List ℕ → Type 0
Puts (Ok x) old new failed text = Appends old new text × (failed ≡ false)
Puts (Err e) old new failed text = Begins old new text × (failed ≡ true)
