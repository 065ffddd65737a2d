-- Steps that give something or fail.
use Rattle.std.proofs.Common.{◌≡◌, Bool, true, false, if◌then◌else◌, Result, Ok, Err, refl}
use Rattle.tw_lines.specs.Reading.{◌>>=◌}

-- what was given, and what followed from it
pub record Bound {A B E : Type 0} (given : Result A E) (f : A → Result B E) (last : B) : Type 0 where
  pub value : A
  pub was : given ≡ Ok value
  pub next : f value ≡ Ok last

pub bound : {A B E : Type 0} (given : Result A E) (f : A → Result B E) (last : B) → (given >>= f) ≡ Ok last → Bound given f last
bound (Ok a) f last h = record { value = a; was = refl; next = h }
bound (Err e) f last h = absurd (cc)

-- a test that was passed
pub passed : {A E : Type 0} (b : Bool) (x y : A) (e : E) → (if b then Ok x else Err e) ≡ Ok y → (b ≡ true) × (x ≡ y)
passed true x y e h = (refl, cc)
passed false x y e h = absurd (cc)

-- a test that was failed
pub failed : {A E : Type 0} (b : Bool) (x : A) (e f : E) → (if b then Ok x else Err e) ≡ Err f → (b ≡ false) × (e ≡ f)
failed true x e f h = absurd (cc)
failed false x e f h = (refl, cc)
