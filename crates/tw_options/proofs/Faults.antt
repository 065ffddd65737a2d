-- What becomes of the parser's errors.
use Rattle.std.proofs.Common.{◌≡◌, ◌⊎◌, inl, inr, subst, true, List, []}
use Rattle.std.specs.Prelude.{IfErr, IsErrAnd, Ok, Err, Result}
use Rattle.clap.specs.Words.{App, HasKind, IsAmong, Kinds, Text, fault_of, is_simple_and_free, kind_of}
use Rattle.clap.specs.declared.error.Error.{Error}
use Rattle.clap.specs.declared.error.kind.ErrorKind.{ErrorKind}
use Rattle.clap.specs.declared.error.kind.ErrorKind.TheVariants as kind
use Rattle.tw_options.specs.Fault.{AnswersRequest, Explains, IsToldAs}
use Rattle.tw_options.specs.declared.fault.CommandLineFault.{CommandLineFault}
use Rattle.tw_options.specs.declared.fault.CommandLineFault.TheVariants.{Help, Bad, Memory}

no_memory : (k : ErrorKind) → AnswersRequest k → k ≡ kind.OutOfMemory → ⊥
no_memory k (inl h) e = cc
no_memory k (inr h) e = cc

among : (k : ErrorKind) (ks : Kinds) → (k ≡ kind.OutOfMemory → ⊥) → (k ≡ kind.OutOfMemory) ⊎ IsAmong k ks → IsAmong k ks
among k ks other (inl h) = absurd (other h)
among k ks other (inr h) = h

explains : (ks : Kinds) (e : Error) (fault : CommandLineFault) → HasKind ks e → IsToldAs e fault → Explains ks fault
explains ks e (Help x) h t = rw t.0 (t.1, among (kind_of e) ks (no_memory (kind_of e) t.1) h)
explains ks e (Bad x) h t = rw t.0 (t.1, t.2, among (kind_of e) ks t.2 h)
explains ks e Memory h t = tt

explains_if_err : {T : Type 0} (ks : Kinds) (e : Error) (r : Result T CommandLineFault) → HasKind ks e → IsErrAnd r (IsToldAs e)
    → IfErr r (Explains ks)
explains_if_err ks e (Ok x) h t = tt
explains_if_err ks e (Err fault) h t = explains ks e fault h t

-- what the parser says of the command that it is given, which is a program's own, it says of that program
module _ (own : App) (is_free : is_simple_and_free own ≡ true) where
  pub taken : (a : App) (words : List Text) → a ≡ own → (is_simple_and_free a ≡ true → fault_of a words ≡ []) → fault_of own words ≡ []
  taken a words is h =
      let g : is_simple_and_free own ≡ true → fault_of own words ≡ [] =
      subst (λ (b : App). is_simple_and_free b ≡ true → fault_of b words ≡ []) is h in
      g is_free

  refused : (a : App) (words : List Text) (e : Error) → a ≡ own → (is_simple_and_free a ≡ true → HasKind (fault_of a words) e)
      → HasKind (fault_of own words) e
  refused a words e is h =
      let g : is_simple_and_free own ≡ true → HasKind (fault_of own words) e =
      subst (λ (b : App). is_simple_and_free b ≡ true → HasKind (fault_of b words) e) is h in
      g is_free

  -- an error of the parser's, as a fault of the command line
  pub explains_err : {T : Type 0} (a : App) (words : List Text) (e : Error) (r : Result T CommandLineFault) → a ≡ own
      → (is_simple_and_free a ≡ true → HasKind (fault_of a words) e) → IsErrAnd r (IsToldAs e)
      → IfErr r (Explains (fault_of own words))
  explains_err a words e r is h t = explains_if_err (fault_of own words) e r (refused a words e is h) t
