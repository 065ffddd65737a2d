-- How the program ends where a run is refused.
use Rattle.std.proofs.Common.{◌≡◌, ℕ, Bool, false, true, List, Option, Result, Ok, Err, refl, subst, sym}
use Rattle.std.proofs.KnownBytes.{Keeps-refl}
use Rattle.std.specs.Result.{IsErrAnd}
use Rattle.tw_process.specs.declared.refused.Refused.{Refused}
use Rattle.tw_process.specs.declared.refused.Refused.TheVariants.{CounterFull, Memory}
use Rattle.twarp_phold.specs.Cause.{cause_of}
use Rattle.twarp_phold.specs.Due.{Leaves}
use Rattle.twarp_phold.specs.declared.cause.Cause.{Cause}
use Rattle.twarp_phold.specs.declared.cause.Status.{Status}

caused : (why : Refused) (due : Status) (text : List ℕ) (stuck : Type 0) (old : Option (List ℕ)) (failed : Bool)
    → (why ≡ CounterFull → stuck) → failed ≡ false → Leaves (Err (cause_of why)) due text stuck old old failed
caused CounterFull due text stuck old failed full works = (full refl, Keeps-refl old, works)
caused Memory due text stuck old failed full works = (Keeps-refl old, works)

pub run_refused : (result : Result Status Cause) (why : Refused) (due : Status) (text : List ℕ) (stuck : Type 0) (old : Option (List ℕ)) (failed : Bool)
    → IsErrAnd result (λ cause. cause ≡ cause_of why) → (why ≡ CounterFull → stuck) → failed ≡ false → Leaves result due text stuck old old failed
run_refused (Ok status) why due text stuck old failed h full works = absurd h
run_refused (Err cause) why due text stuck old failed h full works = subst (λ x. Leaves (Err x) due text stuck old old failed) (sym h) (caused why due text stuck old failed full works)
