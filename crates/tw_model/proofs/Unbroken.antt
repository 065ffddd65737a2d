-- Where no rule is the find broken one, none is broken.
use Rattle.std.specs.List.{find}
use Rattle.std.proofs.Common.{◌≡◌, Bool, false, List, [], ◌∷◌, inl, inr, Some, None}
use Rattle.std.specs.List.{AllByRecursion}
use Rattle.std.proofs.lemmas.Bool.{cases_Bool}
use Rattle.tw_model.specs.declared.rule.Rule.{Rule}
use Rattle.tw_model.specs.declared.rule.Rule.TheVariants.{Range, SelfLink, TwiceLink, Delay, PathOwner, PathEnd, PathRepeats, PathNoLink, TwicePath, TooMany, NoSuchLink, NoSuchPlace, Time, Version}
use Rattle.tw_model.specs.Rules.{rules_in_order}

all_unbroken : (broken : Rule → Bool) (rs : List Rule) → find broken rs ≡ None → AllByRecursion (λ r. broken r ≡ false) rs
all_unbroken broken [] h = tt
all_unbroken broken (r ∷ rs) h =
    elim (cases_Bool (broken r)) [
      | inl b ↦ let some : Some r ≡ None = rw b at h in absurd (cc)
      | inr b ↦ (b, all_unbroken broken rs (rw b at h))
    ]

each_unbroken : (broken : Rule → Bool) → AllByRecursion (λ r. broken r ≡ false) rules_in_order → (r : Rule) → broken r ≡ false
each_unbroken broken all Range = all.0
each_unbroken broken all SelfLink = all.1.0
each_unbroken broken all TwiceLink = all.1.1.0
each_unbroken broken all Delay = all.1.1.1.0
each_unbroken broken all PathOwner = all.1.1.1.1.0
each_unbroken broken all PathEnd = all.1.1.1.1.1.0
each_unbroken broken all PathRepeats = all.1.1.1.1.1.1.0
each_unbroken broken all PathNoLink = all.1.1.1.1.1.1.1.0
each_unbroken broken all TwicePath = all.1.1.1.1.1.1.1.1.0
each_unbroken broken all TooMany = all.1.1.1.1.1.1.1.1.1.0
each_unbroken broken all NoSuchLink = all.1.1.1.1.1.1.1.1.1.1.0
each_unbroken broken all NoSuchPlace = all.1.1.1.1.1.1.1.1.1.1.1.0
each_unbroken broken all Time = all.1.1.1.1.1.1.1.1.1.1.1.1.0
each_unbroken broken all Version = all.1.1.1.1.1.1.1.1.1.1.1.1.1.0

pub none_broken : (broken : Rule → Bool) → find broken rules_in_order ≡ None → (r : Rule) → broken r ≡ false
none_broken broken h = each_unbroken broken (all_unbroken broken rules_in_order h)
