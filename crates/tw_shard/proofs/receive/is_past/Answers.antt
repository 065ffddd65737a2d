use Rattle.std.proofs.Common.{◌≡◌, ◌↔◌, Bool, true, false, not, refl, ap, sym, ◌∙◌}
use Rattle.std.specs.Ordering.{is_lt}
use Rattle.std.specs.declared.cmp.Ordering.{Ordering}
use Rattle.std.specs.declared.cmp.Ordering.TheVariants.{Equal, Greater, Less}
use Rattle.std.proofs.lemmas.Bool.{false≢true}
use Rattle.tw_shard.specs.Arrival.{rolls}
use Rattle.tw_shard.proofs.receive.is_past.Goals as goal

-- what is told of an order is the test of it
tested : (told : Bool) (o : Ordering) → (told ≡ true) ↔ (o ≡ Less) → told ≡ is_lt o
tested true Less h = refl
tested true Equal h = absurd (cc (h.0 refl))
tested true Greater h = absurd (cc (h.0 refl))
tested false Less h = absurd (false≢true (h.1 refl))
tested false Equal h = refl
tested false Greater h = refl

pub returns-in-Later : goal.returns-in-Later
returns-in-Later c = tested c.is_before.result _ c.is_before.ensures ∙ ap (λ reach. rolls reach c.args.event.now c.args.newest.now) (sym c.in-Later.is)

pub returns-in-From : goal.returns-in-From
returns-in-From c = ap not (tested c.is_before-in-From.result _ c.is_before-in-From.ensures) ∙ ap (λ reach. rolls reach c.args.event.now c.args.newest.now) (sym c.in-From.is)
