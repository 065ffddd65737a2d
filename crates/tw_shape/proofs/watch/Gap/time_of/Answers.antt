use Rattle.std.proofs.Common.{false, true, refl, ap, sym, ◌∙◌, arith}
use Rattle.std.specs.Option.{option_map}
use Rattle.std.proofs.lemmas.Bool.{le-leb, lt-leb}
use Rattle.tw_shape.proofs.Looking.{found_empty, found_none, no_time_between, no_time_past, one_time}
use Rattle.tw_shape.proofs.watch.Gap.time_of.Goals as goal
use Rattle.tw_shape.proofs.watch.Gap.time_of.Goals.{then-since-every-ne0-via-then-since-every-ne0, then-since-every-ne0-via-else-since-every-ne0+then-self-since, else-is_near-via-then-is_near+else-meets, else-is_near-via-else-is_near}

pub returns-in_err-ticks_left-clause-value : goal.returns-in_err-ticks_left-clause-value
returns-in_err-ticks_left-clause-value c =
    c.from_residual-in_err-ticks_left.ensures
    ∙ ap (option_map (λ k. k.time)) (sym (found_empty c.args.every c.requires.every c.args.self.now c.args.other.now c.args.ticks c.requires.self_timely.is c.requires.other_timely.is c.requires.ticks
    c.in_err-ticks_left.ensures.none c.requires.can))

pub returns-in_err-since-clause-value : goal.returns-in_err-since-clause-value
returns-in_err-since-clause-value c =
    let apart = c.in_err-since.ensures in
    c.from_residual-in_err-since.ensures
    ∙ ap (option_map (λ k. k.time)) (sym (found_none c.args.every c.requires.every c.args.self.now c.args.other.now c.args.ticks c.requires.self_timely.is c.requires.other_timely.is c.requires.ticks
    c.in_ok-ticks_left.field-0 c.in_ok-left.field-0 (record { still = c.in_ok-ticks_left.ensures.still; longest = c.in_ok-ticks_left.ensures.longest })
    (record { still = c.in_ok-left.ensures.still; longest = c.in_ok-left.ensures.longest })
    (λ m l h. apart (omega arith))))

pub returns-then-since-every-ne0-clause-value : goal.returns-then-since-every-ne0-clause-value
returns-then-since-every-ne0-clause-value c =
    let soon = c.in_ok-since.ensures.0 in
    let is = c.in_ok-since.ensures.1 in
    elim c.then-since-every-ne0.branch [
      | then-since-every-ne0-via-then-since-every-ne0 w ↦
          no_time_between c.args.every c.requires.every c.args.self.now c.args.other.now c.args.ticks c.requires.self_timely.is c.requires.other_timely.is c.requires.ticks
          c.in_ok-ticks_left.field-0 c.in_ok-left.field-0 (record { still = c.in_ok-ticks_left.ensures.still; longest = c.in_ok-ticks_left.ensures.longest })
          (record { still = c.in_ok-left.ensures.still; longest = c.in_ok-left.ensures.longest })
          soon c.in_ok-since.since is w.if-since-every-ne0.true
      | then-since-every-ne0-via-else-since-every-ne0+then-self-since w ↦
          no_time_past c.args.every c.requires.every c.args.self.now c.args.other.now c.args.ticks c.requires.self_timely.is c.requires.other_timely.is c.requires.ticks
          c.in_ok-ticks_left.field-0 c.in_ok-left.field-0 (record { still = c.in_ok-ticks_left.ensures.still; longest = c.in_ok-ticks_left.ensures.longest })
          (record { still = c.in_ok-left.ensures.still; longest = c.in_ok-left.ensures.longest })
          soon c.in_ok-since.since is w.if-self-since.true
    ]

pub returns-then-meets-clause-value : goal.returns-then-meets-clause-value
returns-then-meets-clause-value c =
    one_time c.args.every c.requires.every c.args.self.now c.args.other.now c.args.ticks c.requires.self_timely.is c.requires.other_timely.is c.requires.ticks
    c.in_ok-ticks_left.field-0 c.in_ok-left.field-0 (record { still = c.in_ok-ticks_left.ensures.still; longest = c.in_ok-ticks_left.ensures.longest })
    (record { still = c.in_ok-left.ensures.still; longest = c.in_ok-left.ensures.longest })
    c.in_ok-since.ensures.0 c.in_ok-since.since c.in_ok-since.ensures.1 c.if-since-every-ne0.false c.if-self-since.false
    true true (sym (le-leb _ _ c.if-is_near.true)) (sym c.if-meets.true ∙ c.meets.ensures.value)

pub returns-else-is_near-clause-value : goal.returns-else-is_near-clause-value
returns-else-is_near-clause-value c =
    let one = one_time c.args.every c.requires.every c.args.self.now c.args.other.now c.args.ticks c.requires.self_timely.is c.requires.other_timely.is c.requires.ticks
    c.in_ok-ticks_left.field-0 c.in_ok-left.field-0 (record { still = c.in_ok-ticks_left.ensures.still; longest = c.in_ok-ticks_left.ensures.longest })
    (record { still = c.in_ok-left.ensures.still; longest = c.in_ok-left.ensures.longest })
    c.in_ok-since.ensures.0 c.in_ok-since.since c.in_ok-since.ensures.1 c.if-since-every-ne0.false c.if-self-since.false in
    elim c.else-is_near.branch [
      | else-is_near-via-then-is_near+else-meets w ↦ one true false (sym (le-leb _ _ w.if-is_near.true)) (sym w.if-meets.false ∙ w.meets.ensures.value)
      | else-is_near-via-else-is_near w ↦ one false _ (sym (lt-leb _ _ w.if-is_near.false)) refl
    ]
