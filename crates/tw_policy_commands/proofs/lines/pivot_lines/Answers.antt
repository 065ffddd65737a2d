use Rattle.std.proofs.Common.{ℕ, List}
use Rattle.tw_elimination.specs.declared.wheel.Pivot.{Pivot as Told}
use Rattle.tw_elimination.specs.Wheel.{pivot_of}
use Rattle.tw_policy_commands.specs.Safe.{wheel_words}
use Rattle.tw_policy_commands.proofs.Texts.{texts_next}
use Rattle.tw_policy_commands.proofs.lines.pivot_lines.Goals as goal

pub loop-pivot-preserved : goal.loop-pivot-preserved
loop-pivot-preserved c =
    let words : Told → List (List ℕ) = λ p. wheel_words c.args.instance.now (pivot_of p) in
    texts_next words c.args.pivots.now c.loop-pivot.pivot-index _ c.loop-pivot.lines.items c.push.new.self.items c.in_ok-pivot_words.field-0
    c.loop-pivot-test.true c.in_ok-push.ensures.items c.loop-pivot.invariant c.in_ok-pivot_words.ensures
