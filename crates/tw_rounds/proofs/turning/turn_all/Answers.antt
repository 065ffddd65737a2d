use Rattle.std.proofs.Common.{rules, ℕ, ◌+◌, ◌*◌, ◌<◌, length, subst, arith}
use Rattle.std.specs.Fork.{slice_chunk}
use Rattle.tw_rounds.proofs.Turns.{enough}
use Rattle.tw_rounds.proofs.turning.turn_all.Goals as goal

pub turn_from-requires-after_bounds : goal.turn_from-requires-after_bounds
turn_from-requires-after_bounds g c κs within =
    let most : ℕ = 18446744073709551615 in
    let xs = c.args.all.now in
    let size = c.args.size in
    let short : length xs < most + 1 = search rules in
    let covers = enough most size c.requires.size in
    record {
      some = c.requires.size;
      counted = omega arith;
      covered = omega arith;
      room = omega arith;
      each = λ n l. subst (λ k. g.W.Turn.may_turn c.args.round k (slice_chunk xs size n)) {x = n * size} (omega arith) (c.requires.may n l);
    }
