use Rattle.std.proofs.Common.{arith, ◌+◌, ◌<◌, ◌≤◌, length, length-take, take}
use Rattle.tw_device.proofs.Input.{input_at_end, input_at_limit, loses_at_end, loses_input}
use Rattle.tw_device.proofs.Taking.{takes_both}
use Rattle.tw_device.proofs.source.read_all.Goals as goal

pub returns-then-taken-eq0-clause-input : goal.returns-then-taken-eq0-clause-input
returns-then-taken-eq0-clause-input g c =
    let given = c.in_ok-taken.ensures.bytes in
    let nothing = rw c.if-taken-eq0.true at given.0 in
    let room : 0 < length c.get.new.into = omega (arith, length-take c.min-room.result c.loop-chunk.chunk) in
    let few : length c.loop-chunk.bytes.items ≤ 67108864 = omega arith in
    input_at_end _ _ _ _ c.loop-chunk.invariant.1 nothing (given.1 c.if-taken-eq0.true room) few

pub returns-then-taken-eq0-clause-taken : goal.returns-then-taken-eq0-clause-taken
returns-then-taken-eq0-clause-taken g c =
    let nothing = rw c.if-taken-eq0.true at c.in_ok-taken.ensures.bytes.0 in
    loses_at_end _ _ _ _ c.loop-chunk.invariant.1 nothing (returns-then-taken-eq0-clause-input g c)

pub returns-clause-input : goal.returns-clause-input
returns-clause-input g c = input_at_limit _ _ _ c.loop-chunk.invariant.1 (omega arith)

pub returns-clause-taken : goal.returns-clause-taken
returns-clause-taken g c = loses_input _ _ _ c.loop-chunk.invariant.1 (input_at_limit _ _ _ c.loop-chunk.invariant.1 (omega arith))

pub returns-in_err-extend_from_slice-clause-most : goal.returns-in_err-extend_from_slice-clause-most
returns-in_err-extend_from_slice-clause-most g c =
    let given = c.in_ok-taken.ensures in
    let n = c.in_ok-taken.taken in
    let room : length c.get.new.into ≤ c.min-room.result = omega (arith, length-take c.min-room.result c.loop-chunk.chunk) in
    let most : n ≤ c.min-room.result = omega (arith, given.count) in
    let part : length (take n c.get.new.into) ≤ n = omega (arith, length-take n c.get.new.into) in
    let few : length c.loop-chunk.bytes.items + c.min-room.result ≤ 67108864 = omega arith in
    takes_both _ _ _ _ _ c.loop-chunk.invariant.1 given.bytes.0 (omega (arith, part, most, few))
