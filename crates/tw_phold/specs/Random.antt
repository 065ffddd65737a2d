-- SplitMix64 (Steele, Lea, Flood, Fast splittable pseudorandom number generators, 2014): its state grows by an odd constant, and each
-- word is made of the state alone.
use Rattle.std.specs.Prelude.{ℕ, ◌+◌, ◌*◌, ◌/◌, ◌%◌, ◌^◌, bit_xor}
use Rattle.tw_phold.specs.declared.random.TheConstants.{GAMMA}

-- the state one step on
abbrev pub stepped : ℕ → ℕ
stepped s = (s + GAMMA) % 2 ^ 64

-- the high bits of z are folded into its low ones, and the sum is spread by a factor
unfoldable pub mixed : ℕ → ℕ → ℕ → ℕ
mixed z k factor = bit_xor z (z / 2 ^ k) * factor % 2 ^ 64

-- the random word of a state
unfoldable pub word_of : ℕ → ℕ
word_of s =
    let z = mixed (mixed s 30 13787848793156543929) 27 10723151780598845931 in
    bit_xor z (z / 2 ^ 31)
