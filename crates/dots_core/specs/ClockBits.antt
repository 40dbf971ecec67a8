-- The clocks of a name as bits of numbers. Each number stands for 64 clocks, the first of which is a multiple of 64.
use Rattle.std.specs.Prelude.{◌≡◌, ℕ, ◌/◌, ◌%◌, ◌==◌, Bool}
use Rattle.std.specs.FinSet as set
use Rattle.std.specs.Int.{bit_at}
use Rattle.dots_core.specs.declared.dot.Dot.{Dot}
use Rattle.dots_core.specs.Dots.{Dots}

abbrev pub has_bit : ℕ → ℕ → Bool
has_bit bits at = bit_at bits at == 1

-- bit k of `bits`, for k below 64, says whether the set has the name's dot with the clock 64 * base + k
abbrev pub AreBitsOf : ℕ → ℕ → ℕ → Dots → Type 0
AreBitsOf name base bits s = (d : Dot) → d.name ≡ name → d.clock / 64 ≡ base → has_bit bits (d.clock % 64) ≡ set.contains s d
