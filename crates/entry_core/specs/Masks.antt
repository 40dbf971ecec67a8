-- Clocks as the bits of a number: 64 of them, each at its remainder by 64.
use Rattle.std.specs.Prelude.{◌≡◌, ◌≢◌, ℕ, ◌%◌, ◌<◌, ◌==◌, Bool, true, false}
use Rattle.std.specs.Int.{bit_at}
use Rattle.dots_core.specs.declared.dot.Dot.{Dot}

abbrev pub has_bit : ℕ → ℕ → Bool
has_bit mask at = bit_at mask at == 1

-- whether the bit of the dot's clock is set
abbrev pub is_live : ℕ → Dot → Bool
is_live mask d = has_bit mask (d.clock % 64)

-- the masks differ at most in the clock's bit
abbrev pub IsElsewhere : ℕ → ℕ → ℕ → Type 0
IsElsewhere new old clock = (k : ℕ) → k < 64 → k ≢ clock % 64 → has_bit new k ≡ has_bit old k

-- the mask with the clock's bit set
pub record IsWith (new old clock : ℕ) : Type 0 where
  pub here : has_bit new (clock % 64) ≡ true
  pub others : IsElsewhere new old clock

-- the mask with the clock's bit cleared
pub record IsWithout (new old clock : ℕ) : Type 0 where
  pub here : has_bit new (clock % 64) ≡ false
  pub others : IsElsewhere new old clock
