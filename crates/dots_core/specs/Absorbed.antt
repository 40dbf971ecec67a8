-- How the front of a cloud goes into the clock below it, and the numbers that go into a cloud when that clock falls.
use Rattle.std.specs.Prelude.{ℕ, zero, suc, ◌+◌, ◌==◌, List, [], ◌∷◌, if◌then◌else◌}
use Rattle.dots_core.specs.Clocks.{Clocks}

-- the clock rises as long as the cloud goes on without a gap
abbrev pub absorbed : ℕ → List ℕ → Clocks
absorbed c [] = record { clock = c; cloud = [] }
absorbed c (x ∷ xs) = if x == c + 1 then absorbed (c + 1) xs else record { clock = c; cloud = x ∷ xs }

-- the n numbers from a on
abbrev pub numbers : ℕ → ℕ → List ℕ
numbers a zero = []
numbers a (suc n) = a ∷ numbers (suc a) n
