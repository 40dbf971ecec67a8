-- Sets of names: numbers below `most_names`, each that of a replica.
use Rattle.std.specs.Prelude.{◌≡◌, ℕ, ◌<◌, true}
use Rattle.std.specs.Ordering.{nat_cmp}
use Rattle.std.specs.FinSet as set

-- how many names there are at most: each is a number below it
abbrev pub most_names : ℕ
most_names = 32

abbrev pub Names : Type 0
Names = set.FinSet nat_cmp

-- the set has each name
abbrev pub HasAll : Names → Type 0
HasAll names = (n : ℕ) → n < most_names → set.contains names n ≡ true

-- each name of the set is below this number
abbrev pub AreNamesBelow : ℕ → Names → Type 0
AreNamesBelow count names = (n : ℕ) → set.contains names n ≡ true → n < count
