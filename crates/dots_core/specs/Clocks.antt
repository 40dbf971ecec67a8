-- The clocks of one name's dots, as a set keeps them: those from 1 to a clock, and those in a cloud above it.
use Rattle.std.specs.Prelude.{◌≡◌, ℕ, ◌+◌, ◌<◌, ◌≤◌, ◌==◌, nat_lt, nat_le, Bool, true, false, not, ◌&&◌, ◌||◌, List, [], ◌∷◌, Option, None, Some}
use Rattle.dots_core.specs.Dots.{last_clock}

pub record Clocks : Type 0 where
  pub clock : ℕ
  pub cloud : List ℕ

-- no clock
abbrev pub no_clocks : Clocks
no_clocks = record { clock = 0; cloud = [] }

-- whether k is in the list
abbrev pub is_among : ℕ → List ℕ → Bool
is_among k [] = false
is_among k (c ∷ cs) = (k == c) || is_among k cs

-- whether k is one of the clocks
abbrev pub holds : Clocks → ℕ → Bool
holds p k = (nat_lt 0 k && nat_le k p.clock) || is_among k p.cloud

-- p has each clock of q
abbrev pub HoldsAllOf : Clocks → Clocks → Type 0
HoldsAllOf p q = (k : ℕ) → holds q k ≡ true → holds p k ≡ true

-- the first of the clocks that is not below k, if there is one
abbrev pub IsFirstFrom : Clocks → ℕ → Option ℕ → Type 0
IsFirstFrom p k None = (j : ℕ) → k ≤ j → holds p j ≡ false
IsFirstFrom p k (Some f) = (k ≤ f) × (holds p f ≡ true) × ((j : ℕ) → k ≤ j → j < f → holds p j ≡ false)

-- each clock is above the one before it, the first above b, and none is past `last_clock`
abbrev pub RisesAbove : ℕ → List ℕ → Type 0
RisesAbove b [] = Unit {0}
RisesAbove b (c ∷ cs) = (b < c) × (c ≤ last_clock) × RisesAbove c cs

-- the one way to keep these clocks: the cloud rises, its first is two above `clock` at the least, and no clock is past `last_clock`
pub record IsCanonical (p : Clocks) : Type 0 where
  pub last : p.clock ≤ last_clock
  pub rises : RisesAbove (p.clock + 1) p.cloud

-- none of the clocks is above k
abbrev pub IsGreatest : ℕ → Clocks → Type 0
IsGreatest k p = (j : ℕ) → k < j → holds p j ≡ false

-- the clocks of `after` are those of `before`, and k
abbrev pub Gains : Clocks → ℕ → Clocks → Type 0
Gains before k after = (j : ℕ) → holds after j ≡ ((j == k) || holds before j)

-- the clocks of `after` are those of `before` other than k
abbrev pub Loses : Clocks → ℕ → Clocks → Type 0
Loses before k after = (j : ℕ) → holds after j ≡ (not (j == k) && holds before j)

-- the clocks of u are those of p and those of q
abbrev pub IsUnion : Clocks → Clocks → Clocks → Type 0
IsUnion p q u = (k : ℕ) → holds u k ≡ (holds p k || holds q k)
