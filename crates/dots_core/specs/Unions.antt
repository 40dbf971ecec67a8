-- The union of two lists of parts, name by name.
use Rattle.std.specs.Prelude.{◌≡◌, ℕ, ◌<◌, ◌≤◌, ◌==◌, ◌⊎◌, true, false, nat_le, ◌&&◌, ◌||◌, List, [], ◌∷◌, Option, Some, None, if◌then◌else◌}
use Rattle.std.specs.FinSet as set
use Rattle.dots_core.specs.Dots.{last_clock}
use Rattle.dots_core.specs.Names.{Names}
use Rattle.dots_core.specs.Clocks.{Clocks, holds, is_among, IsCanonical, IsUnion}
use Rattle.dots_core.specs.Parts.{part_at, AreParts}

-- p has each of these clocks
abbrev pub HasEach : Clocks → List ℕ → Type 0
HasEach p ks = (k : ℕ) → is_among k ks ≡ true → holds p k ≡ true

-- each is a clock that a dot may have
abbrev pub AreClocks : List ℕ → Type 0
AreClocks ks = (k : ℕ) → is_among k ks ≡ true → (0 < k) × (k ≤ last_clock)

-- the clocks of `after` are those of `before`, and ks
abbrev pub GainsEach : Clocks → List ℕ → Clocks → Type 0
GainsEach before ks after = (j : ℕ) → holds after j ≡ (is_among j ks || holds before j)

-- the union of p and q, in its one form; or `None`, which stands for p, if p is the union
abbrev pub IsGrown : Clocks → Clocks → Option Clocks → Type 0
IsGrown p q None = IsUnion p q p
IsGrown p q (Some u) = IsCanonical u × IsUnion p q u

-- the least number of two lists together; `None` if both are empty
abbrev pub IsLeast : List ℕ → List ℕ → Option ℕ → Type 0
IsLeast xs ys None = (xs ≡ []) × (ys ≡ [])
IsLeast xs ys (Some n) = ((is_among n xs || is_among n ys) ≡ true) × ((k : ℕ) → (is_among k xs || is_among k ys) ≡ true → n ≤ k)

-- the list without its first number, if that is n
abbrev pub without_first : ℕ → List ℕ → List ℕ
without_first n [] = []
without_first n (x ∷ xs) = if x == n then xs else x ∷ xs

-- each number of `after` is one of `before`, or n
abbrev pub AddsOnly : List ℕ → ℕ → List ℕ → Type 0
AddsOnly before n after = (k : ℕ) → is_among k after ≡ true → (is_among k before ≡ true) ⊎ (k ≡ n)

-- `after` are parts: at each of `names` that is not below `name`, they have the clocks of `before` and those of `others`; at any other
-- name, the clocks of `before`
pub record IsUnionFrom (names : Names) (name : ℕ) (before others after : List Clocks) : Type 0 where
  pub parts : AreParts after
  pub clocks : (n k : ℕ) → holds (part_at after n) k ≡ (holds (part_at before n) k ||
      ((nat_le name n && set.contains names n) && holds (part_at others n) k))

-- no name of `names` from `name` to before `next` has a clock in these parts
abbrev pub HaveNone : Names → List Clocks → ℕ → ℕ → Type 0
HaveNone names ps name next = (n k : ℕ) → name ≤ n → n < next → (set.contains names n && holds (part_at ps n) k) ≡ false
