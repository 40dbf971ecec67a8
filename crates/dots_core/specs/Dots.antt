-- Dots, and finite sets of them (RR-8083, 'dots': the unique stamp of an add).
use Rattle.std.specs.Prelude.{◌≡◌, ◌↔◌, ℕ, ◌<◌, ◌≤◌, ◌==◌, ◌⊎◌, Bool, true, false, Option, None, Some, refl}
use Rattle.std.specs.declared.cmp.Ordering.{Ordering}
use Rattle.std.specs.Ordering.{nat_cmp, ordering_then}
use Rattle.std.specs.FinSet as set
use Rattle.std.specs.Coded.{Coded, code_by, coded×, coded_ℕ}
use Rattle.dots_core.specs.declared.dot.Dot.{Dot}
use Rattle.dots_core.specs.Names.{most_names}

-- the last clock that a dot may have
abbrev pub last_clock : ℕ
last_clock = 1000000000

-- a dot that a set may hold: its name is a replica's number, and its clock is from 1 to the last
pub record IsValid (d : Dot) : Type 0 where
  pub name : d.name < most_names
  pub first : 1 ≤ d.clock
  pub last : d.clock ≤ last_clock

-- dots are ordered by name, and then by clock
abbrev pub dot_cmp : Dot → Dot → Ordering
dot_cmp a b = ordering_then (nat_cmp a.name b.name) (nat_cmp a.clock b.clock)

-- a dot is stored as the pair of its fields
abbrev pub dot_code : Coded Dot
dot_code = code_by (ℕ × ℕ) (coded× coded_ℕ coded_ℕ) (λ d. (d.name, d.clock)) (λ p. record { name = p.0; clock = p.1 }) (λ _. refl)

-- a is below b, by name and then by clock
abbrev pub IsBelow : Dot → Dot → Type 0
IsBelow a b = (a.name < b.name) ⊎ ((a.name ≡ b.name) × (a.clock < b.clock))

-- b is not below a
abbrev pub IsFrom : Dot → Dot → Type 0
IsFrom a b = (a.name < b.name) ⊎ ((a.name ≡ b.name) × (a.clock ≤ b.clock))

-- a finite set of dots
abbrev pub Dots : Type 0
Dots = set.FinSet dot_cmp

-- each dot of the set is valid
abbrev pub AreValid : Dots → Type 0
AreValid s = (d : Dot) → set.contains s d ≡ true → IsValid d

abbrev pub dot : ℕ → ℕ → Dot
dot name clock = record { name = name; clock = clock }

-- the dots whose names pass the test
abbrev pub of_names : (ℕ → Bool) → Dots → Dots
of_names named s = set.retain s (λ d. named d.name)

-- the set's first dot that is of these names and not below d, if there is one
abbrev pub IsFirstDot : (ℕ → Bool) → Dots → Dot → Option Dot → Type 0
IsFirstDot named s d None = (q : Dot) → IsFrom d q → named q.name ≡ true → set.contains s q ≡ false
IsFirstDot named s d (Some f) =
    IsFrom d f × (named f.name ≡ true) × (set.contains s f ≡ true) × ((q : Dot) → IsFrom d q → IsBelow q f → named q.name ≡ true → set.contains s q ≡ false)

-- how many dots of the name are in the set
abbrev pub count_of : ℕ → Dots → ℕ
count_of own s = set.len (of_names (λ n. n == own) s)

-- the clocks of the name's dots are those from 1 to their count, as a replica's own are
abbrev pub HasClocks : ℕ → Dots → Type 0
HasClocks own s = (k : ℕ) → (set.contains s (dot own k) ≡ true) ↔ ((0 < k) × (k ≤ count_of own s))
