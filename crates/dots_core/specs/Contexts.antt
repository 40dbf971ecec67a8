-- The context clock and the cloud of a name in a set of dots (Phoenix.Tracker.State: 'context' and 'clouds'; the causal context
-- of RR-8083). The context clock says in one number that all dots of the name up to it are in the set; the cloud has the clocks that
-- came out of turn.
use Rattle.std.specs.Prelude.{◌≡◌, ◌↔◌, ℕ, ◌+◌, ◌<◌, ◌≤◌, ◌==◌, not, true, false, List, Contains, map, ◌++◌}
use Rattle.std.specs.FinSet as set
use Rattle.dots_core.specs.declared.dot.Dot.{Dot}
use Rattle.dots_core.specs.Dots.{Dots, dot, of_names}
use Rattle.dots_core.specs.Clocks.{Clocks, RisesAbove}
use Rattle.dots_core.specs.Parts.{count_down}

-- c is the context clock of the name: the greatest c such that the dots with the clocks from 1 to c are all in the set; the set has
-- no dot of the name with the clock 0
pub record IsContext (s : Dots) (name c : ℕ) : Type 0 where
  pub all : (k : ℕ) → k ≤ c → (set.contains s (dot name k) ≡ true) ↔ (0 < k)
  pub greatest : set.contains s (dot name (c + 1)) ≡ false

-- the dot's clock is the one after the context clock of its name
abbrev pub IsNext : Dot → Dots → Type 0
IsNext d s = (c : ℕ) × (d.clock ≡ c + 1) × IsContext s d.name c

-- the set has no dot of the same name above the dot
abbrev pub IsLast : Dot → Dots → Type 0
IsLast d s = (k : ℕ) → d.clock < k → set.contains s (dot d.name k) ≡ false

-- s has each dot of the name that t has
abbrev pub HasAllOf : ℕ → Dots → Dots → Type 0
HasAllOf name s t = (k : ℕ) → set.contains t (dot name k) ≡ true → set.contains s (dot name k) ≡ true

-- the rising list of the name's clocks above c, none past `last_clock`; if c is its context clock, this is its cloud
pub record IsCloud (s : Dots) (name c : ℕ) (cloud : List ℕ) : Type 0 where
  pub rises : RisesAbove c cloud
  pub others : (k : ℕ) → c < k → (set.contains s (dot name k) ≡ true) ↔ Contains cloud k

-- the cloud of the name: the list of its clocks above its context clock
abbrev pub IsCloudOf : Dots → ℕ → List ℕ → Type 0
IsCloudOf s name cloud = (c : ℕ) → IsContext s name c → IsCloud s name c cloud

-- the part of the name in the set: its context clock and its cloud
pub record IsPartOf (s : Dots) (name : ℕ) (part : Clocks) : Type 0 where
  pub context : IsContext s name part.clock
  pub cloud : IsCloud s name part.clock part.cloud

-- a name has at most one context clock and one cloud in a set
abbrev pub OnePartLaw : Type 0
OnePartLaw = (s : Dots) (name : ℕ) (p q : Clocks) → IsPartOf s name p → IsPartOf s name q → p ≡ q

-- the dots of the other names
abbrev pub others : ℕ → Dots → Dots
others name s = of_names (λ n. not (n == name)) s

-- a set is given by the part of one name and the dots of the others
abbrev pub PartLaw : Type 0
PartLaw = (s t : Dots) (name : ℕ) (part : Clocks) → IsPartOf s name part → IsPartOf t name part → others name s ≡ others name t → s ≡ t

-- the dots of a name at these clocks
abbrev pub part_dots : ℕ → Clocks → Dots
part_dots name p = set.from_list (map (dot name) (count_down p.clock ++ p.cloud))

-- the set with these clocks in place of the name's
abbrev pub with_part : ℕ → Clocks → Dots → Dots
with_part name p s = set.union (others name s) (part_dots name p)
