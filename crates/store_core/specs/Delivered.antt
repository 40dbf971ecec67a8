-- What a delivery destroyed of a store, and what puts it back.
use Rattle.std.specs.Prelude.{◌≡◌, ◌≢◌, ◌↔◌, ℕ, ◌<◌, ◌==◌, Bool, true, List, [], ◌∷◌}
use Rattle.std.specs.List.{AllByRecursion, list_any}
use Rattle.std.specs.FinMap as fin
use Rattle.dots_core.specs.declared.dot.Dot.{Dot}
use Rattle.dots_core.specs.Clocks.{Clocks}
use Rattle.dots_core.specs.Contexts.{HasAllOf, IsPartOf, with_part}
use Rattle.dots_core.specs.Dots.{Dots}
use Rattle.entry_core.specs.EntryLists.{pairs}
use Rattle.entry_core.specs.Presences.{Entry}
use Rattle.store_core.specs.EntryMoves.{with_each, without_each}
use Rattle.store_core.specs.Stores.{Store, arrivals, departures}

-- a name, and its context clock and cloud from before
pub record OldPart : Type 0 where
  pub name : ℕ
  pub part : Clocks

-- the dots that joined with their entries, the entries that left, and the old parts of the names whose dots changed
pub record Delivered : Type 0 where
  pub joined : List Dot
  pub left : List Entry
  pub parts : List OldPart

-- none of the entries stands at one of the dots
abbrev pub AreApart : List Dot → List Entry → Type 0
AreApart ds es = AllByRecursion (λ (e : Entry). AllByRecursion (λ (d : Dot). d ≢ e.dot) ds) es

-- the name is one of these, and the other set has a dot of it that this set lacks
abbrev pub Changes : (ℕ → Bool) → Dots → Dots → ℕ → Type 0
Changes named other s name = (named name ≡ true) × (HasAllOf name s other → ⊥)

-- whether one of the parts is of the name
abbrev pub is_old : List OldPart → ℕ → Bool
is_old ps n = list_any (λ (p : OldPart). n == p.name) ps

-- each name is below those after it
abbrev pub NamesRise : List OldPart → Type 0
NamesRise [] = Unit {0}
NamesRise (p ∷ ps) = AllByRecursion (λ (q : OldPart). p.name < q.name) ps × NamesRise ps

-- the parts that the set s has of the names which `other` changes, by rising name
pub record AreOldParts (named : ℕ → Bool) (other s : Dots) (ps : List OldPart) : Type 0 where
  pub rise : NamesRise ps
  pub parts : AllByRecursion (λ (p : OldPart). IsPartOf s p.name p.part) ps
  pub names : (n : ℕ) → (is_old ps n ≡ true) ↔ Changes named other s n

-- d has what a delivery of `other`, for these names, destroys of a store, and nothing more
pub record Destroys (named : ℕ → Bool) (other s : Store) (d : Delivered) : Type 0 where
  pub joined : d.joined ≡ fin.keys (arrivals named other s)
  pub left : pairs d.left ≡ fin.entries (departures named other s)
  pub parts : AreOldParts named other.seen s.seen d.parts

-- the dots with these parts in place of the names' own, the first one first
abbrev pub with_parts : List OldPart → Dots → Dots
with_parts [] s = s
with_parts (p ∷ ps) s = with_parts ps (with_part p.name p.part s)

-- the store with the old parts of the names whose dots changed, without the entries that joined, and with those that left
abbrev pub undelivered : Delivered → Store → Store
undelivered r s = record { seen = with_parts r.parts s.seen; entries = with_each (pairs r.left) (without_each r.joined s.entries) }
