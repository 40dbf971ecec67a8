-- Laws of deliveries to stores.
use Rattle.std.specs.Prelude.{◌≡◌, ℕ, max, Bool, true, false, Some}
use Rattle.std.specs.FinMap as fin
use Rattle.dots_core.specs.declared.dot.Dot.{Dot}
use Rattle.entry_core.specs.Presences.{Presence, Entries}
use Rattle.payload_core.specs.Messages.{AreSeen}
use Rattle.store_core.specs.Stores.{Store, merged, standing}

-- each entry's dot was seen
abbrev pub IsStore : Store → Type 0
IsStore s = AreSeen s.seen s.entries

-- a second merge of the same store changes nothing
abbrev pub AgainLaw : Type 0
AgainLaw = (named : ℕ → Bool) (m s : Store) → merged named m (merged named m s) ≡ merged named m s

-- the two maps have no different entries at one dot
abbrev pub Agree : Entries → Entries → Type 0
Agree one other = (d : Dot) (p q : Presence) → fin.get one d ≡ Some p → fin.get other d ≡ Some q → p ≡ q

-- two stores that are merged into a third give the same in either order, if the two have no different entries at one dot, and in each
-- of the three each entry's dot was seen
abbrev pub OrderLaw : Type 0
OrderLaw =
    (named : ℕ → Bool) (m n s : Store) → IsStore s → IsStore m → IsStore n → Agree m.entries n.entries →
    merged named n (merged named m s) ≡ merged named m (merged named n s)

-- each dot of these names has in `after` the greater of its standings in `before` and in m, and each other dot the standing that it had
-- in `before`
pub record TakesGreaterStandings (named : ℕ → Bool) (m before after : Store) : Type 0 where
  pub known : (d : Dot) → named d.name ≡ true → standing after d ≡ max (standing before d) (standing m d)
  pub others : (d : Dot) → named d.name ≡ false → standing after d ≡ standing before d

abbrev pub StandingLaw : Type 0
StandingLaw = (named : ℕ → Bool) (m s : Store) → IsStore s → IsStore m → TakesGreaterStandings named m s (merged named m s)
