-- A store with its delta: what a node has seen and holds, and what it did since it last sent its delta.
use Rattle.std.specs.Prelude.{◌≡◌, ℕ, ◌+◌, ◌-◌, ◌<◌, ◌≤◌, true, All, List, [], ◌∷◌, length, Some, refl}
use Rattle.std.specs.Coded.{Coded, code_by, coded×, coded_ℕ}
use Rattle.std.specs.List.{AllByRecursion}
use Rattle.std.specs.FinMap as fin
use Rattle.std.specs.FinSet as set
use Rattle.dots_core.specs.Names.{most_names}
use Rattle.dots_core.specs.declared.dot.Dot.{Dot}
use Rattle.dots_core.specs.Dots.{AreValid, HasClocks, IsValid, count_of, dot}
use Rattle.entry_core.specs.EntryLists.{pairs}
use Rattle.entry_core.specs.Presences.{Presence}
use Rattle.payload_core.specs.Messages.{AreSeen, Message}
use Rattle.store_core.specs.Delivered.{Delivered, undelivered}
use Rattle.store_core.specs.EntryMoves.{AreNew, without_each}
use Rattle.store_core.specs.ForgottenNames.{Forgotten, remembered}
use Rattle.store_core.specs.LeavesTogether.{entries_left, restored_delta_each, restored_each, unsent_left}
use Rattle.store_core.specs.LeftEntries.{HasPlace, Left, restored, restored_delta}
use Rattle.store_core.specs.Stores.{Store, nothing, store_code, store_of, with_dot, with_entry, with_removal, without, without_entry}

-- the own name; all that was seen, with the live entries; and the delta
pub record DeltaStore : Type 0 where
  pub own : ℕ
  pub store : Store
  pub delta : Store

-- what each store with its delta keeps
pub record IsDeltaStore (s : DeltaStore) : Type 0 where
  pub name : s.own < most_names
  -- seen dots are valid; the own ones are those with the clocks from 1 to the own clock; an entry's dot was seen
  pub valid : AreValid s.store.seen
  pub clocks : HasClocks s.own s.store.seen
  pub live : AreSeen s.store.seen s.store.entries
  -- the delta has own dots that were seen, and live entries at some of them
  pub delta_live : AreSeen s.delta.seen s.delta.entries
  pub delta_own : (d : Dot) → set.contains s.delta.seen d ≡ true → (d.name ≡ s.own) × (set.contains s.store.seen d ≡ true)
  pub delta_in : (d : Dot) (p : Presence) → fin.get s.delta.entries d ≡ Some p → fin.get s.store.entries d ≡ Some p

-- the own clock: the number of own dots that were seen
abbrev pub own_clock : DeltaStore → ℕ
own_clock s = count_of s.own s.store.seen

-- the own dot one above the own clock
abbrev pub fresh : DeltaStore → Dot
fresh s = dot s.own (own_clock s + 1)

-- the own dot whose clock is the own clock: the last own one, if there is one
abbrev pub last : DeltaStore → Dot
last s = dot s.own (own_clock s)

-- nothing was seen
abbrev pub empty : ℕ → DeltaStore
empty own = record { own = own; store = nothing; delta = nothing }

-- the fresh dot was seen and has its entry, in the store and in the delta
abbrev pub joined : Presence → DeltaStore → DeltaStore
joined p s = record s { store = with_entry (fresh s) p s.store; delta = with_entry (fresh s) p s.delta }

-- the entry at the dot goes; the delta has the dot from then on, and no entry there
abbrev pub dropped : Dot → DeltaStore → DeltaStore
dropped d s = record s { store = without_entry d s.store; delta = with_removal d s.delta }

-- the fresh dot was seen, in the store and in the delta; the entries of both stay
abbrev pub ticked : DeltaStore → DeltaStore
ticked s = record s { store = with_dot (fresh s) s.store; delta = with_dot (fresh s) s.delta }

-- the own entry at the dot leaves
abbrev pub left : Dot → DeltaStore → DeltaStore
left d s = ticked (dropped d s)

-- the own entries at these dots leave, in turn
abbrev pub left_each : List Dot → DeltaStore → DeltaStore
left_each [] s = s
left_each (d ∷ ds) s = left_each ds (left d s)

-- the last own dot and its entry are gone, from the store and from the delta
abbrev pub without_last : DeltaStore → DeltaStore
without_last s = record s { store = without (last s) s.store; delta = without (last s) s.delta }

-- the last own dot and its entry, if it has one, are gone, and what left is back
abbrev pub with_left : Left → DeltaStore → DeltaStore
with_left l s = record s { store = restored l (without (last s) s.store); delta = restored_delta l (without (last s) s.delta) }

-- one of the last own dots is gone for each that left, and all that left are back
abbrev pub with_lefts : List Left → DeltaStore → DeltaStore
with_lefts ls s = record s {
  store = restored_each s.own (own_clock s - length ls) ls s.store;
  delta = restored_delta_each s.own (own_clock s - length ls) ls s.delta;
}

-- the delivery is taken back: the entries that joined are gone, those that left are back, and names whose dots changed have their old
-- parts
abbrev pub with_undelivered : Delivered → DeltaStore → DeltaStore
with_undelivered d s = record s { store = undelivered d s.store }

-- what was held of the name is back
abbrev pub with_remembered : ℕ → Forgotten → DeltaStore → DeltaStore
with_remembered name f s = record s { store = remembered name f s.store }

-- each of these dots is an own one that was seen
abbrev pub AreOwn : List Dot → DeltaStore → Type 0
AreOwn ds s = AllByRecursion (λ (d : Dot). (d.name ≡ s.own) × (set.contains s.store.seen d ≡ true)) ds

-- when each kind of edit can be taken back: what it took out has a place, and the store and delta that come back keep what each store
-- with its delta keeps

pub record CanBeUnjoined (s : DeltaStore) : Type 0 where
  pub some : 0 < own_clock s
  pub earlier : IsDeltaStore (without_last s)

pub record CanBeRestored (l : Left) (s : DeltaStore) : Type 0 where
  pub some : 0 < own_clock s
  pub valid : IsValid l.entry.dot
  pub place : HasPlace l s.store s.delta
  pub earlier : IsDeltaStore (with_left l s)

pub record CanAllBeRestored (ls : List Left) (s : DeltaStore) : Type 0 where
  pub some : length ls ≤ own_clock s
  pub valid : All (λ (l : Left). IsValid l.entry.dot) ls
  pub new : AreNew (pairs (entries_left ls)) s.store.entries
  pub new_in_delta : AreNew (pairs (unsent_left ls)) s.delta.entries
  pub earlier : IsDeltaStore (with_lefts ls s)

pub record CanBeUndelivered (d : Delivered) (s : DeltaStore) : Type 0 where
  pub new : AreNew (pairs d.left) (without_each d.joined s.store.entries)
  pub earlier : IsDeltaStore (with_undelivered d s)

pub record CanBeRemembered (name : ℕ) (f : Forgotten) (s : DeltaStore) : Type 0 where
  pub number : name < most_names
  pub new : AreNew (pairs f.entries) s.store.entries
  pub earlier : IsDeltaStore (with_remembered name f s)

-- the message can be the delta of the store: its dots are own ones that were seen, and its entries are the store's at their dots
pub record CanBeDelta (m : Message) (s : DeltaStore) : Type 0 where
  pub own : (d : Dot) → set.contains m.seen d ≡ true → (d.name ≡ s.own) × (set.contains s.store.seen d ≡ true)
  pub live : (d : Dot) (p : Presence) → fin.get m.entries d ≡ Some p → fin.get s.store.entries d ≡ Some p

-- the delta is empty
abbrev pub without_delta : DeltaStore → DeltaStore
without_delta s = record s { delta = nothing }

-- the delta has the dots and the entries of the message
abbrev pub with_delta : Message → DeltaStore → DeltaStore
with_delta m s = record s { delta = store_of m }

-- a store with its delta is stored as the tuple of its fields
abbrev pub delta_store_code : Coded DeltaStore
delta_store_code =
    code_by (ℕ × (Store × Store)) (coded× coded_ℕ (coded× store_code store_code)) (λ s. (s.own, (s.store, s.delta)))
    (λ t. record { own = t.0; store = t.1.0; delta = t.1.1 }) (λ _. refl)
