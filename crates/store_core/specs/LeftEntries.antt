-- What a leave of one entry destroyed of a store and of a delta, and what puts it back.
use Rattle.std.specs.Prelude.{◌≡◌, Bool, true, false, Option, None, Some}
use Rattle.std.specs.Option.{option_map}
use Rattle.std.specs.FinMap as fin
use Rattle.std.specs.FinSet as set
use Rattle.dots_core.specs.declared.dot.Dot.{Dot}
use Rattle.dots_core.specs.Dots.{Dots}
use Rattle.entry_core.specs.Presences.{Entry, Entries, entry_of, presence_of}
use Rattle.store_core.specs.Stores.{Store}

-- the entry; the delta's entry at its dot, if it had one; and whether the dot stood in the delta
pub record Left : Type 0 where
  pub entry : Entry
  pub unsent : Option Entry
  pub in_delta : Bool

-- `left` has what stands at the dot in the store and in the delta
pub record Stood (left : Left) (d : Dot) (store delta : Store) : Type 0 where
  pub entry : Some left.entry ≡ option_map (entry_of d) (fin.get store.entries d)
  pub unsent : left.unsent ≡ option_map (entry_of d) (fin.get delta.entries d)
  pub in_delta : left.in_delta ≡ set.contains delta.seen d

-- the entries, with this one back at its dot, if there is one
abbrev pub put : Option Entry → Entries → Entries
put None es = es
put (Some e) es = fin.insert es e.dot (presence_of e)

-- the entries, without this one, if there is one
abbrev pub taken : Option Entry → Entries → Entries
taken None es = es
taken (Some e) es = fin.remove es e.dot

-- the store, with the entry back at its dot
abbrev pub restored : Left → Store → Store
restored left store = record store { entries = fin.insert store.entries left.entry.dot (presence_of left.entry) }

-- the dots, without this one if it had not stood there before
abbrev pub dots_before : Bool → Dot → Dots → Dots
dots_before true d s = s
dots_before false d s = set.remove s d

-- the delta, with its entry back, and without the dot if it had not stood there before
abbrev pub restored_delta : Left → Store → Store
restored_delta left delta = record { seen = dots_before left.in_delta left.entry.dot delta.seen; entries = put left.unsent delta.entries }

-- no entry stands at the dot of this one, if there is one
abbrev pub IsFree : Option Entry → Entries → Type 0
IsFree None es = Unit {0}
IsFree (Some e) es = fin.get es e.dot ≡ None

-- the dots of the entries that are to be put back are free
pub record HasPlace (left : Left) (store delta : Store) : Type 0 where
  pub entry : fin.get store.entries left.entry.dot ≡ None
  pub unsent : IsFree left.unsent delta.entries
