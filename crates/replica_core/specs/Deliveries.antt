-- A delivery: what a message changes where it arrives (this project's own, in the manner of Phoenix.Tracker.State's merge). It
-- concerns the names that the replica knows, other than its own.
use Rattle.std.specs.Prelude.{ℕ, ◌==◌, ◌&&◌, not, Bool}
use Rattle.store_core.specs.Laws as laws
use Rattle.payload_core.specs.Messages.{Message}
use Rattle.store_core.specs.Stores as stores
use Rattle.store_core.specs.Stores.{store_of}
use Rattle.replica_core.specs.Replicas.{Replica, is_known}

-- whether the name is known, and not the own one
abbrev pub is_other_known : Replica → ℕ → Bool
is_other_known r name = is_known r name && not (name == r.own)

-- the replica after a delivery: what the message has of other known names is merged into the store; the delta stays
abbrev pub merged : Message → Replica → Replica
merged m r = record r { store = stores.merged (is_other_known r) (store_of m) r.store }

-- each dot of another known name has the greater of its two standings, that in the store before and that in the message, and each other
-- dot the standing that it had
abbrev pub TakesGreaterStandings : Message → Replica → Replica → Type 0
TakesGreaterStandings m before after = laws.TakesGreaterStandings (is_other_known before) (store_of m) before.store after.store
