-- A replica and its two stores.
use Rattle.std.proofs.Common.{◌≡◌, ℕ, ◌+◌, ◌<◌, ◌≤◌, false, List, [], ◌∷◌, refl, ap, ◌∙◌, arith}
use Rattle.std.proofs.lemmas.Bool.{ltb-false}
use Rattle.dots_core.specs.declared.dot.Dot.{Dot}
use Rattle.store_core.specs.DeltaStores as stores
use Rattle.store_core.specs.DeltaStores.{DeltaStore, IsDeltaStore}
use Rattle.replica_core.specs.declared.node_limits.NodeLimits.{NodeLimits}
use Rattle.replica_core.specs.Invariant.{IsReplica}
use Rattle.replica_core.specs.Refusals.{is_clock_full}
use Rattle.replica_core.specs.Replicas.{Replica, left_each, own_clock}
use Rattle.replica_core.specs.Views.{View}

-- the two stores, with the own name
abbrev pub stores_of : Replica → DeltaStore
stores_of r = record { own = r.own; store = r.store; delta = r.delta }

-- the replica of these
abbrev pub replica_of : NodeLimits → View → DeltaStore → Replica
replica_of limits view s = record { own = s.own; limits = limits; store = s.store; view = view; delta = s.delta }

pub are_stores : (r : Replica) → IsReplica r → IsDeltaStore (stores_of r)
are_stores r h = record {
  name = h.name;
  valid = h.valid;
  clocks = h.clocks;
  live = h.live;
  delta_live = h.delta_live;
  delta_own = h.delta_own;
  delta_in = h.delta_in;
}

-- where the own clock has room, so has that of the stores
pub room : (r now : Replica) (more : ℕ) → r ≡ now → IsReplica r → is_clock_full now more ≡ false → stores.own_clock (stores_of r) + more ≤ 1000000000
room r now more same h free =
    let fits = ltb-false r.limits.clock (own_clock r + more) (ap (λ (r : Replica). is_clock_full r more) same ∙ free) in
    let low = h.limits.clock_few in
    omega (arith, fits, low)

pub room_for_one : (r now : Replica) → r ≡ now → IsReplica r → is_clock_full now 1 ≡ false → stores.own_clock (stores_of r) < 1000000000
room_for_one r now same h free = let fits = room r now 1 same h free in omega (arith, fits)

-- leaves in turn
pub left_each_stores : (ds : List Dot) (limits : NodeLimits) (view : View) (s : DeltaStore) →
    replica_of limits view (stores.left_each ds s) ≡ left_each ds (replica_of limits view s)
left_each_stores [] limits view s = refl
left_each_stores (d ∷ ds) limits view s = left_each_stores ds limits view (stores.left d s)
