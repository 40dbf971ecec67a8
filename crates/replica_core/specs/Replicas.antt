-- A replica, as sets, and what a join, a leave, an update, a status and a send change (Phoenix.Tracker.State, as sets; the
-- dots of RR-8083).
use Rattle.std.specs.Prelude.{◌≡◌, ℕ, ◌+◌, ◌==◌, Bool, true, List, [], ◌∷◌, None, Some, refl}
use Rattle.std.specs.Coded.{Coded, code_by, coded×, coded_ℕ}
use Rattle.std.specs.FinSet as set
use Rattle.std.specs.FinMap as fin
use Rattle.dots_core.specs.declared.dot.Dot.{Dot}
use Rattle.dots_core.specs.Dots.{dot, count_of}
use Rattle.payload_core.specs.Presences.{Presence, dots_of, is_tracked_as}
use Rattle.payload_core.specs.Messages.{Message, request_message, store_message}
use Rattle.store_core.specs.Stores.{Store, store_code, is_other, nothing, part, store_of, with_dot, with_entry, with_removal, without_entry}
use Rattle.replica_core.specs.declared.node_limits.NodeLimits.{NodeLimits}
use Rattle.replica_core.specs.declared.status.Status.{Status}
use Rattle.replica_core.specs.declared.status.Status.TheVariants.{Up}
use Rattle.replica_core.specs.Limits.{node_limits_code}
use Rattle.replica_core.specs.Views.{View, view_code, is_some_up, known_of}

-- the own name, the limits, all that was seen with the live entries, the statuses of the known names; and the delta: the own dots
-- that the replica's steps touched since its last broadcast, with the live entries among them
pub record Replica : Type 0 where
  pub own : ℕ
  pub limits : NodeLimits
  pub store : Store
  pub view : View
  pub delta : Store

-- the replica has seen nothing, and knows its own name alone, as up
abbrev pub opening : ℕ → NodeLimits → Replica
opening own limits =
    record { own = own; limits = limits; store = nothing; view = fin.insert fin.empty own Up; delta = nothing }

-- the own clock: the number of own dots that were seen
abbrev pub own_clock : Replica → ℕ
own_clock r = count_of r.own r.store.seen

-- the own dot one above the own clock
abbrev pub fresh : Replica → Dot
fresh r = dot r.own (own_clock r + 1)

-- the own dot whose clock is the own clock: the last own one, if there is one
abbrev pub last : Replica → Dot
last r = dot r.own (own_clock r)

-- the own dots whose presence passes the test, by rising clock
abbrev pub own_dots : Replica → (Presence → Bool) → List Dot
own_dots r test = dots_of r.own test r.store.entries

-- the own dots of this process, topic and key; each replica keeps at most one
abbrev pub tracked_dots : Replica → ℕ → List ℕ → List ℕ → List Dot
tracked_dots r pid topic key = own_dots r (is_tracked_as pid topic key)

-- the own dots of this process, by rising clock
abbrev pub dots_of_process : Replica → ℕ → List Dot
dots_of_process r pid = own_dots r (λ p. p.pid == pid)

-- whether the name is known
abbrev pub is_known : Replica → ℕ → Bool
is_known r name = fin.contains_key r.view name

-- whether the name is known and up
abbrev pub is_online : Replica → ℕ → Bool
is_online r name = is_some_up (fin.get r.view name)

-- a join: the fresh dot was seen and has its entry, in the store and in the delta
abbrev pub joined : Presence → Replica → Replica
joined p r = record r { store = with_entry (fresh r) p r.store; delta = with_entry (fresh r) p r.delta }

-- the entry at the dot goes; the delta has the dot from then on, and no entry there
abbrev pub dropped : Dot → Replica → Replica
dropped d r = record r { store = without_entry d r.store; delta = with_removal d r.delta }

-- the fresh dot was seen, in the store and in the delta; the entries of both stay
abbrev pub ticked : Replica → Replica
ticked r = record r { store = with_dot (fresh r) r.store; delta = with_dot (fresh r) r.delta }

-- a leave of the own entry at the dot
abbrev pub left : Dot → Replica → Replica
left d r = ticked (dropped d r)

-- a leave for each of these dots, in turn
abbrev pub left_each : List Dot → Replica → Replica
left_each [] r = r
left_each (d ∷ ds) r = left_each ds (left d r)

-- the entries at these dots go, in turn
abbrev pub dropped_each : List Dot → Replica → Replica
dropped_each [] r = r
dropped_each (d ∷ ds) r = dropped_each ds (dropped d r)

-- an update: the old entry of this process, topic and key goes, and then the new one joins
abbrev pub updated : Presence → Replica → Replica
updated p r = joined p (dropped_each (tracked_dots r p.pid p.topic p.key) r)

-- the name, known from now on, has this status
abbrev pub with_status : ℕ → Status → Replica → Replica
with_status name s r = record r { view = fin.insert r.view name s }

-- nothing is held of the name: its dots were not seen, its entries are gone, and it is not known; the delta stays
abbrev pub forgotten : ℕ → Replica → Replica
forgotten name r = record r { store = part (is_other name) r.store; view = fin.remove r.view name }

-- what a broadcast sends: the delta
abbrev pub delta_message : Replica → Message
delta_message r = store_message r.own r.delta.seen r.delta.entries

-- the replica without its delta
abbrev pub without_delta : Replica → Replica
without_delta r = record r { delta = nothing }

-- what a request sends: the names that are known, the own among them
abbrev pub request_of : Replica → Message
request_of r = request_message r.own (known_of r.view)

-- the replica with this message as its delta
abbrev pub with_delta : Message → Replica → Replica
with_delta m r = record r { delta = store_of m }

-- the message can be the delta of the replica, which has none
pub record CanBeDelta (m : Message) (r : Replica) : Type 0 where
  pub nothing : r.delta ≡ nothing
  pub sender : m.sender ≡ r.own
  -- the message is no request
  pub no_request : m.asked ≡ None
  -- the dots of the message are own dots that were seen
  pub own : (d : Dot) → set.contains m.seen d ≡ true → (d.name ≡ r.own) × (set.contains r.store.seen d ≡ true)
  -- the entries of the message are live
  pub live : (d : Dot) (p : Presence) → fin.get m.entries d ≡ Some p → fin.get r.store.entries d ≡ Some p

-- a replica is stored as the tuple of its fields
abbrev pub replica_code : Coded Replica
replica_code =
    code_by (ℕ × (NodeLimits × (Store × (View × Store)))) (coded× coded_ℕ
    (coded× node_limits_code (coded× store_code (coded× view_code store_code)))) (λ r. (r.own, (r.limits, (r.store, (r.view, r.delta)))))
    (λ t. record { own = t.0; limits = t.1.0; store = t.1.1.0; view = t.1.1.1.0; delta = t.1.1.1.1 }) (λ _. refl)
