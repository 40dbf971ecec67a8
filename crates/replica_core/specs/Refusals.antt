-- When a replica refuses a call: the first cause, in order.
use Rattle.std.specs.Prelude.{◌≡◌, ◌≢◌, ℕ, ◌+◌, ◌==◌, not, nat_lt, Bool, true, false, List, [], ◌∷◌, length, Option, None, Some, Result, Ok, Err, if◌then◌else◌}
use Rattle.std.specs.FinSet as set
use Rattle.std.specs.FinMap as fin
use Rattle.dots_core.specs.declared.dot.Dot.{Dot}
use Rattle.dots_core.specs.Dots.{Dots}
use Rattle.payload_core.specs.Messages.{Message}
use Rattle.replica_core.specs.declared.replica_fault.ReplicaFault.{ReplicaFault}
use Rattle.replica_core.specs.declared.replica_fault.ReplicaFault.TheVariants.{OwnReplica, NotKnown, NotDown, AlreadyTracked}
use Rattle.replica_core.specs.declared.replica_fault.ReplicaFault.TheVariants.{NotTracked, EntriesFull, ClockFull, OutOfMemory}
use Rattle.replica_core.specs.Replicas.{Replica, own_clock, tracked_dots, dots_of_process, is_known, is_online}
use Rattle.replica_core.specs.Deliveries.{merged}

-- the cause of the first test that holds
abbrev pub first_of : {F : Type 0} → List (Bool × F) → Option F
first_of [] = None
first_of (test ∷ tests) = if test.0 then Some test.1 else first_of tests

-- the call succeeds only if there is no cause against it, and its fault is the cause, unless the fault is want of memory
abbrev pub IsRefusedFor : {X : Type 0} → Option ReplicaFault → Result X ReplicaFault → Type 0
IsRefusedFor cause (Ok _) = cause ≡ None
IsRefusedFor cause (Err fault) = fault ≢ OutOfMemory → cause ≡ Some fault

-- whether there is a dot in the list
abbrev pub is_some_dot : List Dot → Bool
is_some_dot [] = false
is_some_dot (d ∷ ds) = true

-- whether an own entry is of this process, topic and key
abbrev pub is_tracked : Replica → ℕ → List ℕ → List ℕ → Bool
is_tracked r pid topic key = is_some_dot (tracked_dots r pid topic key)

-- whether `entries` entries would pass the limit
abbrev pub are_too_many : Replica → ℕ → Bool
are_too_many r entries = nat_lt r.limits.entries entries

-- whether `more` own dots would pass the limit of the own clock
abbrev pub is_clock_full : Replica → ℕ → Bool
is_clock_full r more = nat_lt r.limits.clock (own_clock r + more)

-- why a call is refused, if it is: the causes in the order in which they are looked for

abbrev pub join_refusal : Replica → ℕ → List ℕ → List ℕ → Option ReplicaFault
join_refusal r pid topic key =
    first_of ((is_tracked r pid topic key, AlreadyTracked) ∷ (are_too_many r (fin.len r.store.entries + 1), EntriesFull) ∷ (is_clock_full r 1, ClockFull) ∷ [])

-- an update is refused as a leave is
abbrev pub leave_refusal : Replica → ℕ → List ℕ → List ℕ → Option ReplicaFault
leave_refusal r pid topic key = first_of ((not (is_tracked r pid topic key), NotTracked) ∷ (is_clock_full r 1, ClockFull) ∷ [])

abbrev pub leave_all_refusal : Replica → ℕ → Option ReplicaFault
leave_all_refusal r pid =
    first_of ((not (is_some_dot (dots_of_process r pid)), NotTracked) ∷ (is_clock_full r (length (dots_of_process r pid)), ClockFull) ∷ [])

abbrev pub merge_refusal : Replica → Message → Option ReplicaFault
merge_refusal r m = first_of ((are_too_many r (fin.len (merged m r).store.entries), EntriesFull) ∷ [])

abbrev pub up_refusal : Replica → ℕ → Option ReplicaFault
up_refusal r name = first_of ((name == r.own, OwnReplica) ∷ [])

abbrev pub down_refusal : Replica → ℕ → Option ReplicaFault
down_refusal r name = first_of ((name == r.own, OwnReplica) ∷ (not (is_known r name), NotKnown) ∷ [])

abbrev pub permdown_refusal : Replica → ℕ → Option ReplicaFault
permdown_refusal r name = first_of ((name == r.own, OwnReplica) ∷ (not (is_known r name), NotKnown) ∷ (is_online r name, NotDown) ∷ [])

-- whether there is a dot in the set
abbrev pub has_dots : Dots → Bool
has_dots s = not (set.len s == 0)
