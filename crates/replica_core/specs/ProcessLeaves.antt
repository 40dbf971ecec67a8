-- Leaves of every entry of a process, and what puts the entries back.
use Rattle.std.specs.Prelude.{◌≡◌, ◌≤◌, ◌-◌, ℕ, All, List, length, None}
use Rattle.dots_core.specs.Dots.{IsValid}
use Rattle.payload_core.specs.EntryLists.{pairs}
use Rattle.store_core.specs.LeftEntries.{Left}
use Rattle.store_core.specs.EntryMoves.{AreNew}
use Rattle.store_core.specs.LeavesTogether.{entries_left, lefts_of, restored_delta_each, restored_each, unsent_left}
use Rattle.replica_core.specs.Replicas.{Replica, dots_of_process, left_each, own_clock}
use Rattle.replica_core.specs.Refusals.{leave_all_refusal}
use Rattle.replica_core.specs.Invariant.{IsReplica}

-- the replica with what left, and without one of its last own dots for each entry that left
abbrev pub with_lefts : List Left → Replica → Replica
with_lefts ls r = record r {
  store = restored_each r.own (own_clock r - length ls) ls r.store;
  delta = restored_delta_each r.own (own_clock r - length ls) ls r.delta;
}

-- an accepted leave of every entry of a process takes replica a to replica b, and the list has what stood in a at the entries' dots
pub record IsLeaveAll (ls : List Left) (a b : Replica) : Type 0 where
  pub pid : ℕ
  pub accepted : leave_all_refusal a pid ≡ None
  pub stood : ls ≡ lefts_of (dots_of_process a pid) a.store.entries a.delta.entries a.delta.seen
  pub gives : b ≡ left_each (dots_of_process a pid) a

-- all that left can be put back into replica b, which gives replica a
pub record AllRestorable (ls : List Left) (b a : Replica) : Type 0 where
  pub earlier : IsReplica a
  pub back : with_lefts ls b ≡ a
  pub some : length ls ≤ own_clock b
  pub valid : All (λ (l : Left). IsValid l.entry.dot) ls
  pub new : AreNew (pairs (entries_left ls)) b.store.entries
  pub new_in_delta : AreNew (pairs (unsent_left ls)) b.delta.entries
