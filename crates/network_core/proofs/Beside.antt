-- A step of a node, and the same step after a delivery at the node. Here alone the steps are told apart.
use Rattle.std.proofs.Common.{◌≡◌, ℕ, ◌+◌, ◌==◌, not, Bool, true, false, if◌then◌else◌, List, [], ◌∷◌, Option, Some, None, Result, Ok, Err, refl, sym, subst}
use Rattle.std.specs.FinMap as fin
use Rattle.payload_core.specs.Messages.{Message}
use Rattle.payload_core.specs.Presences.{Presence}
use Rattle.replica_core.specs.declared.replica_fault.ReplicaFault.{ReplicaFault}
use Rattle.replica_core.specs.declared.replica_fault.ReplicaFault.TheVariants as causes
use Rattle.replica_core.specs.declared.status.Status.TheVariants as statuses
use Rattle.replica_core.specs.Replicas.{Replica, is_known, joined, left_each, tracked_dots, dots_of_process, updated, with_status, delta_message, without_delta, request_of}
use Rattle.replica_core.specs.Deliveries.{merged}
use Rattle.replica_core.specs.Refusals.{first_of, is_tracked, are_too_many, is_clock_full, leave_refusal, leave_all_refusal, down_refusal, up_refusal, has_dots}
use Rattle.node_core.specs.declared.step_fault.StepFault.{StepFault}
use Rattle.node_core.specs.declared.step_fault.StepFault.TheVariants.{EntriesFull, NothingToSend, OutboxFull}
use Rattle.node_core.specs.Faults.{step_fault_of}
use Rattle.node_core.specs.Operations.{Operation, Join, Leave, LeaveAll, Update, Broadcast, Extract, Deliver, Request, Answer, Up, Down, Permdown}
use Rattle.node_core.specs.Nodes.{Node, with_replica, with_sent, is_outbox_full, unless, broadcast, take}
use Rattle.network_core.specs.OwnSteps.{OwnLaw}
use Rattle.network_core.proofs.Own.{own_holds}
use Rattle.network_core.specs.EasySteps.{is_always_easy}

-- the node after a delivery
abbrev pub after : Message → Node → Node
after m x = with_replica x (merged m x.replica)

-- a step of a node came to this, and to that after a delivery: either was refused for the entries, or both alike, or both
-- were taken, and the delivery leads from one node to the other
pub data Beside (m : Message) (one two : Result Node StepFault) : Type 0 where
  IsFull : one ≡ Err EntriesFull → Beside m one two
  IsFullAfter : two ≡ Err EntriesFull → Beside m one two
  Refused : (fault : StepFault) → one ≡ Err fault → two ≡ Err fault → Beside m one two
  Taken : (y : Node) → one ≡ Ok y → two ≡ Ok (after m y) → Beside m one two

-- the same cause, or none
plain : (m : Message) (x : Node) (z : Replica) (cause : Option ReplicaFault) → Beside m (unless cause (with_replica x z)) (unless cause (with_replica x (merged m z)))
plain m x z None = Taken (with_replica x z) refl refl
plain m x z (Some fault) = Refused (step_fault_of fault) refl refl

-- where the entries may be too many in one order
full : (m : Message) (x : Node) (z : Replica) (t a b c : Bool) →
    Beside m (unless (first_of ((t, causes.AlreadyTracked) ∷ (a, causes.EntriesFull) ∷ (c, causes.ClockFull) ∷ [])) (with_replica x z))
    (unless (first_of ((t, causes.AlreadyTracked) ∷ (b, causes.EntriesFull) ∷ (c, causes.ClockFull) ∷ [])) (with_replica x (merged m z)))
full m x z true a b c = Refused (step_fault_of causes.AlreadyTracked) refl refl
full m x z false true b c = IsFull refl
full m x z false false true c = IsFullAfter refl
full m x z false false false true = Refused (step_fault_of causes.ClockFull) refl refl
full m x z false false false false = Taken (with_replica x z) refl refl

sent : (m : Message) (x y : Node) (b : Bool) → Beside m (if b then Err OutboxFull else Ok y) (if b then Err OutboxFull else Ok (after m y))
sent m x y true = Refused OutboxFull refl refl
sent m x y false = Taken y refl refl

module _ (m : Message) (x : Node) where
  abbrev r : Replica
  r = x.replica

  abbrev law : OwnLaw
  law = own_holds

  join : (p : Presence) → Beside m (take x (Join p) None) (take (after m x) (Join p) None)
  join p =
      let l = law.join m r p in
      subst (λ (u : Result Node StepFault). Beside m (take x (Join p) None) u)
      (λ i. unless (first_of ((sym l.tracked i, causes.AlreadyTracked) ∷ (are_too_many r (fin.len (merged m r).store.entries + 1), causes.EntriesFull)
      ∷ (sym l.full i, causes.ClockFull) ∷ [])) (with_replica x (sym l.same i)))
      (full m x (joined p r) (is_tracked r p.pid p.topic p.key) (are_too_many r (fin.len r.store.entries + 1))
      (are_too_many r (fin.len (merged m r).store.entries + 1)) (is_clock_full r 1))

  leave : (pid : ℕ) (topic key : List ℕ) → Beside m (take x (Leave pid topic key) None) (take (after m x) (Leave pid topic key) None)
  leave pid topic key =
      let l = law.leave m r pid topic key in
      subst (λ (u : Result Node StepFault). Beside m (take x (Leave pid topic key) None) u)
      (λ i. unless (sym l.refused i) (with_replica x (sym l.same i)))
      (plain m x (left_each (tracked_dots r pid topic key) r) (leave_refusal r pid topic key))

  leave_all : (pid : ℕ) → Beside m (take x (LeaveAll pid) None) (take (after m x) (LeaveAll pid) None)
  leave_all pid =
      let l = law.leave_all m r pid in
      subst (λ (u : Result Node StepFault). Beside m (take x (LeaveAll pid) None) u)
      (λ i. unless (sym l.refused i) (with_replica x (sym l.same i)))
      (plain m x (left_each (dots_of_process r pid) r) (leave_all_refusal r pid))

  update : (p : Presence) → Beside m (take x (Update p) None) (take (after m x) (Update p) None)
  update p =
      let l = law.leave m r p.pid p.topic p.key in
      let same = law.update m r p in
      subst (λ (u : Result Node StepFault). Beside m (take x (Update p) None) u)
      (λ i. unless (sym l.refused i) (with_replica x (sym same i)))
      (plain m x (updated p r) (leave_refusal r p.pid p.topic p.key))

  unknown : (name : ℕ) (own : Bool) →
      Beside m (unless (first_of ((own, causes.OwnReplica) ∷ (true, causes.NotKnown) ∷ [])) (with_replica x (with_status name statuses.Down r)))
      (unless (first_of ((own, causes.OwnReplica) ∷ (true, causes.NotKnown) ∷ [])) (with_replica x (with_status name statuses.Down (merged m r))))
  unknown name true = Refused (step_fault_of causes.OwnReplica) refl refl
  unknown name false = Refused (step_fault_of causes.NotKnown) refl refl

  down : (name : ℕ) (b : Bool) → is_known r name ≡ b → Beside m (take x (Down name) None) (take (after m x) (Down name) None)
  down name true known =
      subst (λ (u : Result Node StepFault). Beside m (take x (Down name) None) u)
      (λ i. unless (down_refusal r name) (with_replica x (sym (law.status m r name statuses.Down known) i)))
      (plain m x (with_status name statuses.Down r) (down_refusal r name))
  down name false known =
      subst (λ (k : Bool). Beside m (unless (first_of ((name == r.own, causes.OwnReplica) ∷ (not k, causes.NotKnown) ∷ [])) (with_replica x (with_status name statuses.Down r)))
      (unless (first_of ((name == r.own, causes.OwnReplica) ∷ (not k, causes.NotKnown) ∷ [])) (with_replica x (with_status name statuses.Down (merged m r)))))
      (sym known) (unknown name (name == r.own))

  send : (b : Bool) → Beside m (broadcast b x) (broadcast b (after m x))
  send true = sent m x (with_sent x (delta_message r) (without_delta r)) (is_outbox_full x)
  send false = Refused NothingToSend refl refl

  pub own_beside : (s : Operation) → is_always_easy s ≡ true → Beside m (take x s None) (take (after m x) s None)
  own_beside (Join p) h = join p
  own_beside (Leave pid topic key) h = leave pid topic key
  own_beside (LeaveAll pid) h = leave_all pid
  own_beside (Update p) h = update p
  own_beside Broadcast h = send (has_dots r.delta.seen)
  own_beside Request h = sent m x (with_sent x (request_of r) r) (is_outbox_full x)
  own_beside (Down name) h = down name (is_known r name) refl
  own_beside (Extract names) h = absurd (cc)
  own_beside (Deliver sender number) h = absurd (cc)
  own_beside (Answer sender number) h = absurd (cc)
  own_beside (Up name) h = absurd (cc)
  own_beside (Permdown name) h = absurd (cc)

  -- an up of a name that is known
  pub up_beside : (name : ℕ) → is_known r name ≡ true → Beside m (take x (Up name) None) (take (after m x) (Up name) None)
  up_beside name known =
      subst (λ (u : Result Node StepFault). Beside m (take x (Up name) None) u)
      (λ i. unless (up_refusal r name) (with_replica x (sym (law.status m r name statuses.Up known) i)))
      (plain m x (with_status name statuses.Up r) (up_refusal r name))
