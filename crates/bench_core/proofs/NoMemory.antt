-- Want of memory is no reply of the machine, since it is no fault of a step.
use Rattle.std.proofs.Common.{◌≡◌, ◌≢◌, ℕ, ◌+◌, ◌==◌, ◌||◌, not, nat_lt, Bool, true, false, if◌then◌else◌, List, [], ◌∷◌, length, slice_get, Option, Some, None, Result, Ok, Err, refl, ap}
use Rattle.std.specs.List.{list_all}
use Rattle.payload_core.specs.Results.{◌>>=◌}
use Rattle.dots_core.specs.Names.{Names}
use Rattle.payload_core.specs.Messages.{Message}
use Rattle.replica_core.specs.declared.replica_fault.ReplicaFault.{ReplicaFault}
use Rattle.replica_core.specs.declared.replica_fault.ReplicaFault.TheVariants as faults
use Rattle.replica_core.specs.Refusals.{first_of, has_dots}
use Rattle.node_core.specs.declared.step_fault.StepFault.{StepFault}
use Rattle.node_core.specs.declared.step_fault.StepFault.TheVariants as step_faults
use Rattle.node_core.specs.Faults.{step_fault_of}
use Rattle.node_core.specs.Operations.{Operation, Join, Leave, LeaveAll, Update, Broadcast, Extract, Deliver, Request, Answer, Up, Down, Permdown, named_in}
use Rattle.node_core.specs.Nodes.{Node, unless, is_outbox_full, broadcast, deliver, deliver_unasked, answer, answer_asked, take}
use Rattle.journal_core.specs.Journals.{Kept, find_number, first_consequence, last_of}
use Rattle.bench_core.specs.declared.reply.Reply.TheVariants.{Refused}
use Rattle.bench_core.specs.declared.fault.Fault.{Fault}
use Rattle.bench_core.specs.declared.fault.Fault.TheVariants.{UnknownNode, HistoryFull, NoSuchStep, OutOfMemory}
use Rattle.bench_core.specs.Acts.{Do, Undo, Back}
use Rattle.bench_core.specs.Clusters.{Cluster, opening_of, fault_of, of_node, node_step, with_node, step, message_for}
use Rattle.bench_core.specs.Limits.{node_limits}
use Rattle.bench_core.specs.Machine.{Config, State, given, free_places, unheld, undo_found, undo_reply, back_reply, step_reply, knows, do_reply, now}
use Rattle.bench_core.specs.Runs.{then_runs}
use Rattle.bench_core.specs.Replays.{NoMemoryLaw}

-- a step of a node

abbrev NoMemory : Result Node StepFault → Type 0
NoMemory r = r ≢ Err step_faults.OutOfMemory

abbrev Known : ReplicaFault → Type 0
Known f = step_fault_of f ≢ step_faults.OutOfMemory

unless_one : (b : Bool) (f : ReplicaFault) (n : Node) → Known f → NoMemory (unless (first_of ((b, f) ∷ [])) n)
unless_one true f n known = λ e. known cc
unless_one false f n known = λ e. cc

unless_two : (b c : Bool) (f g : ReplicaFault) (n : Node) → Known f → Known g → NoMemory (unless (first_of ((b, f) ∷ (c, g) ∷ [])) n)
unless_two true c f g n known also = λ e. known cc
unless_two false c f g n known also = unless_one c g n also

unless_three : (b c d : Bool) (f g h : ReplicaFault) (n : Node) → Known f → Known g → Known h →
    NoMemory (unless (first_of ((b, f) ∷ (c, g) ∷ (d, h) ∷ [])) n)
unless_three true c d f g h n known also too = λ e. known cc
unless_three false c d f g h n known also too = unless_two c d g h n also too

full_known : (b : Bool) (n : Node) → NoMemory (if b then Err step_faults.OutboxFull else Ok n)
full_known true n e = cc
full_known false n e = cc

take_known : (n : Node) (s : Operation) (m : Option Message) → NoMemory (take n s m)
take_known n (Join p) m = unless_three _ _ _ faults.AlreadyTracked faults.EntriesFull faults.ClockFull _ (λ e. cc) (λ e. cc) (λ e. cc)
take_known n (Leave pid topic key) m = unless_two _ _ faults.NotTracked faults.ClockFull _ (λ e. cc) (λ e. cc)
take_known n (LeaveAll pid) m = unless_two _ _ faults.NotTracked faults.ClockFull _ (λ e. cc) (λ e. cc)
take_known n (Update p) m = unless_two _ _ faults.NotTracked faults.ClockFull _ (λ e. cc) (λ e. cc)
take_known n Broadcast m = go (has_dots n.replica.delta.seen)
  where
    go : (b : Bool) → NoMemory (broadcast b n)
    go true = full_known (is_outbox_full n) _
    go false = λ e. cc
take_known n (Extract names) m = full_known (is_outbox_full n) _
take_known n (Deliver sender number) m = go (sender == n.replica.own) m
  where
    asking : (asked : Option Names) (x : Message) → NoMemory (deliver_unasked asked n x)
    asking None x = unless_one _ faults.EntriesFull _ (λ e. cc)
    asking (Some names) x = λ e. cc

    go : (b : Bool) (o : Option Message) → NoMemory (if b then Err step_faults.OwnMessage else deliver n o)
    go true o = λ e. cc
    go false None = λ e. cc
    go false (Some x) = asking x.asked x
take_known n Request m = full_known (is_outbox_full n) _
take_known n (Answer sender number) m = go (sender == n.replica.own) m
  where
    asking : (asked : Option Names) → NoMemory (answer_asked asked n)
    asking None = λ e. cc
    asking (Some names) = full_known (is_outbox_full n) _

    go : (b : Bool) (o : Option Message) → NoMemory (if b then Err step_faults.OwnMessage else answer n o)
    go true o = λ e. cc
    go false None = λ e. cc
    go false (Some x) = asking x.asked
take_known n (Up name) m = unless_one _ faults.OwnReplica _ (λ e. cc)
take_known n (Down name) m = unless_two _ _ faults.OwnReplica faults.NotKnown _ (λ e. cc) (λ e. cc)
take_known n (Permdown name) m = unless_three _ _ _ faults.OwnReplica faults.NotKnown faults.NotDown _ (λ e. cc) (λ e. cc) (λ e. cc)

-- a step of a cluster

fault_known : (f : StepFault) → f ≢ step_faults.OutOfMemory → fault_of f ≢ OutOfMemory
fault_known step_faults.OwnReplica other e = cc
fault_known step_faults.NotKnown other e = cc
fault_known step_faults.NotDown other e = cc
fault_known step_faults.AlreadyTracked other e = cc
fault_known step_faults.NotTracked other e = cc
fault_known step_faults.NothingToSend other e = cc
fault_known step_faults.EntriesFull other e = cc
fault_known step_faults.ClockFull other e = cc
fault_known step_faults.OwnMessage other e = cc
fault_known step_faults.NoSuchMessage other e = cc
fault_known step_faults.NotRequest other e = cc
fault_known step_faults.IsRequest other e = cc
fault_known step_faults.OutboxFull other e = cc
fault_known step_faults.OutOfMemory other e = other refl

pub step_known : (c : Cluster) (n : ℕ) (s : Operation) → step c n s ≢ Err OutOfMemory
step_known c n s = found (slice_get c n)
  where
    took : (r : Result Node StepFault) → NoMemory r → with_node c n (of_node r) ≢ Err OutOfMemory
    took (Ok x) other = λ e. cc
    took (Err f) other = λ e. fault_known f (λ same. other (ap Err same)) cc

    tested : (x : Node) (b : Bool) → with_node c n (if b then of_node (take x s (message_for c s)) else Err UnknownNode) ≢ Err OutOfMemory
    tested x true = took (take x s (message_for c s)) (take_known x s (message_for c s))
    tested x false = λ e. cc

    found : (o : Option Node) → with_node c n (node_step (length c) o s (message_for c s)) ≢ Err OutOfMemory
    found None = λ e. cc
    found (Some x) = tested x (list_all (λ k. nat_lt k (length c)) (named_in s))

-- a run

runs_known : (r : Result Cluster Fault) (ks : List Kept) → r ≢ Err OutOfMemory → then_runs r ks ≢ Err OutOfMemory
runs_known (Err f) ks other = other
runs_known (Ok c) [] other = other
runs_known (Ok c) (k ∷ ks) other = runs_known (step c k.node k.step) ks (step_known c k.node k.step)

-- a call

module _ (c : Config) (s : State) (actor : ℕ) where
  undo_known : (k : ℕ) → undo_reply s k ≢ Refused OutOfMemory
  undo_known k = tested ((k == 0) || nat_lt (given s.history) k)
    where
      held : (o : Option ℕ) → unheld k o ≢ Refused OutOfMemory
      held None = λ e. cc
      held (Some j) = λ e. cc

      found : (o : Option Kept) → undo_found s.remaining k o ≢ Refused OutOfMemory
      found None = λ e. cc
      found (Some x) = held (first_consequence s.remaining k)

      tested : (b : Bool) → (if b then Refused NoSuchStep else undo_found s.remaining k (find_number s.remaining k)) ≢ Refused OutOfMemory
      tested true = λ e. cc
      tested false = found (find_number s.remaining k)

  do_known : (operation : Operation) → do_reply c s actor operation ≢ Refused OutOfMemory
  do_known operation = known (not (knows c actor operation))
    where
      replied : (r : Result Cluster Fault) → r ≢ Err OutOfMemory → step_reply (given s.history + 1) r ≢ Refused OutOfMemory
      replied (Ok d) other = λ e. cc
      replied (Err f) other = λ e. let same : f ≡ OutOfMemory = cc in other (ap Err same)

      run : (r : Result Cluster Fault) → r ≢ Err OutOfMemory →
          step_reply (given s.history + 1) (r >>= λ cluster. step cluster actor operation) ≢ Refused OutOfMemory
      run (Ok cluster) other = replied (step cluster actor operation) (step_known cluster actor operation)
      run (Err f) other = replied (Err f) other

      room : (b : Bool) → (if b then Refused HistoryFull else step_reply (given s.history + 1)
          (now c s >>= λ cluster. step cluster actor operation)) ≢ Refused OutOfMemory
      room true = λ e. cc
      room false = run (now c s) (runs_known (Ok (opening_of (node_limits c.limits) c.nodes)) s.remaining (λ e. cc))

      known : (b : Bool) → (if b then Refused UnknownNode else
          (if nat_lt (free_places c s) 2 then Refused HistoryFull else step_reply (given s.history + 1)
          (now c s >>= λ cluster. step cluster actor operation))) ≢ Refused OutOfMemory
      known true = λ e. cc
      known false = room (nat_lt (free_places c s) 2)

pub no_memory : NoMemoryLaw
no_memory c s actor (Do operation) = do_known c s actor operation
no_memory c s actor (Undo k) = undo_known c s actor k
no_memory c s actor (Back node) = tested (nat_lt node c.nodes)
  where
    last : (o : Option ℕ) → back_reply s o ≢ Refused OutOfMemory
    last None = λ e. cc
    last (Some k) = undo_known c s actor k

    tested : (b : Bool) → (if b then back_reply s (last_of s.remaining node) else Refused UnknownNode) ≢ Refused OutOfMemory
    tested true = last (last_of s.remaining node)
    tested false = λ e. cc
