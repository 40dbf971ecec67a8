-- What holds of the machine, whatever is asked of it.
use Rattle.std.specs.Prelude.{◌≡◌, ◌⊎◌, ℕ, ◌+◌, ◌<◌, ◌≤◌, List, length, Some, None, Ok}
use Rattle.bench_core.specs.declared.reply.Reply.{Reply}
use Rattle.bench_core.specs.declared.reply.Reply.TheVariants.{Taken, Undone, Refused}
use Rattle.bench_core.specs.declared.fault.Fault.TheVariants.{HasConsequence, OutOfMemory}
use Rattle.bench_core.specs.Limits.{node_limits}
use Rattle.node_core.specs.Operations.{Operation}
use Rattle.bench_core.specs.Acts.{Action, Do, Undo, Back}
use Rattle.bench_core.specs.Clusters.{Cluster}
use Rattle.journal_core.specs.Journals.{Kept, NumbersRise, find_number, first_consequence, last_of, without, steps_before}
use Rattle.bench_core.specs.Runs.{runs}
use Rattle.bench_core.specs.Laws.{with_node_of}
use Rattle.bench_core.specs.Machine.{Config, State, opening_state, calls, call, reply_to, now, Machine, cluster_of, AnswersAs}

-- a state that some calls lead to
abbrev pub IsReached : Config → State → Type 0
IsReached c s = (asked : List (ℕ × Action)) × (s ≡ calls c opening_state asked)

-- a reached state's cluster is given by its remaining steps: these run without a fault from empty nodes, their numbers rise, and they and
-- the history together keep within the limit on acts
abbrev pub GivenLaw : Type 0
GivenLaw = (c : Config) (s : State) → IsReached c s →
    record {
      runs : (cluster : Cluster) × (now c s ≡ Ok cluster);
      rises : NumbersRise 0 s.remaining;
      fits : length s.history + length s.remaining ≤ c.limits.acts;
    }

-- a step that was taken can be taken back at once: if the next call asks for its undo, whoever asks, the undo is made, and the remaining
-- steps are those from before the step
abbrev pub BackLaw : Type 0
BackLaw =
    (c : Config) (s : State) (actor other k : ℕ) (operation : Operation) → IsReached c s → reply_to c s actor (Do operation) ≡ Taken k →
    record {
      undone : reply_to c (call c s actor (Do operation)) other (Undo k) ≡ Undone k;
      as_it_was : (call c (call c s actor (Do operation)) other (Undo k)).remaining ≡ s.remaining;
    }

-- an undo of a remaining step is refused only for a named consequence: it is made, and changes the step's node alone, to what that was
-- just before the step; or it is refused with the step's least direct consequence, and the remaining steps stay as they were
abbrev pub UndoLaw : Type 0
UndoLaw =
    (c : Config) (s : State) (actor : ℕ) (step : Kept) (cluster : Cluster) → IsReached c s →
    find_number s.remaining step.number ≡ Some step → now c s ≡ Ok cluster →
    record {
      undone : reply_to c s actor (Undo step.number) ≡ Undone step.number;
      node_alone : (old : Cluster) × (runs (node_limits c.limits) c.nodes (steps_before s.remaining step.number) ≡ Ok old) ×
          (now c (call c s actor (Undo step.number)) ≡ Ok (with_node_of step.node old cluster));
    }
    ⊎ record {
      held_by : ℕ;
      held : first_consequence s.remaining step.number ≡ Some held_by;
      refused : reply_to c s actor (Undo step.number) ≡ Refused (HasConsequence step.number held_by);
      as_it_was : (call c s actor (Undo step.number)).remaining ≡ s.remaining;
    }

-- how an undo of step k ends if it is the next call: the step is taken back, or memory was refused and nothing changed; the bench was
-- `old` before the step, `new` after it, and is `later` after the undo
pub data UndoneAtOnce (old new : Machine) (k : ℕ) (reply : Reply) (later : Machine) : Type 0 where
  TakenBack : reply ≡ Undone k → later.state.remaining ≡ old.state.remaining → cluster_of later ≡ cluster_of old →
      UndoneAtOnce old new k reply later
  NoMemory : reply ≡ Refused OutOfMemory → later ≡ new → UndoneAtOnce old new k reply later

-- if the call took a step, the next call can take the step back, whoever asks for it, unless memory is refused
abbrev pub CanBeTakenBack : Machine → Reply → Machine → Type 0
CanBeTakenBack old (Taken k) new =
    (other : ℕ) (reply : Reply) (later : Machine) → AnswersAs new other (Undo k) reply later → UndoneAtOnce old new k reply later
CanBeTakenBack old _ new = Unit {0}

-- the cluster has changed at this node alone, to what the node was just before its step k
pub record NodeGoesBack (old : Machine) (k node : ℕ) (new : Machine) : Type 0 where
  pub cluster : Cluster
  pub earlier : Cluster
  pub was : cluster_of old ≡ Ok cluster
  pub just_before : runs (node_limits old.limits) (length old.names) (steps_before old.state.remaining k) ≡ Ok earlier
  pub becomes : cluster_of new ≡ Ok (with_node_of node earlier cluster)

-- how the undo of remaining step k ends: it is made, and the step's node alone goes back; or it is refused with the step's least direct
-- consequence, and neither cluster nor remaining steps change; or memory was refused, and nothing changed
pub data UndoEnds (old : Machine) (k : ℕ) (reply : Reply) (new : Machine) : Type 0 where
  Made : first_consequence old.state.remaining k ≡ None → reply ≡ Undone k → new.state.remaining ≡ without old.state.remaining k →
      (step : Kept) → find_number old.state.remaining k ≡ Some step → NodeGoesBack old k step.node new → UndoEnds old k reply new
  IsHeld : (held_by : ℕ) → first_consequence old.state.remaining k ≡ Some held_by → reply ≡ Refused (HasConsequence k held_by) →
      new.state.remaining ≡ old.state.remaining → cluster_of new ≡ cluster_of old → UndoEnds old k reply new
  Unmade : reply ≡ Refused OutOfMemory → new ≡ old → UndoEnds old k reply new

-- an undo of a remaining step, or of the last step of a node, is refused only for a named consequence, or because memory was refused
abbrev pub RefusedOnlyForConsequence : Machine → Action → Reply → Machine → Type 0
RefusedOnlyForConsequence old (Do operation) reply new = Unit {0}
RefusedOnlyForConsequence old (Undo k) reply new = (step : Kept) → find_number old.state.remaining k ≡ Some step → UndoEnds old k reply new
RefusedOnlyForConsequence old (Back node) reply new =
    (k : ℕ) → node < length old.names → last_of old.state.remaining node ≡ Some k → UndoEnds old k reply new
