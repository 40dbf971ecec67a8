-- What is asked by words: all outcomes, or the run of one.
use Rattle.std.specs.Prelude.{◌≡◌, ◌<◌, ◌≤◌, ◌+◌, ℕ, List, [], Some, None, length}
use Rattle.payload_core.specs.Messages.{numbered}
use Rattle.bench_core.specs.Limits.{node_limits}
use Rattle.bench_core.specs.Machine.{Machine}
use Rattle.network_core.specs.Room.{made}
use Rattle.explore_network.specs.Explorations.{AreDistinct, AreTooMany, BeginsAsRecorded, InventsNothing, MissesNothing}
use Rattle.explore_network.specs.Questions.{Question as Plain}
use Rattle.explore_network.specs.Walks.{Outcome}
use Rattle.transcript_core.specs.Runs.{run_text}
use Rattle.explore_report.specs.Asked.{Asks, IsUnasked}
use Rattle.explore_report.specs.Texts.{explore_text, run_of}
use Rattle.explore_report.specs.declared.question.Question.{Question}
use Rattle.explore_report.specs.declared.report_fault.ReportFault.{ReportFault}
use Rattle.explore_report.specs.declared.report_fault.ReportFault.TheVariants as faults

-- the list has the outcomes of a machine's remaining steps: each run of the network leads to what one of them shows,
-- each has such a run beside it, no two show the same, and the first is the recorded run's
pub record AreOutcomes (m : Machine) (q : Plain) (lost again : ℕ) (os : List Outcome) : Type 0 where
  pub misses_nothing : MissesNothing m q lost again os
  pub invents_nothing : InventsNothing m lost again os
  pub distinct : AreDistinct q os
  pub first : BeginsAsRecorded m os

-- the list has the outcomes that the question asks for
pub record HasOutcomes (m : Machine) (question : Question) (q : Plain) (os : List Outcome) : Type 0 where
  pub asks : Asks m question.about q
  pub outcomes : AreOutcomes m q question.lost question.again os

-- the text tells the outcomes that the question asks for, and some number of states, which is no greater than may be
-- kept
pub record TellsOutcomes (m : Machine) (question : Question) (text : List ℕ) : Type 0 where
  pub q : Plain
  pub outcomes : List Outcome
  pub has : HasOutcomes m question q outcomes
  pub states : ℕ
  pub few : states ≤ question.states
  pub told : text ≡ explore_text m q outcomes states

-- the text is the run of an outcome as a script: of the outcome with this number among those found
pub record IsRun (m : Machine) (question : Question) (number : ℕ) (text : List ℕ) : Type 0 where
  pub q : Plain
  pub outcomes : List Outcome
  pub has : HasOutcomes m question q outcomes
  pub o : Outcome
  pub told : numbered outcomes number ≡ Some o
  pub script : text ≡ run_text [] m.names (run_of m o)

-- there are `there_are` outcomes, and none has this number
pub record HasNoOutcome (m : Machine) (question : Question) (number there_are : ℕ) : Type 0 where
  pub q : Plain
  pub outcomes : List Outcome
  pub has : HasOutcomes m question q outcomes
  pub count : length outcomes ≡ there_are
  pub none : numbered outcomes number ≡ None

-- why the outcomes aren't told: there are more states than may be kept; the steps make more entries than a node may hold; a run
-- could have too many steps; or memory was refused
abbrev pub StopsShort : Machine → Question → Plain → ReportFault → Type 0
StopsShort m question q (faults.TooManyStates states outcomes) =
    (states ≡ question.states) × AreTooMany m q question.lost question.again question.states outcomes
StopsShort m question q faults.MayFill = (node_limits m.limits).entries < made m.state.remaining
StopsShort m question q faults.TooManySteps = 3000 < length m.state.remaining + question.again
StopsShort m question q faults.OutOfMemory = Unit {0}
StopsShort m question q _ = ⊥

-- why there is no text: what is asked stands for no question; or it does, and the outcomes aren't told
abbrev pub Refuses : Machine → Question → ReportFault → Type 0
Refuses m question faults.NoSuchNode = IsUnasked m question.about faults.NoSuchNode
Refuses m question faults.NoWord = IsUnasked m question.about faults.NoWord
Refuses m question faults.OutOfMemory = Unit {0}
Refuses m question fault = (q : Plain) × (Asks m question.about q × StopsShort m question q fault)

-- why there is no run: what is asked stands for no question; the outcomes aren't told; or there is no outcome with this number
abbrev pub RefusesRun : Machine → Question → ℕ → ReportFault → Type 0
RefusesRun m question number (faults.NoSuchOutcome there_are) = HasNoOutcome m question number there_are
RefusesRun m question number fault = Refuses m question fault
