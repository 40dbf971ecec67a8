-- How the online list of a node differs between a machine and the machine after the undo of one of its steps.
use Rattle.std.specs.Prelude.{◌≡◌, ℕ, ◌++◌, nat_lt, if◌then◌else◌, length, List, Option, Some, None}
use Rattle.journal_core.specs.Journals.{Kept, find_number, first_consequence, last_of, without}
use Rattle.node_core.specs.Nodes.{Node}
use Rattle.node_core.specs.Inverses.{Inverse, LeadsBack}
use Rattle.bench_core.specs.Acts.{Action, Do, Undo, Back}
use Rattle.bench_core.specs.Machine.{Machine, with_state}
use Rattle.bench_core.specs.NameList.{Texts}
use Rattle.diff_core.specs.Rows.{Row}
use Rattle.diff_core.specs.Diffs.{alone}
use Rattle.diff_core.specs.Sorting.{online_of}
use Rattle.report_core.specs.Rows.{change_lines}
use Rattle.report_core.specs.Shown.{rows_at}

-- the rows that left and those that joined, from the first of two lists to the second
pub record Differ (before after left joined : List Row) : Type 0 where
  pub left_is : left ≡ alone before after
  pub joined_is : joined ≡ alone after before

-- the machine without step n
abbrev pub without_step : Machine → ℕ → Machine
without_step m n = with_state m (record { history = m.state.history; remaining = without m.state.remaining n })

-- the rows that left and joined between two online lists: that of the node to which the inverse leads back, and then that of node b
abbrev pub TellsInverse : Inverse → Node → List Row → List Row → Type 0
TellsInverse inverse b left joined = (a : Node) → LeadsBack inverse b a → Differ (online_of a.replica) (online_of b.replica) left joined

-- if step n remains: the rows that left and joined between two online lists of its node: what the other steps give, and then what all give
abbrev pub TellsStep : Machine → ℕ → List Row → List Row → Type 0
TellsStep m n left joined =
    (step : Kept) → find_number m.state.remaining n ≡ Some step → Differ (rows_at (without_step m n) step.node) (rows_at m step.node) left joined

-- the lines that are put behind a text are those of rows that left and joined, and these rows pass a test
pub record PutsRows (names : Texts) (old new : List ℕ) (tells : List Row → List Row → Type 0) : Type 0 where
  pub left : List Row
  pub joined : List Row
  pub told : tells left joined
  pub text : new ≡ old ++ change_lines names left joined

-- the step whose undo a call asks for; none if it asks for none
unfoldable pub asked_undo : Machine → Action → Option ℕ
asked_undo m (Do operation) = None
asked_undo m (Undo n) = Some n
asked_undo m (Back node) = if nat_lt node (length m.names) then last_of m.state.remaining node else None

-- if a call asks for the undo of a step that has no consequence: the rows that left and joined its node's online list by that step
abbrev pub TellsUndo : Machine → Action → List Row → List Row → Type 0
TellsUndo m act left joined = (n : ℕ) → asked_undo m act ≡ Some n → first_consequence m.state.remaining n ≡ None → TellsStep m n left joined
