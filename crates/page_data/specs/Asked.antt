-- Which node a call would change, by the machine before the call.
use Rattle.std.specs.Prelude.{ℕ, Option, Some, None}
use Rattle.bench_core.specs.Acts.{Action, Do, Undo, Back}
use Rattle.bench_core.specs.Machine.{Machine}
use Rattle.node_core.specs.Nodes.{Node}
use Rattle.report_core.specs.Shown.{node_of, node_of_step}
use Rattle.report_core.specs.StepDiffs.{asked_undo}

abbrev pub node_undone : Machine → Option ℕ → Option ℕ
node_undone m None = None
node_undone m (Some number) = node_of_step m.state.remaining number

-- for a step the actor who asks for it; for an undo the node of the step that it would take back, if that step remains
unfoldable pub asked_node : Machine → ℕ → Action → Option ℕ
asked_node m actor (Do operation) = Some actor
asked_node m actor (Undo number) = node_undone m (asked_undo m (Undo number))
asked_node m actor (Back node) = node_undone m (asked_undo m (Back node))

abbrev pub node_if : Machine → Option ℕ → Option Node
node_if m None = None
node_if m (Some number) = node_of m number
