use Rattle.std.proofs.Common.{◌≡◌, ◌++◌, string_bytes}
use Rattle.bench_core.specs.Machine.{Machine}
use Rattle.report_core.specs.MovedRows.{AreMoved}
use Rattle.report_core.specs.ActTexts.{changes_from}
use Rattle.report_core.specs.Shown.{rows_to}
use Rattle.report_core.proofs.unwinding.put_changes.Given as goal

-- the changes of the nodes so far
abbrev pub invariant-loop-node : goal.invariant-loop-node
invariant-loop-node g l =
    (start : Machine) → AreMoved start l.bench l.moved →
    string_bytes l.text ≡ string_bytes l.fn.text ++ changes_from l.bench 0 (rows_to start l.node)
