use Rattle.std.proofs.Common.{◌≡◌, drop}
use Rattle.report_core.specs.MovedRows.{after_undos, AreMade, AreMoved}
use Rattle.report_core.proofs.moved.undo_each.Given as goal

-- the undos that are left are each made, and lead where all lead; and what moved so far is noted
abbrev pub invariant-loop-number : goal.invariant-loop-number
invariant-loop-number g l =
    AreMade l.bench l.actor (drop l.number-index l.numbers)
    × (after_undos l.bench l.actor (drop l.number-index l.numbers) ≡ after_undos l.fn.bench l.actor l.numbers)
    × AreMoved l.fn.bench l.bench l.moved.items
