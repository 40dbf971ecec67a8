use Rattle.std.proofs.Common.{◌↔◌, drop}
use Rattle.receipt_core.specs.Marks.{Fresh}
use Rattle.receipt_core.proofs.places.are_fresh.Given as goal

abbrev pub invariant-loop-place : goal.invariant-loop-place
invariant-loop-place g l = Fresh l.initial.marks.items l.places ↔ Fresh l.marks.items (drop l.place-index l.places)
