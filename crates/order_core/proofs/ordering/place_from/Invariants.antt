use Rattle.std.proofs.Common.{◌≡◌, drop}
use Rattle.order_core.specs.Stands.{first_of}
use Rattle.order_core.proofs.ordering.place_from.Given as goal

-- none so far: what is left decides
abbrev pub invariant-loop-place : goal.invariant-loop-place
invariant-loop-place l = first_of l.node l.from (drop l.from l.marks) ≡ first_of l.node l.place (drop l.place l.marks)
