use Rattle.std.proofs.Common.{◌≡◌, drop}
use Rattle.change_core.specs.Changes.{has_send}
use Rattle.change_core.proofs.change.has_send.Given as goal

-- none so far: what is left decides
abbrev pub invariant-loop-kept : goal.invariant-loop-kept
invariant-loop-kept g l = has_send l.steps l.node ≡ has_send (drop l.kept-index l.steps) l.node
