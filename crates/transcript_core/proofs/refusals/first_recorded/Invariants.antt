use Rattle.std.proofs.Common.{◌≡◌, ◌+◌, drop}
use Rattle.transcript_core.specs.Refusals.{first_recorded}
use Rattle.transcript_core.proofs.refusals.first_recorded.Given as goal

-- none was refused so far: the first is that of the calls that are left
abbrev pub invariant-loop-place : goal.invariant-loop-place
invariant-loop-place g l = first_recorded (l.place + 1) (drop l.place l.history) ≡ first_recorded 1 l.history
