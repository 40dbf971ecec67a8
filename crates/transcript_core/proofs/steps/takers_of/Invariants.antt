use Rattle.std.proofs.Common.{◌≡◌, drop}
use Rattle.std.specs.List.{fold}
use Rattle.transcript_core.specs.Steps.{takers_of, with_taker}
use Rattle.transcript_core.proofs.steps.takers_of.Given as goal

-- the calls that are left, noted from here on
abbrev pub invariant-loop-place : goal.invariant-loop-place
invariant-loop-place g l = fold with_taker l.takers.items (drop l.place l.bench.state.history) ≡ takers_of l.bench.state.history
