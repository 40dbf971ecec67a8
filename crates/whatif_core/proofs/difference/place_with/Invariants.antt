use Rattle.std.proofs.Common.{◌≡◌, drop}
use Rattle.whatif_core.specs.Differences.{place_with}
use Rattle.whatif_core.proofs.difference.place_with.Given as goal

-- none so far: what is left decides
abbrev pub invariant-loop-place : goal.invariant-loop-place
invariant-loop-place g l = place_with 0 l.told l.change l.rows ≡ place_with l.place (drop l.place l.told) l.change l.rows
