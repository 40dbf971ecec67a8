use Rattle.std.proofs.Common.{◌<◌, ℕ, suc, Some}
use Rattle.network_rules.specs.Tables.{in_row, Within}
use Rattle.network_rules.proofs.cone.is_falling.Given as goal

-- so far
abbrev pub invariant-loop-place : goal.invariant-loop-place
invariant-loop-place l = (p : ℕ) → suc p < l.place → Within (in_row (Some l.row) (suc p)) (in_row (Some l.row) p)
