use Rattle.std.proofs.Common.{◌<◌, ℕ, suc, map}
use Rattle.network_rules.specs.Tables.{names_at, Within}
use Rattle.network_rules.proofs.cone.are_falling.Given as goal

-- so far
abbrev pub invariant-loop-place : goal.invariant-loop-place
invariant-loop-place g l = (n p : ℕ) → n < l.place → Within (names_at (map (λ row. row.items) l.rows) n (suc p)) (names_at (map (λ row. row.items) l.rows) n p)
