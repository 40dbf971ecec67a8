use Rattle.std.proofs.Common.{◌≡◌, ◌≤◌, vec_capacity, vec_len}
use Rattle.entry_core.proofs.spare.boxes.Given as goal

-- so far as many
abbrev pub invariant-loop : goal.invariant-loop
invariant-loop g l = record { len : vec_len l.boxes ≡ l.counter; capacity : 65 ≤ vec_capacity l.boxes }
