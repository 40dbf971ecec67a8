use Rattle.std.proofs.Common.{◌≡◌, ◌<◌, ◌≤◌, ℕ, vec_len}
use Rattle.std.specs.List.{AllByRecursion}
use Rattle.block_core.proofs.entries_by_dot.make_spares.Given as goal

-- so far as many
abbrev pub invariant-loop : goal.invariant-loop
invariant-loop g l = record {
  boxes : AllByRecursion (λ (boxes : ℕ). 64 < boxes) l.spares.items;
  count : vec_len l.spares ≡ l.counter;
  stay : vec_len l.initial.spares ≤ vec_len l.spares;
}
