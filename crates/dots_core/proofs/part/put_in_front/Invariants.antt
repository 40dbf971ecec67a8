use Rattle.std.proofs.Common.{◌≡◌, ◌+◌, ◌-◌, ◌≤◌, ◌++◌, vec_len}
use Rattle.std.specs.Vec.{vec_capacity}
use Rattle.dots_core.specs.Absorbed.{numbers}
use Rattle.dots_core.proofs.part.put_in_front.Given as goal

abbrev pub invariant-loop-clock : goal.invariant-loop-clock
invariant-loop-clock g l = record {
  items : l.cloud.items ≡ l.fn.cloud.items ++ numbers l.from (l.clock - l.from);
  room : vec_len l.cloud + (l.to - l.clock) ≤ vec_capacity l.cloud;
}
