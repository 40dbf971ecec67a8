use Rattle.std.proofs.Common.{◌≡◌, ◌+◌, ◌≤◌, drop}
use Rattle.dots_core.specs.Absorbed.{absorbed}
use Rattle.dots_core.proofs.part.run_after.Given as goal

abbrev pub invariant-loop-run : goal.invariant-loop-run
invariant-loop-run l = record {
  next : l.next ≡ l.clock + l.run;
  last : l.next ≤ 1000000000;
  from : absorbed l.clock l.cloud ≡ absorbed l.next (drop l.run l.cloud);
}
