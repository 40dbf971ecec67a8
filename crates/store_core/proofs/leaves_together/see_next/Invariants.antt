use Rattle.std.proofs.Common.{◌≡◌, ◌+◌}
use Rattle.dots_core.specs.Dots.{HasClocks, count_of}
use Rattle.store_core.specs.LeavesTogether.{with_next}
use Rattle.store_core.proofs.leaves_together.see_next.Given as goal

-- those that were put in so far; and where no clock was missing, none is
abbrev pub invariant-loop-done : goal.invariant-loop-done
invariant-loop-done g l = record {
  seen : l.seen ≡ with_next l.name l.clock l.done l.fn.seen;
  clocks : HasClocks l.name l.fn.seen → l.clock ≡ count_of l.name l.fn.seen → HasClocks l.name l.seen ×
      (count_of l.name l.seen ≡ l.clock + l.done);
}
