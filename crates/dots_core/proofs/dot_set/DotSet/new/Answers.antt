use Rattle.std.proofs.Common.{arith}
use Rattle.dots_core.specs.Clocks.{no_clocks}
use Rattle.dots_core.proofs.Parts.{no_parts, empty_set}
use Rattle.dots_core.proofs.dot_set.DotSet.new.Goals as goal

pub invariant_of-result : goal.invariant_of-result
invariant_of-result g c =
    no_parts c.from_fn.result c.from_fn.ensures.items.long
    (λ n lt. (c.from_fn.ensures.items.at n no_clocks (omega (arith, c.from_fn.ensures.items.long))).2.met.1)

pub returns : goal.returns
returns g c =
    empty_set c.from_fn.result (λ n lt. (c.from_fn.ensures.items.at n no_clocks (omega (arith, c.from_fn.ensures.items.long))).2.met.1)
