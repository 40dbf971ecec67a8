use Rattle.std.proofs.Common.{◌≡◌, ◌<◌, ap, arith}
use Rattle.std.specs.declared.cmp.Ordering.TheVariants.{Less}
use Rattle.std.specs.Ordering.{is_lt}
use Rattle.dots_core.specs.Dots.{dot, dot_cmp}
use Rattle.block_core.specs.Sets.{key}
use Rattle.block_core.proofs.Passes.{taken}
use Rattle.block_core.proofs.deliveries.place_behind.Goals as goal

pub returns-then-is_before-clause-before : goal.returns-then-is_before-clause-before
returns-then-is_before-clause-before g c = λ k b from to at.
    let most = c.max.ensures in
    let low : k < c.place.result = omega (arith, most, from, to) in
    ap is_lt (taken (λ b. dot_cmp (key b) (dot c.args.name c.args.base) ≡ Less) c.args.blocks.now c.place.result k b c.place.ensures.before low at)
