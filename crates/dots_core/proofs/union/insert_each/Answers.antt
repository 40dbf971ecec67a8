use Rattle.std.proofs.Common.{ℕ, length, ◌<◌, get_or, refl}
use Rattle.dots_core.proofs.Clocks.{among_at}
use Rattle.dots_core.proofs.Unions.{each_gained}
use Rattle.dots_core.proofs.union.insert_each.Goals as goal

pub insert-requires-clause-positive : goal.insert-requires-clause-positive
insert-requires-clause-positive g c =
    let k : ℕ = get_or c.args.clocks.now c.loop-clock.clock-index 0 in
    (c.requires k (among_at c.args.clocks.now c.loop-clock.clock-index k c.loop-clock-test.true refl)).0

pub insert-requires-clause-last : goal.insert-requires-clause-last
insert-requires-clause-last g c =
    let k : ℕ = get_or c.args.clocks.now c.loop-clock.clock-index 0 in
    (c.requires k (among_at c.args.clocks.now c.loop-clock.clock-index k c.loop-clock-test.true refl)).1

pub loop-clock-preserved : goal.loop-clock-preserved
loop-clock-preserved g c =
    each_gained _ c.loop-clock.part c.insert.new.self c.args.clocks.now c.loop-clock.clock-index c.loop-clock.invariant c.loop-clock-test.true
    c.in_ok-insert.ensures.ok
