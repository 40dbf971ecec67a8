use Rattle.std.proofs.Common.{◌∙◌, sym}
use Rattle.whatif_core.proofs.Told.{place_here, place_nowhere, place_passes}
use Rattle.whatif_core.proofs.difference.place_with.Goals as goal

pub loop-place-preserved : goal.loop-place-preserved
loop-place-preserved g c =
    c.loop-place.invariant
    ∙ place_passes c.args.told.now c.args.change c.args.rows.now c.loop-place.place c.index-told-place.result c.loop-place-test.true c.index-told-place.is c.if-is_with.ensures

pub returns-then-is_with : goal.returns-then-is_with
returns-then-is_with g c =
    sym
    (c.loop-place.invariant
    ∙ place_here c.args.told.now c.args.change c.args.rows.now c.loop-place.place c.index-told-place.result c.loop-place-test.true c.index-told-place.is c.if-is_with.ensures)

pub returns : goal.returns
returns g c = sym (c.loop-place.invariant ∙ place_nowhere c.args.told.now c.args.change c.args.rows.now c.loop-place.place c.loop-place-test.false)
