use Rattle.std.proofs.Common.{◌∙◌, ap}
use Rattle.std.proofs.lemmas.List.{take_all}
use Rattle.change_core.specs.Walks.{steps_in}
use Rattle.change_core.proofs.Walks.{one_place_more}
use Rattle.change_core.proofs.changed.all_places.Goals as goal

pub loop-place-init : goal.loop-place-init
loop-place-init g c = ap (steps_in c.args.steps.now) c.in_ok-places.ensures.items

pub loop-place-preserved : goal.loop-place-preserved
loop-place-preserved g c =
    ap (steps_in c.args.steps.now) c.in_ok-push.ensures.items
    ∙ one_place_more c.args.steps.now c.loop-place.places.items c.loop-place.place c.loop-place-test.true c.loop-place.invariant

pub returns : goal.returns
returns g c = c.loop-place.invariant ∙ take_all c.loop-place.place c.args.steps.now c.loop-place-test.false
