use Rattle.whatif_report.proofs.Told.{all_told, told_more}
use Rattle.whatif_report.proofs.telling.put_differences.Goals as goal

pub loop-place-preserved : goal.loop-place-preserved
loop-place-preserved g c =
    told_more _ _ c.args.recorded.now.before.now c.args.told.now c.loop-place.place c.index-told-place.result _ _ _ c.loop-place-test.true c.index-told-place.is c.loop-place.invariant
    c.in_ok-put_difference.ensures

pub returns : goal.returns
returns g c = all_told _ _ c.args.recorded.now.before.now c.args.told.now c.loop-place.place _ _ _ c.loop-place-test.false c.loop-place.invariant
