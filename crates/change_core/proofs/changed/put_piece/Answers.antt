use Rattle.std.proofs.Common.{◌≡◌, Some, slice_get, arith}
use Rattle.change_core.proofs.Marks.{none_left, put_more}
use Rattle.change_core.proofs.Played.{read_at}
use Rattle.change_core.proofs.changed.put_piece.Goals as goal

pub loop-place-preserved : goal.loop-place-preserved
loop-place-preserved g c =
    let lt = c.loop-place-test.true in
    let most = c.requires in
    let at : slice_get c.args.steps.now c.loop-place.place ≡ Some c.index-steps-place.result =
    read_at c.args.steps.now c.loop-place.place c.index-steps-place.result (omega (arith, lt, most)) c.index-steps-place.is in
    put_more c.args.steps.now c.loop-place.place c.args.to c.index-steps-place.result c.loop-place.marks.items c.push.new.self.items _ c.mark_of.result
    at c.loop-place-test.true c.loop-place.invariant c.in_ok-push.ensures.items c.mark_of.ensures

pub returns : goal.returns
returns g c = none_left c.args.steps.now c.loop-place.place c.args.to c.loop-place.marks.items _ c.loop-place-test.false c.loop-place.invariant
