use Rattle.std.proofs.Common.{None}
use Rattle.std.specs.Prelude.{false}
use Rattle.change_core.proofs.Played.{all_copied, copied_more, none_copied, read_or}
use Rattle.change_core.proofs.steps.copied_at.Goals as goal

pub loop-place-init : goal.loop-place-init
loop-place-init g c = none_copied c.args.steps.now c.args.marks.now c.new-copies.result.items c.new-copies.ensures.items

pub loop-place-preserved : goal.loop-place-preserved
loop-place-preserved g c =
    copied_more c.args.steps.now c.args.marks.now c.loop-place.place _ c.loop-place.copies.items c.put_copy.new.copies.items
    (read_or c.args.marks.now c.loop-place.place (record { place = 0; node = 0; delivers = None; sends = false }) c.loop-place-test.true)
    c.in_ok-put_copy.ensures c.loop-place.invariant

pub returns : goal.returns
returns g c = all_copied c.args.steps.now c.args.marks.now c.loop-place.place c.loop-place.copies.items c.loop-place-test.false c.loop-place.invariant
