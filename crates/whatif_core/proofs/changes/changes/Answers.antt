use Rattle.whatif_core.proofs.AllChanges.{to_more, to_none}
use Rattle.whatif_core.proofs.changes.changes.Goals as goal

pub loop-place-init : goal.loop-place-init
loop-place-init g c = to_none c.args.steps.now c.new-found.result.items c.new-found.ensures.items

pub loop-place-preserved : goal.loop-place-preserved
loop-place-preserved g c = to_more c.args.steps.now c.loop-place.place _ _ c.loop-place.invariant c.in_ok-put_of.ensures
