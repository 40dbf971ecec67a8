use Rattle.whatif_core.proofs.AllChanges.{within_more, within_none}
use Rattle.whatif_core.proofs.changes.put_by.Goals as goal

pub loop-distance-init : goal.loop-distance-init
loop-distance-init g c = within_none c.args.steps.now c.args.kind c.args.place c.args.found.now.items

pub loop-distance-preserved : goal.loop-distance-preserved
loop-distance-preserved g c = within_more _ _ _ _ _ _ _ _ c.loop-distance.invariant c.in_ok-put_if.ensures c.change_at.ensures
