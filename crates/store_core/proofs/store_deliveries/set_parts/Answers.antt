use Rattle.std.proofs.Common.{◌∙◌, sym}
use Rattle.store_core.proofs.Undelivered.{none_to_put}
use Rattle.store_core.proofs.store_deliveries.set_parts.Goals as goal

pub returns : goal.returns
returns g c =
    sym (none_to_put _ _ c.loop-old.seen c.in-None.ensures.steps.0 c.loop-old.old-iterator.rest.ok.0) ∙ c.loop-old.invariant
