use Rattle.std.proofs.Common.{◌∙◌, sym}
use Rattle.store_core.proofs.Told.{and_not}
use Rattle.store_core.proofs.store_deliveries.changes.Goals as goal

pub returns-then-has : goal.returns-then-has
returns-then-has g c = and_not c.has_all_of.result (sym c.has.ensures ∙ c.if-has.true) c.has_all_of.ensures
