use Rattle.std.proofs.Common.{◌∙◌, sym, ap}
use Rattle.store_core.specs.LeftEntries.{Left}
use Rattle.store_core.proofs.StoreEdits.{none_taken}
use Rattle.store_core.proofs.store_leaves.take_unsent.Goals as goal

pub returns-else-is_some : goal.returns-else-is_some
returns-else-is_some g c =
    none_taken c.args.entries.now.map c.args.dot c.left.inside.unsent (ap (λ (l : Left). l.unsent) c.left.view_is ∙ c.requires)
    (sym c.is_some.ensures ∙ c.if-is_some.false)
