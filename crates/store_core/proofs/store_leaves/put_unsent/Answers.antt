use Rattle.std.proofs.Common.{◌∙◌}
use Rattle.std.specs.FinMap as fin
use Rattle.store_core.proofs.StoreEdits.{entry_removed}
use Rattle.store_core.proofs.store_leaves.put_unsent.Goals as goal

pub returns-in-Err-clause-entries_stay : goal.returns-in-Err-clause-entries_stay
returns-in-Err-clause-entries_stay g c =
    c.discard.ensures.map ∙ (λ i. fin.remove (c.in_ok-put_shared.ensures.ok i) (c.dot-in-Err.ensures i))
    ∙ entry_removed c.args.entries.now.map c.args.entry.now.dot _ c.requires.absent
