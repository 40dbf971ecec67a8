use Rattle.std.proofs.Common.{◌∙◌, ap, subst, sym}
use Rattle.store_core.specs.LeftEntries.{IsFree, Left, taken}
use Rattle.store_core.proofs.StoreEdits.{taken_put}
use Rattle.store_core.proofs.store_leaves.put_unsent_back.Goals as goal

pub returns-in-Err-clause-entries_stay : goal.returns-in-Err-clause-entries_stay
returns-in-Err-clause-entries_stay g c =
    c.take_back.ensures ∙ ap (taken c.left.inside.unsent) c.in_ok-put_back.ensures.ok
    ∙ taken_put c.left.inside.unsent c.args.entries.now.map
    (subst (λ (l : Left). IsFree l.unsent c.args.entries.now.map) (sym c.left.view_is) c.requires.free)
