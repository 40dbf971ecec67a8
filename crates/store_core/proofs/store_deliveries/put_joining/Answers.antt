use Rattle.std.proofs.Common.{◌∙◌, ap}
use Rattle.entry_core.specs.EntryLists.{pairs}
use Rattle.store_core.specs.EntryMoves.{dots_of_pairs, without_each}
use Rattle.store_core.proofs.Undelivered.{put_and_taken}
use Rattle.store_core.proofs.store_deliveries.put_joining.Goals as goal

pub returns-in-Err-clause-entries_stay : goal.returns-in-Err-clause-entries_stay
returns-in-Err-clause-entries_stay g c =
    c.discard_each.ensures
    ∙ ap (without_each (dots_of_pairs (pairs c.args.joining.now))) c.in_ok-put_each.ensures.ok
    ∙ put_and_taken (pairs c.args.joining.now) c.args.entries.now.map c.requires
