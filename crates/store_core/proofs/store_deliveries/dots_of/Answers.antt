use Rattle.std.proofs.Common.{◌∙◌, List, ap, take_all}
use Rattle.entry_core.specs.Presences.{Entry}
use Rattle.entry_core.specs.EntryLists.{pairs}
use Rattle.store_core.specs.EntryMoves.{dots_of_pairs}
use Rattle.store_core.proofs.Undelivered.{dots_next}
use Rattle.store_core.proofs.store_deliveries.dots_of.Goals as goal

pub loop-entry-preserved : goal.loop-entry-preserved
loop-entry-preserved g c =
    dots_next c.loop-entry.dots.items _ c.args.entries.now c.loop-entry.entry-index c.entry-item.result c.dot.result
    c.loop-entry-test.true c.entry-item.is c.dot.ensures c.loop-entry.invariant c.in_ok-push.ensures.items

pub returns : goal.returns
returns g c =
    c.loop-entry.invariant
    ∙ ap (λ (es : List Entry). dots_of_pairs (pairs es)) (take_all c.loop-entry.entry-index c.args.entries.now c.loop-entry-test.false)
