use Rattle.std.proofs.Common.{◌≡◌, ◌∙◌, ◌+◌, ◌∷◌, List, ap, drop, sym}
use Rattle.std.proofs.lemmas.List.{at_drop_all}
use Rattle.std.specs.FinMap as fin
use Rattle.entry_core.specs.EntryLists.{pairs}
use Rattle.store_core.specs.EntryMoves.{dots_of_pairs, without_each}
use Rattle.store_core.specs.LeavesTogether.{entries_left, unsent_left}
use Rattle.store_core.specs.LeftEntries.{Left}
use Rattle.store_core.proofs.LeftTogether.{left_next}
use Rattle.store_core.proofs.PutSome.{entry_gone, unsent_gone}
use Rattle.store_core.proofs.leaves_together.discard_lefts.Goals as goal

pub loop-left-preserved : goal.loop-left-preserved
loop-left-preserved g c =
    let ls = c.args.lefts.now in
    let i = c.loop-left.left-index in
    let rest = drop (i + 1) ls in
    let left : Left = record { entry = c.left.inside.entry; unsent = c.left.inside.unsent; in_delta = c.left.inside.in_delta } in
    let at : drop i ls ≡ left ∷ rest = left_next ls i c.left-item.result left c.loop-left-test.true c.left-item.is c.left.view_is in
    record {
      entries =
          ap (without_each (dots_of_pairs (pairs (entries_left rest)))) (c.discard.ensures.map ∙ ap (fin.remove c.loop-left.entries.map) c.dot.ensures)
          ∙ sym (entry_gone ls i left rest at c.loop-left.entries.map)
          ∙ c.loop-left.invariant.entries;
      delta_entries =
          ap (without_each (dots_of_pairs (pairs (unsent_left rest)))) c.take_back.ensures
          ∙ sym (unsent_gone ls i left rest at c.loop-left.delta_entries.map)
          ∙ c.loop-left.invariant.delta_entries;
    }

pub returns-clause-entries : goal.returns-clause-entries
returns-clause-entries g c =
    sym (at_drop_all (λ (ls : List Left). without_each (dots_of_pairs (pairs (entries_left ls))) c.loop-left.entries.map) c.args.lefts.now
    c.loop-left.left-index c.loop-left-test.false)
    ∙ c.loop-left.invariant.entries

pub returns-clause-delta_entries : goal.returns-clause-delta_entries
returns-clause-delta_entries g c =
    sym (at_drop_all (λ (ls : List Left). without_each (dots_of_pairs (pairs (unsent_left ls))) c.loop-left.delta_entries.map) c.args.lefts.now
    c.loop-left.left-index c.loop-left-test.false)
    ∙ c.loop-left.invariant.delta_entries
