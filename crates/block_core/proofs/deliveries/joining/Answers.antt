use Rattle.std.proofs.Common.{◌+◌, ◌∙◌, ◌++◌, ap, arith, filter, sym, take, take_all}
use Rattle.std.proofs.lemmas.List.Elements.{filter-append}
use Rattle.std.specs.FinMap as fin
use Rattle.std.specs.FinSet as set
use Rattle.dots_core.specs.declared.dot.Dot.{Dot}
use Rattle.entry_core.specs.EntryLists.{pairs}
use Rattle.entry_core.specs.Presences.{Presence}
use Rattle.block_core.specs.Deliveries.{is_new}
use Rattle.block_core.specs.Sets.{joined}
use Rattle.block_core.proofs.MaskedEntries.{entries_kept}
use Rattle.block_core.proofs.Passes.{passed}
use Rattle.block_core.proofs.SetMaps.{joined_more}
use Rattle.block_core.proofs.deliveries.joining.Goals as goal

pub loop-at-init : goal.loop-at-init
loop-at-init g c = record {
  within = c.next_new-at.ensures.within;
  pairs =
      ap pairs c.new-joining.ensures.items
      ∙ sym (passed (is_new (set.contains c.args.names) c.args.seen.now) c.args.message.now 0 c.next_new-at.result (omega arith)
      c.next_new-at.ensures.passed);
}

pub loop-at-preserved : goal.loop-at-preserved
loop-at-preserved g c =
    let test = λ (p : Dot × Presence). is_new (set.contains c.args.names) c.args.seen.now p.0 in record {
      within = c.next_new-at-in-loop-at.ensures.within;
      pairs =
          c.in_ok-push_joining.ensures
          ∙ ap (λ ps. ps ++ filter test (fin.entries c.index-message-at.result.map)) c.loop-at.invariant.pairs
          ∙ sym (filter-append test (joined (take c.loop-at.at c.args.message.now)) (fin.entries c.index-message-at.result.map))
          ∙ ap (filter test) (sym (joined_more c.args.message.now c.loop-at.at c.index-message-at.result c.loop-at-test.true c.index-message-at.is))
          ∙ sym (passed (is_new (set.contains c.args.names) c.args.seen.now) c.args.message.now (c.loop-at.at + 1) c.next_new-at-in-loop-at.result
          c.next_new-at-in-loop-at.ensures.from c.next_new-at-in-loop-at.ensures.passed);
    }

pub returns : goal.returns
returns g c =
    let test = λ (p : Dot × Presence). is_new (set.contains c.args.names) c.args.seen.now p.0 in
    c.loop-at.invariant.pairs
    ∙ ap (λ bs. filter test (joined bs)) (take_all c.loop-at.at c.args.message.now c.loop-at-test.false)
    ∙ sym (entries_kept c.args.message.now (is_new (set.contains c.args.names) c.args.seen.now) c.requires)
