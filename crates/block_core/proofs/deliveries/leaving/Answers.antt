use Rattle.std.proofs.Common.{◌+◌, ◌∙◌, ◌++◌, ap, arith, filter, map, sym, take, take_all}
use Rattle.std.proofs.lemmas.List.{map-append}
use Rattle.std.proofs.lemmas.List.Elements.{filter-append}
use Rattle.std.specs.FinMap as fin
use Rattle.std.specs.FinSet as set
use Rattle.dots_core.specs.declared.dot.Dot.{Dot}
use Rattle.entry_core.specs.Presences.{Presence}
use Rattle.block_core.specs.Deliveries.{is_gone}
use Rattle.block_core.specs.Sets.{joined, set_map}
use Rattle.block_core.proofs.MaskedEntries.{entries_kept}
use Rattle.block_core.proofs.Passes.{passed}
use Rattle.block_core.proofs.SetMaps.{joined_more}
use Rattle.block_core.proofs.deliveries.leaving.Goals as goal

pub loop-at-init : goal.loop-at-init
loop-at-init g c = record {
  within = c.next_gone-at.ensures.within;
  hint = omega arith;
  dots =
      c.new-leaving.ensures.items
      ∙ ap (map (λ (p : Dot × Presence). p.0))
      (sym (passed (is_gone (set.contains c.args.names) c.args.seen.now (set_map c.args.message.now)) c.args.blocks.now 0 c.next_gone-at.result
      (omega arith) c.next_gone-at.ensures.passed));
}

pub loop-at-preserved : goal.loop-at-preserved
loop-at-preserved g c =
    let gone = is_gone (set.contains c.args.names) c.args.seen.now (set_map c.args.message.now) in
    let test = λ (p : Dot × Presence). gone p.0 in
    let dots = map (λ (p : Dot × Presence). p.0) in
    let so_far = joined (take c.loop-at.at c.args.blocks.now) in record {
      within = c.next_gone-at-in-loop-at.ensures.within;
      hint = c.in_ok-hint.ensures.hint;
      dots =
          c.in_ok-hint.ensures.dots ∙ ap (λ ds. ds ++ dots (filter test (fin.entries c.index-blocks-at.result.map))) c.loop-at.invariant.dots
          ∙ sym (map-append (λ (p : Dot × Presence). p.0) (filter test so_far) (filter test (fin.entries c.index-blocks-at.result.map)))
          ∙ ap dots (sym (filter-append test so_far (fin.entries c.index-blocks-at.result.map))
          ∙ ap (filter test) (sym (joined_more c.args.blocks.now c.loop-at.at c.index-blocks-at.result c.loop-at-test.true c.index-blocks-at.is))
          ∙ sym (passed gone c.args.blocks.now (c.loop-at.at + 1) c.next_gone-at-in-loop-at.result c.next_gone-at-in-loop-at.ensures.from
          c.next_gone-at-in-loop-at.ensures.passed));
    }

pub returns : goal.returns
returns g c =
    let test = λ (p : Dot × Presence). is_gone (set.contains c.args.names) c.args.seen.now (set_map c.args.message.now) p.0 in
    c.loop-at.invariant.dots
    ∙ ap (λ bs. map (λ (p : Dot × Presence). p.0) (filter test (joined bs)))
    (take_all c.loop-at.at c.args.blocks.now c.loop-at-test.false)
    ∙ ap (map (λ (p : Dot × Presence). p.0))
    (sym (entries_kept c.args.blocks.now (is_gone (set.contains c.args.names) c.args.seen.now (set_map c.args.message.now)) c.requires.ours))
