use Rattle.std.proofs.Common.{◌∙◌, ◌++◌, ◌∷◌, [], List, None, ap, slice_index_or}
use Rattle.network_rules.specs.declared.turn.Turn.{Turn}
use Rattle.network_rules.specs.Turns.{count_at}
use Rattle.explore_network.specs.Turns.{counts_of}
use Rattle.explore_network.proofs.CountLoops.{all_taken, count_here, counts_push}
use Rattle.network_rules.proofs.Lookups.{read_or}
use Rattle.explore_network.proofs.counts.counted.Goals as goal

abbrev none : Turn
none = record { node = 0; delivers = None; recorded = 0 }

pub loop-place-preserved : goal.loop-place-preserved
loop-place-preserved g c = λ w is few.
    let at = read_or c.args.turns.now c.loop-place.place none c.loop-place-test.true in
    counts_push c.args.turns.now _ c.loop-place.place _ c.loop-place.new.items c.push.new.self.items _ at c.in_ok-push.ensures.items
    (c.count_with-count.ensures w (c.count_at.ensures ∙ ap (λ l. count_at l c.loop-place.place) is ∙ count_here c.args.turns.now w c.loop-place.place (slice_index_or c.args.turns.now c.loop-place.place none) at) few)
    (c.loop-place.invariant w is few)

pub returns : goal.returns
returns g c = λ w is few. c.loop-place.invariant w is few ∙ ap (λ (ts : List Turn). counts_of ts (w ++ c.args.kept.now ∷ [])) (all_taken c.args.turns.now c.loop-place.place c.loop-place-test.false)
