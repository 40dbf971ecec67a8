use Rattle.std.proofs.Common.{◌∙◌, [], map, ap, arith}
use Rattle.std.specs.List.{fold}
use Rattle.transcript_core.specs.Actors.{with_free, named_consoles}
use Rattle.transcript_core.proofs.Walks.{fold_mapped, fold_mapped_all}
use Rattle.transcript_core.proofs.actors.named_consoles.Goals as goal

pub loop-word-preserved : goal.loop-word-preserved
loop-word-preserved g c =
    fold_mapped (with_free c.args.nodes.now c.args.count) _ c.loop-word.consoles c.put_free.new.consoles _ c.deref-word-items.result.now c.loop-word.word-index _
    c.loop-word-test.true c.loop-word.invariant c.in_ok-put_free.ensures

pub returns : goal.returns
unfolding named_consoles
returns g c =
    fold_mapped_all (with_free c.args.nodes.now c.args.count) _ c.loop-word.consoles _ c.deref-word-items.result.now c.loop-word.word-index (omega arith)
    (c.loop-word.invariant ∙ ap (fold (with_free c.args.nodes.now c.args.count) []) (ap (map _) c.deref-word-items.ensures.value ∙ c.in_ok-words.ensures))
