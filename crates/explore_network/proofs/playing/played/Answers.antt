use Rattle.explore_network.proofs.Played.{played_all, played_more}
use Rattle.network_rules.proofs.Lookups.{read_or}
use Rattle.explore_network.proofs.playing.played.Goals as goal

pub loop-index-preserved : goal.loop-index-preserved
loop-index-preserved g c = λ end run.
    played_more c.args.steps.now c.args.path.now c.loop-index.index _ c.loop-index.cluster c.play.new.cluster end (read_or c.args.path.now c.loop-index.index 0 c.loop-index-test.true) c.in_ok-play.ensures (c.loop-index.invariant end run)

pub returns : goal.returns
returns g c = λ end run. played_all c.args.steps.now c.args.path.now c.loop-index.index c.loop-index.cluster end c.loop-index-test.false (c.loop-index.invariant end run)
