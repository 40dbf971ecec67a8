use Rattle.explore_network.proofs.Asking.{all_asked, asked_first, asked_more}
use Rattle.network_rules.proofs.Lookups.{read_at}
use Rattle.explore_network.proofs.asked.put_all_asked.Goals as goal

pub loop-place-init : goal.loop-place-init
loop-place-init g c = record {
  names = λ h. h;
  asked = λ l count end is none run. asked_first l count c.args.steps.now c.args.topic.now c.args.key.now c.args.dots.now.items c.args.cluster.now end is run;
}

pub loop-place-preserved : goal.loop-place-preserved
loop-place-preserved g c = record {
  names = λ h. c.in_ok-put_asked.ensures.names (c.loop-place.invariant.names h);
  asked = λ l count end is none run. asked_more l count c.args.steps.now c.loop-place.place c.args.topic.now c.args.key.now c.loop-place.dots.items c.put_asked.new.dots.items c.loop-place.cluster c.play.new.cluster end
      c.index-steps-place.result (read_at c.args.steps.now c.loop-place.place c.index-steps-place.result c.loop-place-test.true c.index-steps-place.is)
      c.in_ok-put_asked.ensures.dots c.in_ok-play.ensures (c.loop-place.invariant.asked l count end is none run);
}

pub returns-clause-asked : goal.returns-clause-asked
returns-clause-asked g c = λ l count end is none run.
    all_asked l count c.args.steps.now c.loop-place.place c.args.topic.now c.args.key.now c.loop-place.dots.items c.loop-place.cluster end c.loop-place-test.false (c.loop-place.invariant.asked l count end is none run)
