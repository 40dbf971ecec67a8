use Rattle.explore_network.specs.Questions.{plain}
use Rattle.explore_report.proofs.Told.{outcome_more, outcomes_all}
use Rattle.explore_report.proofs.telling.put_outcomes.Goals as goal

pub loop-place-preserved : goal.loop-place-preserved
loop-place-preserved g c =
    outcome_more c.args.bench.now (plain c.args.question.now) c.args.outcomes.now c.loop-place.place c.index-outcomes-place.result _ _ _ c.loop-place-test.true c.index-outcomes-place.is
    c.loop-place.invariant c.in_ok-put_outcome.ensures

pub returns : goal.returns
returns g c = outcomes_all c.args.bench.now (plain c.args.question.now) c.args.outcomes.now c.loop-place.place _ _ _ c.loop-place-test.false c.loop-place.invariant
