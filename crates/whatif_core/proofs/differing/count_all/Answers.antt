use Rattle.std.proofs.Common.{◌∙◌}
use Rattle.change_core.specs.declared.change.Kind.TheVariants.{Lost}
use Rattle.whatif_core.proofs.AllChanges.{change_within}
use Rattle.whatif_core.proofs.Counted.{all_counted, counted_more, differ_fits, possible_fits}
use Rattle.change_core.proofs.Played.{read_or}
use Rattle.change_core.proofs.Searches.{are_walks}
use Rattle.whatif_core.proofs.differing.count_all.Goals as goal

pub rows_after-requires-clause-walks : goal.rows_after-requires-clause-walks
rows_after-requires-clause-walks g c =
    are_walks c.args.trial.now.bench.now c.args.trial.now.question.now c.args.trial.now.steps.now c.loop-place.search c.loop-place.invariant.search

pub rows_after-requires-clause-place : goal.rows_after-requires-clause-place
rows_after-requires-clause-place g c =
    (change_within c.args.trial.now.steps.now c.args.trial.now.tried.now c.loop-place.place _ c.requires.tried
    (read_or c.args.trial.now.tried.now c.loop-place.place (record { kind = Lost; place = 0; beside = 0 }) c.loop-place-test.true)).0

pub rows_after-requires-clause-beside : goal.rows_after-requires-clause-beside
rows_after-requires-clause-beside g c =
    (change_within c.args.trial.now.steps.now c.args.trial.now.tried.now c.loop-place.place _ c.requires.tried
    (read_or c.args.trial.now.tried.now c.loop-place.place (record { kind = Lost; place = 0; beside = 0 }) c.loop-place-test.true)).1

pub loop-place-preserved : goal.loop-place-preserved
loop-place-preserved g c = record {
  counted = c.loop-place.invariant.counted ∙ counted_more _ _ c.args.trial.now.tried.now c.loop-place.place _ c.loop-place.tally c.count.new.self c.args.trial.now.before.now _
      (read_or c.args.trial.now.tried.now c.loop-place.place (record { kind = Lost; place = 0; beside = 0 }) c.loop-place-test.true)
      c.requires.before (c.in_ok-rows.ensures c.args.trial.now.bench.now c.requires.steps c.loop-place.invariant.search).shown c.in_ok-count.ensures;
  possible = possible_fits c.args.trial.now.before.now c.loop-place.tally c.count.new.self _ _ c.loop-place.place c.in_ok-count.ensures c.loop-place.invariant.possible;
  differ = differ_fits c.args.trial.now.before.now c.loop-place.tally c.count.new.self _ _ c.loop-place.place c.in_ok-count.ensures c.loop-place.invariant.differ;
  search = (c.in_ok-rows.ensures c.args.trial.now.bench.now c.requires.steps c.loop-place.invariant.search).search;
  watched = λ start told. c.tell.ensures start (c.loop-place.invariant.watched start told);
}

pub returns-clause-tally : goal.returns-clause-tally
returns-clause-tally g c = all_counted _ _ c.args.trial.now.steps.now c.args.trial.now.tried.now c.loop-place.place c.loop-place.tally c.requires.steps c.requires.tried c.loop-place-test.false c.loop-place.invariant.counted
