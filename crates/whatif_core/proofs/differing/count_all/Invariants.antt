use Rattle.std.proofs.Common.{◌≡◌, ◌≤◌, drop}
use Rattle.whatif_core.specs.Differences.{nothing, tally_from}
use Rattle.change_core.specs.Searches.{IsSearch}
use Rattle.progress_core.specs.Watches.{Watched}
use Rattle.whatif_core.proofs.differing.count_all.Given as goal

-- what is left is counted behind what was
abbrev pub invariant-loop-place : goal.invariant-loop-place
invariant-loop-place g l = record {
  counted : tally_from l.trial.bench.now l.trial.question.now nothing l.trial.tried.now
      ≡ tally_from l.trial.bench.now l.trial.question.now l.tally (drop l.place l.trial.tried.now);
  possible : l.tally.possible ≤ l.place;
  differ : l.tally.differ ≤ l.place;
  search : IsSearch l.trial.bench.now l.trial.question.now l.trial.steps.now l.search;
  watched : Watched g.W.Watch.told l.fn.watch l.watch;
}
