use Rattle.bench_core.proofs.Reached.{given_holds, back_holds, undo_holds}
use Rattle.bench_core.proofs.laws.headline_law.Goals as goal

pub returns : goal.returns
returns c =
    record {
      given_by_the_remaining_steps = given_holds;
      taken_back_at_once = back_holds;
      refused_only_for_a_named_consequence =
          undo_holds;
    }
