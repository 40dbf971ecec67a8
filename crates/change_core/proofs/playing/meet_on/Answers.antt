use Rattle.std.proofs.Common.{arith, rules}
use Rattle.change_core.proofs.Played.{read_or}
use Rattle.change_core.proofs.Searches.{asked_true, goes_taken, stays_too}
use Rattle.change_core.proofs.playing.meet_on.Goals as goal

pub loop-turn-preserved : goal.loop-turn-preserved
loop-turn-preserved g c =
    let lt = c.loop-turn-test.true in
    let at = read_or c.args.places.now c.loop-turn.turn 0 (search (rules, arith)) in
    record {
      here_stays = stays_too c.args.steps.now c.args.here.now c.loop-turn.here c.ask_at.new.self _ _ c.loop-turn.invariant.here_stays c.in_ok-ask_at.ensures;
      there_stays = stays_too c.args.steps.now c.args.there.now c.loop-turn.there c.ask_at-else-not-branch.new.self _ _ c.loop-turn.invariant.there_stays c.in_ok-ask_at-2.ensures;
      here_goes = goes_taken c.args.steps.now c.args.places.now c.args.here.now c.loop-turn.here c.ask_at.new.self c.loop-turn.turn _ at c.loop-turn.invariant.here_goes
          (asked_true _ _ _ _ _ c.in_ok-ask_at.ensures c.if-not-branch.false);
      there_goes = goes_taken c.args.steps.now c.args.places.now c.args.there.now c.loop-turn.there c.ask_at-else-not-branch.new.self c.loop-turn.turn _ at c.loop-turn.invariant.there_goes
          (asked_true _ _ _ _ _ c.in_ok-ask_at-2.ensures c.if-not-branch-2.false);
    }
