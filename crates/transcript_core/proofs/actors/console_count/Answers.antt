use Rattle.std.proofs.Common.{arith, rules}
use Rattle.run_core.proofs.Printed.{no_gap}
use Rattle.transcript_core.specs.Actors.{with_actor}
use Rattle.transcript_core.proofs.Walks.{fold_more}
use Rattle.transcript_core.proofs.actors.console_count.Goals as goal
use Rattle.transcript_core.proofs.actors.console_count.Goals.{in-Some, in_default}

pub loop-place-preserved : goal.loop-place-preserved
loop-place-preserved g c =
    elim c.match-at.branch [
      | in-Some w ↦
          fold_more (λ count e. with_actor c.args.nodes count e.actor) c.loop-place.count c.match-at.count _ c.args.history.now c.loop-place.place w.in-Some.event.now
          (omega arith) w.in-Some.ensures c.loop-place.invariant (search rules)
      | in_default w ↦ absurd (no_gap c.args.history.now c.loop-place.place (omega arith) w.in_default.ensures)
    ]
