use Rattle.std.proofs.Common.{◌∙◌, length, slice_get, ap, arith}
use Rattle.run_core.proofs.Printed.{no_gap}
use Rattle.transcript_core.specs.Steps.{with_taker}
use Rattle.transcript_core.proofs.Walks.{fold_more}
use Rattle.transcript_core.proofs.steps.takers_of.Goals as goal
use Rattle.transcript_core.proofs.steps.takers_of.Goals.{in-Some, in_default}

pub loop-place-preserved : goal.loop-place-preserved
loop-place-preserved g c =
    elim c.match-at.branch [
      | in-Some w ↦
          rw w.takers-is
          (fold_more with_taker c.loop-place.takers.items _ _ c.args.bench.now.state.history c.loop-place.place w.in-Some.event.now
          (omega (arith, ap length c.history-history.ensures)) (w.in-Some.ensures ∙ ap (λ h. slice_get h c.loop-place.place) c.history-history.ensures)
          c.loop-place.invariant w.note_event.ensures)
      | in_default w ↦ absurd (no_gap c.history-history.result.now c.loop-place.place (omega arith) w.in_default.ensures)
    ]
