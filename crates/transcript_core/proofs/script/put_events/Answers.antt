use Rattle.std.proofs.Common.{refl, arith}
use Rattle.run_core.proofs.Printed.{no_gap}
use Rattle.transcript_core.specs.Scripts.{event_line, event_lines}
use Rattle.transcript_core.proofs.Walks.{piece_more}
use Rattle.transcript_core.proofs.script.put_events.Goals as goal
use Rattle.transcript_core.proofs.script.put_events.Goals.{in-Some+in_ok-put_event, in_default}

pub loop-place-preserved : goal.loop-place-preserved
unfolding event_lines
loop-place-preserved g c =
    elim c.match-at.branch [
      | in-Some+in_ok-put_event w ↦
          rw w.text-is
          (piece_more c.args.history.now c.loop-place.place w.in-Some.event.now (event_lines (record { nodes = c.args.cast.now.nodes.now; consoles = c.args.cast.now.consoles.now }))
          (event_line (record { nodes = c.args.cast.now.nodes.now; consoles = c.args.cast.now.consoles.now })) _ _ _ (λ y ys. refl) (omega arith) w.in-Some.ensures c.loop-place.invariant
          w.in_ok-put_event.ensures)
      | in_default w ↦ absurd (no_gap c.args.history.now c.loop-place.place (omega arith) w.in_default.ensures)
    ]
