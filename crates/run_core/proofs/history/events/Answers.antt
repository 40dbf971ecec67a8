use Rattle.std.proofs.Common.{arith}
use Rattle.run_core.proofs.Printed.{events_more, no_gap}
use Rattle.run_core.proofs.history.events.Goals as goal
use Rattle.run_core.proofs.history.events.Goals.{in-Some+in_ok-event, in_default}

pub loop-place-preserved : goal.loop-place-preserved
loop-place-preserved g c =
    elim c.match-at.branch [
      | in-Some+in_ok-event w ↦
          rw (w.text-is, w.bench-is)
          (events_more c.loop-place.bench w.event.new.bench c.args.history.now c.loop-place.place w.in-Some.next.now _ _ _
          (omega arith) c.loop-place.invariant w.in-Some.ensures w.in_ok-event.ensures.bench w.in_ok-event.ensures.text)
      | in_default w ↦ absurd (no_gap c.args.history.now c.loop-place.place (omega arith) w.in_default.ensures)
    ]
