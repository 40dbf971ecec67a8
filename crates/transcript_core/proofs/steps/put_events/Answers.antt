use Rattle.std.proofs.Common.{◌+◌, ◌++◌, ◌∙◌, map, drop, sym, ap, arith}
use Rattle.run_core.specs.Report.{call_of}
use Rattle.run_core.proofs.Printed.{no_gap}
use Rattle.bench_core.specs.Machine.{Machine}
use Rattle.transcript_core.specs.Scripts.{cast_of}
use Rattle.transcript_core.specs.Steps.{command_steps, steps_text}
use Rattle.transcript_core.proofs.StepsTold.{names_stay, steps_more}
use Rattle.transcript_core.proofs.Walks.{left_more}
use Rattle.transcript_core.proofs.steps.put_events.Goals as goal
use Rattle.transcript_core.proofs.steps.put_events.Goals.{in-Some+in_ok-put_event, in_default}

pub loop-place-preserved : goal.loop-place-preserved
loop-place-preserved g c =
    let m = c.loop-place.bench in
    let cast = cast_of c.args.bench.now c.args.consoles.now in
    let takers = c.args.takers.now in
    let i = c.loop-place.place in
    elim c.match-at.branch [
      | in-Some+in_ok-put_event w ↦
          let e = w.in-Some.event.now in
          rw (w.out-is, w.bench-is) (record {
            names = ap (λ (b : Machine). b.names) w.in_ok-put_event.ensures.bench ∙ names_stay m (call_of e) ∙ c.loop-place.invariant.names;
            text = steps_more cast takers m w.put_event.new.bench (call_of e) (map call_of (drop (i + 1) c.args.history.now))
                c.loop-place.out.items w.put_event.new.out.items _
                (ap (λ t. c.loop-place.out.items ++ t) (sym (left_more (λ es. steps_text cast takers m (map call_of es)) c.args.history.now i e
                (omega arith) w.in-Some.ensures)) ∙ c.loop-place.invariant.text)
                (w.in_ok-put_event.ensures.text
                ∙ ap (λ ns. c.loop-place.out.items ++ command_steps (record { nodes = ns; consoles = c.args.consoles.now }) takers m (call_of e)) c.loop-place.invariant.names)
                w.in_ok-put_event.ensures.bench;
          })
      | in_default w ↦ absurd (no_gap c.args.history.now i (omega arith) w.in_default.ensures)
    ]
