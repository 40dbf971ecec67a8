use Rattle.std.proofs.Common.{◌++◌, ◌∙◌, string_bytes, ap, arith}
use Rattle.transcript_core.specs.Scripts.{cast_of}
use Rattle.page_data.specs.Json.{comma_at}
use Rattle.page_data.specs.PageData.{call_text}
use Rattle.page_data.proofs.Told.{names_stay}
use Rattle.page_data.proofs.Walks.{calls_all, calls_more, no_gap}
use Rattle.page_data.proofs.data.put_events.Goals as goal
use Rattle.page_data.proofs.data.put_events.Goals.{in-Some+in_ok-put_event, in_default}

pub loop-place-preserved : goal.loop-place-preserved
loop-place-preserved g c =
    let m = c.loop-place.bench in
    let i = c.loop-place.place in
    let consoles = c.args.consoles.now in
    elim c.match-at.branch [
      | in-Some+in_ok-put_event w ↦
          let e = w.in-Some.event.now in
          rw (w.text-is, w.bench-is) (record {
            names = names_stay m w.put_event.new.bench e.actor e.act w.in_ok-put_event.ensures.bench ∙ c.loop-place.invariant.names;
            text = calls_more (cast_of c.args.bench.now consoles) m w.put_event.new.bench c.args.history.now i e (string_bytes c.loop-place.text)
                (string_bytes w.put_event.new.text) _ (omega arith) w.in-Some.ensures c.loop-place.invariant.text w.in_ok-put_event.ensures.bench
                (w.in_ok-put_event.ensures.text
                ∙ ap (λ ns. string_bytes c.loop-place.text ++ comma_at i ++ call_text (record { nodes = ns; consoles = consoles }) m e.actor e.act)
                c.loop-place.invariant.names);
          })
      | in_default w ↦ absurd (no_gap c.args.history.now i (omega arith) w.in_default.ensures)
    ]

pub returns : goal.returns
returns g c = calls_all _ c.loop-place.bench c.args.history.now c.loop-place.place _ _ (omega arith) c.loop-place.invariant.text
