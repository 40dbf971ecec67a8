use Rattle.std.proofs.Common.{◌≡◌, ◌∙◌, ◌<◌, List, Some, ap, arith, length, rules}
use Rattle.std.specs.Prelude.{slice_get}
use Rattle.bench_core.specs.Machine.{Event}
use Rattle.journal_core.specs.Journals.{Kept}
use Rattle.picture_core.specs.Shades.{drawn_steps, with_reply}
use Rattle.picture_core.proofs.Counts.{no_gap, noted_all, noted_more}
use Rattle.picture_core.proofs.shade.drawn_steps.Goals as goal
use Rattle.picture_core.proofs.shade.drawn_steps.Goals.{in-Some, in_default}

pub loop-place-preserved : goal.loop-place-preserved
loop-place-preserved g c =
    let events = c.args.bench.now.state.history in
    let remaining = c.args.bench.now.state.remaining in
    let painted = c.args.painted.now in
    let n = c.loop-place.place in
    let whole = drawn_steps c.args.bench.now painted in
    elim c.match-at.branch [
      | in-Some w ↦
          let e = w.in-Some.event.now in
          let within : n < length events = omega (arith, ap length c.history-history.ensures) in
          let at : slice_get events n ≡ Some e = search rules in
          rw w.steps-is
          (noted_more remaining painted events n e c.loop-place.steps.items w.note_reply.new.steps.items whole within at
          (w.note_reply.ensures ∙ ap (λ (ks : List Kept). with_reply ks painted n w.event.inside.reply c.loop-place.steps.items) w.remaining.ensures.steps
          ∙ ap (λ (x : Event). with_reply remaining painted n x.reply c.loop-place.steps.items) w.event.view_is)
          c.loop-place.invariant)
      | in_default w ↦ absurd (no_gap events n (omega (arith, ap length c.history-history.ensures)) (search rules))
    ]

pub returns : goal.returns
returns g c =
    noted_all c.args.bench.now.state.remaining c.args.painted.now c.args.bench.now.state.history c.loop-place.place c.loop-place.steps.items
    (drawn_steps c.args.bench.now c.args.painted.now) (omega (arith, ap length c.history-history.ensures)) c.loop-place.invariant
