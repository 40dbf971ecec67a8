use Rattle.std.proofs.Common.{◌≡◌, ◌+◌, ◌<◌, ◌++◌, ◌∷◌, ℕ, List, length, map, drop, slice_index, All, sym, ap, ◌∙◌, subst, append-nil, arith, string_bytes}
use Rattle.std.proofs.lemmas.List.{get_or-map, at_drop_more, at_drop_all}
use Rattle.bench_core.specs.NameList.{Texts}
use Rattle.import_core.specs.Notes.{Note, note_of}
use Rattle.import_core.specs.Imports.{no_note, note_at}
use Rattle.import_report.specs.Events.{Playing, after_event, after_events, event_text, events_text}
use Rattle.import_report.specs.Scripts.{in_order}
use Rattle.import_report.proofs.Played.{names_stay, events_more}
use Rattle.import_report.proofs.script.put_events.Goals as goal

pub loop-place-preserved : goal.loop-place-preserved
unfolding after_events
loop-place-preserved g c =
    let order = c.args.import.now.order.items in
    let places = c.deref-place-items.result.now in
    let same : places ≡ order = c.deref-place-items.ensures.value in
    let i = c.loop-place.place-index in
    let place : ℕ = slice_index places i in
    let noted = c.args.import.now.notes.items in
    let notes : List Note = map note_of noted in
    let names : Texts = c.args.bench.now.names in
    let there : place < length noted = subst (All (λ p. p < length noted)) (sym same) c.requires i 0 c.loop-place-test.true in
    let note : Note = note_of c.index-note.result.now in
    let rest : List Note = in_order notes (drop (i + 1) order) in
    let at : note_at notes place ≡ note =
    get_or-map note_of noted place c.index-note.result.now no_note there ∙ ap note_of (sym c.index-note.ensures) in
    let left : in_order notes (drop i order) ≡ note ∷ rest =
    subst (λ (o : List ℕ). in_order notes (drop i o) ≡ note ∷ in_order notes (drop (i + 1) o)) same
    (at_drop_more (in_order notes) places i 0 c.loop-place-test.true ∙ ap (λ (n : Note). n ∷ in_order notes (drop (i + 1) places)) at) in
    let p : Playing = record { machine = c.loop-place.bench; numbers = c.loop-place.numbers } in
    let q : Playing = record { machine = c.put_lines.new.bench; numbers = c.put_lines.new.numbers } in
    let after : q ≡ after_event p note =
    ap (λ m. record { machine = m; numbers = q.numbers }) c.in_ok-put_lines.ensures.bench
    ∙ ap (λ n. record { machine = (after_event p note).machine; numbers = n }) c.in_ok-put_lines.ensures.numbers in
    record {
      names = ap (λ m. m.names) c.in_ok-put_lines.ensures.bench ∙ names_stay p note ∙ c.loop-place.invariant.names;
      bench = ap (λ r. after_events r rest) after ∙ ap (after_events p) (sym left) ∙ c.loop-place.invariant.bench;
      text = events_more c.args.told names p q note rest (string_bytes c.loop-place.text) (string_bytes c.put_lines.new.text) _
          (ap (λ ns. string_bytes c.loop-place.text ++ events_text c.args.told names p ns) (sym left) ∙ c.loop-place.invariant.text)
          (c.in_ok-put_lines.ensures.text ∙ ap (λ ns. string_bytes c.loop-place.text ++ event_text c.args.told ns p note) c.loop-place.invariant.names)
          after;
    }

pub returns-clause-bench : goal.returns-clause-bench
unfolding after_events
returns-clause-bench g c =
    let order = c.args.import.now.order.items in
    let i = c.loop-place.place-index in
    let past = c.loop-place-test.false in
    let sizes = ap length c.deref-place-items.ensures.value in
    let notes : List Note = map note_of c.args.import.now.notes.items in
    let p : Playing = record { machine = c.loop-place.bench; numbers = c.loop-place.numbers } in
    ap (λ ns. (after_events p ns).machine) (sym (at_drop_all (in_order notes) order i (omega (arith, past, sizes)))) ∙ ap (λ (q : Playing). q.machine) c.loop-place.invariant.bench

pub returns-clause-text : goal.returns-clause-text
unfolding events_text
returns-clause-text g c =
    let order = c.args.import.now.order.items in
    let i = c.loop-place.place-index in
    let past = c.loop-place-test.false in
    let sizes = ap length c.deref-place-items.ensures.value in
    let notes : List Note = map note_of c.args.import.now.notes.items in
    let p : Playing = record { machine = c.loop-place.bench; numbers = c.loop-place.numbers } in
    let now = string_bytes c.loop-place.text in
    sym (append-nil now)
    ∙ ap (λ ns. now ++ events_text c.args.told c.args.bench.now.names p ns) (sym (at_drop_all (in_order notes) order i (omega (arith, past, sizes))))
    ∙ c.loop-place.invariant.text
