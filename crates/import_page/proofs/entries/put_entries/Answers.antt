use Rattle.std.proofs.Common.{◌≡◌, ◌+◌, ◌<◌, ◌++◌, ◌∷◌, [], ℕ, List, length, map, drop, slice_index, All, refl, sym, ap, ◌∙◌, subst, append-nil, append_assoc, arith, string_bytes}
use Rattle.std.proofs.lemmas.List.{get_or-map, at_drop_more, at_drop_all}
use Rattle.import_core.specs.Notes.{Note, note_of}
use Rattle.import_core.specs.Imports.{no_note, note_at}
use Rattle.import_report.specs.Events.{Playing, after_event, after_events}
use Rattle.import_report.specs.Scripts.{in_order}
use Rattle.import_page.specs.Entries.{AreEntries, IsEntry}
use Rattle.import_page.proofs.entries.put_entries.Goals as goal

pub loop-index-init : goal.loop-index-init
loop-index-init g c = record { bench = refl; told = ([], sym (append-nil (string_bytes c.args.playback.now.entries)), λ rest are. are) }

pub loop-index-preserved : goal.loop-index-preserved
unfolding after_events
loop-index-preserved g c =
    let order = c.args.import.now.order.items in
    let places = c.deref-place-items.result.now in
    let same : places ≡ order = c.deref-place-items.ensures.value in
    let i = c.loop-index.index in
    let place : ℕ = slice_index places i in
    let noted = c.args.import.now.notes.items in
    let notes : List Note = map note_of noted in
    let lines : List (List ℕ) = map (λ line. line.now) c.args.lines.now in
    let there : place < length noted = subst (All (λ p. p < length noted)) (sym same) c.requires i 0 c.loop-index-test.true in
    let note : Note = note_of c.index-note.result.now in
    let others : List Note = in_order notes (drop (i + 1) order) in
    let at : note_at notes place ≡ note =
    get_or-map note_of noted place c.index-note.result.now no_note there ∙ ap note_of (sym c.index-note.ensures) in
    let left : in_order notes (drop i order) ≡ note ∷ others =
    subst (λ (o : List ℕ). in_order notes (drop i o) ≡ note ∷ in_order notes (drop (i + 1) o)) same
    (at_drop_more (in_order notes) places i 0 c.loop-index-test.true ∙ ap (λ (n : Note). n ∷ in_order notes (drop (i + 1) places)) at) in
    let all : List Note = in_order notes order in
    let first : Playing = record { machine = c.args.playback.now.bench; numbers = c.args.playback.now.numbers.items } in
    let p : Playing = record { machine = c.loop-index.playback.bench; numbers = c.loop-index.playback.numbers.items } in
    let q : Playing = record { machine = c.put_entry.new.playback.bench; numbers = c.put_entry.new.playback.numbers.items } in
    let after : q ≡ after_event p note =
    ap (λ m. record { machine = m; numbers = q.numbers }) c.in_ok-put_entry.ensures.bench
    ∙ ap (λ n. record { machine = (after_event p note).machine; numbers = n }) c.in_ok-put_entry.ensures.numbers in
    let so = c.loop-index.invariant.told in
    let event = c.in_ok-put_entry.ensures.told in
    record {
      bench = ap (λ r. after_events r others) after ∙ ap (after_events p) (sym left) ∙ c.loop-index.invariant.bench;
      told = (
        so.0 ++ event.0,
        event.1 ∙ ap (λ l. l ++ event.0) so.1 ∙ append_assoc (string_bytes c.args.playback.now.entries) so.0 event.0,
        λ rest are.
            subst (λ (l : List ℕ). AreEntries lines first 0 all l) (sym (append_assoc so.0 event.0 rest))
            (so.2 (event.0 ++ rest)
            (subst (λ (ns : List Note). AreEntries lines p i ns (event.0 ++ rest)) (sym left)
            (event.0, rest, event.2, subst (λ (r : Playing). AreEntries lines r (i + 1) others rest) after are, refl))),
      );
    }

pub returns-clause-told : goal.returns-clause-told
returns-clause-told g c =
    let order = c.args.import.now.order.items in
    let i = c.loop-index.index in
    let past = c.loop-index-test.false in
    let sizes = ap length c.deref-place-items.ensures.value in
    let notes : List Note = map note_of c.args.import.now.notes.items in
    let lines : List (List ℕ) = map (λ line. line.now) c.args.lines.now in
    let p : Playing = record { machine = c.loop-index.playback.bench; numbers = c.loop-index.playback.numbers.items } in
    let first : Playing = record { machine = c.args.playback.now.bench; numbers = c.args.playback.now.numbers.items } in
    let so = c.loop-index.invariant.told in
    let none : in_order notes (drop i order) ≡ [] = at_drop_all (in_order notes) order i (omega (arith, past, sizes)) in
    let all : AreEntries lines first 0 (in_order notes order) (so.0 ++ []) =
    so.2 [] (subst (λ ns. AreEntries lines p i ns []) (sym none) refl) in
    (so.0, so.1, subst (λ (l : List ℕ). AreEntries lines first 0 (in_order notes order) l) (append-nil so.0) all)

pub returns-clause-bench : goal.returns-clause-bench
unfolding after_events
returns-clause-bench g c =
    let order = c.args.import.now.order.items in
    let i = c.loop-index.index in
    let past = c.loop-index-test.false in
    let sizes = ap length c.deref-place-items.ensures.value in
    let notes : List Note = map note_of c.args.import.now.notes.items in
    let p : Playing = record { machine = c.loop-index.playback.bench; numbers = c.loop-index.playback.numbers.items } in
    ap (λ ns. (after_events p ns).machine) (sym (at_drop_all (in_order notes) order i (omega (arith, past, sizes)))) ∙ ap (λ (q : Playing). q.machine) c.loop-index.invariant.bench
