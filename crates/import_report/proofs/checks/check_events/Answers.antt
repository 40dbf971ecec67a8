use Rattle.std.proofs.Common.{◌≡◌, ◌+◌, ◌<◌, ◌++◌, ◌∷◌, [], ℕ, Bool, List, length, map, drop, slice_index, All, refl, sym, ap, ◌∙◌, subst, append-nil, append_assoc, arith, string_bytes}
use Rattle.std.proofs.lemmas.List.{get_or-map, at_drop_more, at_drop_all}
use Rattle.bench_core.specs.NameList.{Texts}
use Rattle.import_core.specs.Notes.{Note, note_of}
use Rattle.import_core.specs.Imports.{no_note, note_at}
use Rattle.import_report.specs.Checks.{AreChecked, IsEventChecked}
use Rattle.import_report.specs.Events.{Playing, after_event}
use Rattle.import_report.specs.Scripts.{in_order}
use Rattle.import_report.proofs.Played.{names_stay}
use Rattle.import_report.proofs.checks.check_events.Goals as goal

pub loop-place-init : goal.loop-place-init
loop-place-init g c = record { names = refl; told = ([], [], sym (append-nil c.args.agreements.now.items), sym (append-nil (string_bytes c.args.text.now)), λ later rest are. are) }

pub loop-place-preserved : goal.loop-place-preserved
loop-place-preserved g c =
    let order = c.args.import.now.order.items in
    let places = c.deref-place-items.result.now in
    let same : places ≡ order = c.deref-place-items.ensures.value in
    let i = c.loop-place.place-index in
    let place : ℕ = slice_index places i in
    let noted = c.args.import.now.notes.items in
    let notes : List Note = map note_of noted in
    let names : Texts = c.args.bench.now.names in
    let there : place < length noted = subst (All (λ p. p < length noted)) (sym same) c.requires i 0 c.loop-place-test.true in
    let note : Note = note_of c.index-note.result.now in
    let others : List Note = in_order notes (drop (i + 1) order) in
    let at : note_at notes place ≡ note =
    get_or-map note_of noted place c.index-note.result.now no_note there ∙ ap note_of (sym c.index-note.ensures) in
    let left : in_order notes (drop i order) ≡ note ∷ others =
    subst (λ (o : List ℕ). in_order notes (drop i o) ≡ note ∷ in_order notes (drop (i + 1) o)) same
    (at_drop_more (in_order notes) places i 0 c.loop-place-test.true ∙ ap (λ (n : Note). n ∷ in_order notes (drop (i + 1) places)) at) in
    let all : List Note = in_order notes order in
    let first : Playing = record { machine = c.args.bench.now; numbers = c.args.numbers.now } in
    let p : Playing = record { machine = c.loop-place.bench; numbers = c.loop-place.numbers } in
    let q : Playing = record { machine = c.check_event.new.bench; numbers = c.check_event.new.numbers } in
    let after : q ≡ after_event p note =
    ap (λ m. record { machine = m; numbers = q.numbers }) c.in_ok-check_event.ensures.bench
    ∙ ap (λ n. record { machine = (after_event p note).machine; numbers = n }) c.in_ok-check_event.ensures.numbers in
    let so = c.loop-place.invariant.told in
    let event = c.in_ok-check_event.ensures.told in
    let one : IsEventChecked names p note event.0 event.1 =
    subst (λ ns. IsEventChecked ns p note event.0 event.1) c.loop-place.invariant.names event.4 in
    record {
      names = ap (λ m. m.names) c.in_ok-check_event.ensures.bench ∙ names_stay p note ∙ c.loop-place.invariant.names;
      told = (
        so.0 ++ event.0,
        so.1 ++ event.1,
        event.2 ∙ ap (λ l. l ++ event.0) so.2 ∙ append_assoc c.args.agreements.now.items so.0 event.0,
        event.3 ∙ ap (λ l. l ++ event.1) so.3 ∙ append_assoc (string_bytes c.args.text.now) so.1 event.1,
        λ later rest are.
            subst (λ (l : List Bool). AreChecked names first all l ((so.1 ++ event.1) ++ rest)) (sym (append_assoc so.0 event.0 later))
            (subst (λ (l : List ℕ). AreChecked names first all (so.0 ++ (event.0 ++ later)) l) (sym (append_assoc so.1 event.1 rest))
            (so.4 (event.0 ++ later) (event.1 ++ rest)
            (subst (λ (ns : List Note). AreChecked names p ns (event.0 ++ later) (event.1 ++ rest)) (sym left)
            (event.0, later, event.1, rest, one, subst (λ (r : Playing). AreChecked names r others later rest) after are, refl, refl)))),
      );
    }

pub returns : goal.returns
returns g c =
    let order = c.args.import.now.order.items in
    let i = c.loop-place.place-index in
    let past = c.loop-place-test.false in
    let sizes = ap length c.deref-place-items.ensures.value in
    let notes : List Note = map note_of c.args.import.now.notes.items in
    let names : Texts = c.args.bench.now.names in
    let p : Playing = record { machine = c.loop-place.bench; numbers = c.loop-place.numbers } in
    let q : Playing = record { machine = c.args.bench.now; numbers = c.args.numbers.now } in
    let so = c.loop-place.invariant.told in
    let none : in_order notes (drop i order) ≡ [] = at_drop_all (in_order notes) order i (omega (arith, past, sizes)) in
    let all : AreChecked names q (in_order notes order) (so.0 ++ []) (so.1 ++ []) =
    so.4 [] [] (subst (λ ns. AreChecked names p ns [] []) (sym none) (refl, refl)) in (
      so.0,
      so.1,
      so.2,
      so.3,
      subst (λ (l : List Bool). AreChecked names q (in_order notes order) l so.1) (append-nil so.0)
          (subst (λ (l : List ℕ). AreChecked names q (in_order notes order) (so.0 ++ []) l) (append-nil so.1) all),
    )
