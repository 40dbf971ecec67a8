use Rattle.std.proofs.Common.{◌+◌, ◌++◌, ◌∷◌, [], ℕ, List, false, map, drop, slice_index_or, refl, sym, ap, ◌∙◌, append_assoc, append-nil, arith}
use Rattle.std.proofs.lemmas.List.{at_drop_more, at_drop_all}
use Rattle.import_core.specs.Lenient.{gone, is_sent, lines_gone}
use Rattle.import_core.specs.Notes.{Note, note_of}
use Rattle.import_core.proofs.LeftOut.{lines_more, lines_alike}
use Rattle.import_core.proofs.lenient.note_gone.Goals as goal

pub loop-note-init : goal.loop-note-init
loop-note-init g c = refl

pub loop-note-preserved : goal.loop-note-preserved
loop-note-preserved g c =
    let notes = c.args.notes.now in
    let i = c.loop-note.note-index in
    let note = c.note-item.result in
    let f = λ (m : ℕ). slice_index_or c.args.sent.now m false in
    let rest : List Note = map note_of (drop (i + 1) notes) in
    let before = c.loop-note.left_out.items in
    ap (λ l. l ++ lines_gone f rest) c.in_ok-add_gone.ensures
    ∙ append_assoc before (lines_gone f (note_of note ∷ [])) (lines_gone f rest)
    ∙ ap (λ l. before ++ l) (sym (lines_more f (note_of note) rest))
    ∙ ap (λ n. before ++ lines_gone f (map note_of (n ∷ drop (i + 1) notes))) c.note-item.is
    ∙ sym (at_drop_more (λ ns. before ++ lines_gone f (map note_of ns)) notes i note c.loop-note-test.true)
    ∙ c.loop-note.invariant

pub returns : goal.returns
unfolding gone
returns g c =
    let past = c.loop-note-test.false in
    let notes : List Note = map note_of c.args.notes.now in
    let f = λ (m : ℕ). slice_index_or c.args.sent.now m false in
    let now = c.loop-note.left_out.items in
    sym (append-nil now)
    ∙ ap (λ l. now ++ l) (sym (at_drop_all (λ ns. lines_gone f (map note_of ns)) c.args.notes.now c.loop-note.note-index (omega (arith, past))))
    ∙ c.loop-note.invariant
    ∙ ap (λ l. c.args.left_out.now.items ++ l) (lines_alike f (is_sent notes) c.requires notes)
