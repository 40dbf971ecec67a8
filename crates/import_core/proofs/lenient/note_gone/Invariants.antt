use Rattle.std.proofs.Common.{◌≡◌, ◌++◌, false, map, drop, slice_index_or}
use Rattle.import_core.specs.Lenient.{lines_gone}
use Rattle.import_core.specs.Notes.{note_of}
use Rattle.import_core.proofs.lenient.note_gone.Given as goal

-- the lines so far, and then those of the rest
abbrev pub invariant-loop-note : goal.invariant-loop-note
invariant-loop-note g l =
    l.left_out.items ++ lines_gone (λ m. slice_index_or l.sent m false) (map note_of (drop l.note-index l.notes))
    ≡ l.fn.left_out.items ++ lines_gone (λ m. slice_index_or l.sent m false) (map note_of l.notes)
