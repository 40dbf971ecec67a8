use Rattle.std.proofs.Common.{◌≡◌, ℕ, ◌||◌, false, length, map, drop, slice_index_or}
use Rattle.import_core.specs.Lenient.{is_sent}
use Rattle.import_core.specs.Notes.{note_of}
use Rattle.import_core.proofs.lenient.sent_by.Given as goal

-- those that are marked, and those that the rest sends
abbrev pub invariant-loop-note : goal.invariant-loop-note
invariant-loop-note g l = record {
  all : length l.sent.items ≡ l.messages;
  marks : (m : ℕ) → (slice_index_or l.sent.items m false || is_sent (map note_of (drop l.note-index l.notes)) m) ≡ is_sent (map note_of l.notes) m;
}
