use Rattle.std.proofs.Common.{◌≡◌, ◌++◌, ℕ, List, map, drop, string_bytes}
use Rattle.import_core.specs.Notes.{note_of}
use Rattle.import_report.specs.Events.{after_events}
use Rattle.import_report.specs.Scripts.{in_order}
use Rattle.import_page.specs.Entries.{AreEntries}
use Rattle.import_page.proofs.entries.put_entries.Given as goal

-- what is told of the rest, whatever it be, is the end of what is told of all
abbrev pub invariant-loop-index : goal.invariant-loop-index
invariant-loop-index g l = record {
  bench : after_events (record { machine = l.playback.bench; numbers = l.playback.numbers.items }) (in_order (map note_of l.import.notes.items) (drop l.index l.import.order.items))
      ≡ after_events (record { machine = l.fn.playback.bench; numbers = l.fn.playback.numbers.items }) (in_order (map note_of l.import.notes.items) l.import.order.items);
  told : (told : List ℕ) × (string_bytes l.playback.entries ≡ string_bytes l.fn.playback.entries ++ told)
      × ((rest : List ℕ) →
      AreEntries (map (λ line. line.now) l.lines) (record { machine = l.playback.bench; numbers = l.playback.numbers.items }) l.index (in_order (map note_of l.import.notes.items) (drop l.index l.import.order.items)) rest →
      AreEntries (map (λ line. line.now) l.lines) (record { machine = l.fn.playback.bench; numbers = l.fn.playback.numbers.items }) 0 (in_order (map note_of l.import.notes.items) l.import.order.items) (told ++ rest));
}
