use Rattle.std.proofs.Common.{◌≡◌, ◌++◌, map, drop, string_bytes}
use Rattle.import_core.specs.Notes.{note_of}
use Rattle.import_report.specs.Events.{after_events, events_text}
use Rattle.import_report.specs.Scripts.{in_order}
use Rattle.import_report.proofs.script.put_events.Given as goal

-- the text so far, and then that of the events that are left
abbrev pub invariant-loop-place : goal.invariant-loop-place
invariant-loop-place g l = record {
  names : l.bench.names ≡ l.fn.bench.names;
  bench : after_events (record { machine = l.bench; numbers = l.numbers }) (in_order (map note_of l.import.notes.items) (drop l.place-index l.import.order.items))
      ≡ after_events (record { machine = l.fn.bench; numbers = l.fn.numbers }) (in_order (map note_of l.import.notes.items) l.import.order.items);
  text : string_bytes l.text ++ events_text l.told l.fn.bench.names (record { machine = l.bench; numbers = l.numbers }) (in_order (map note_of l.import.notes.items) (drop l.place-index l.import.order.items))
      ≡ string_bytes l.fn.text ++ events_text l.told l.fn.bench.names (record { machine = l.fn.bench; numbers = l.fn.numbers }) (in_order (map note_of l.import.notes.items) l.import.order.items);
}
