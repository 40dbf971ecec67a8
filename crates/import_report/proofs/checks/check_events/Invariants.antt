use Rattle.std.proofs.Common.{◌≡◌, ◌++◌, ℕ, Bool, List, map, drop, string_bytes}
use Rattle.import_core.specs.Notes.{note_of}
use Rattle.import_report.specs.Checks.{AreChecked}
use Rattle.import_report.specs.Scripts.{in_order}
use Rattle.import_report.proofs.checks.check_events.Given as goal

-- what is told of the rest, whatever it be, is the end of what is told of all
abbrev pub invariant-loop-place : goal.invariant-loop-place
invariant-loop-place g l = record {
  names : l.bench.names ≡ l.fn.bench.names;
  told : (found : List Bool) × (told : List ℕ) × (l.agreements.items ≡ l.fn.agreements.items ++ found) × (string_bytes l.text ≡ string_bytes l.fn.text ++ told)
      × ((later : List Bool) (rest : List ℕ) →
      AreChecked l.fn.bench.names (record { machine = l.bench; numbers = l.numbers }) (in_order (map note_of l.import.notes.items) (drop l.place-index l.import.order.items)) later rest →
      AreChecked l.fn.bench.names (record { machine = l.fn.bench; numbers = l.fn.numbers }) (in_order (map note_of l.import.notes.items) l.import.order.items) (found ++ later) (told ++ rest));
}
