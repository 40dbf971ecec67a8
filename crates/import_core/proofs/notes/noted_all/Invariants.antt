use Rattle.std.proofs.Common.{◌≡◌, ◌≤◌, length, map, take}
use Rattle.import_core.specs.Tables.{all_of}
use Rattle.import_core.specs.Notes.{note_of}
use Rattle.import_core.specs.Imports.{AreNoted}
use Rattle.import_core.specs.Sights.{SeesValues, pids_on, words_on}
use Rattle.import_core.specs.Seen.{names_on, with_texts}
use Rattle.import_core.proofs.notes.noted_all.Given as goal

abbrev pub invariant-loop-index : goal.invariant-loop-index
invariant-loop-index g l = record {
  noted : AreNoted (all_of l.tables) (map (λ line. line.now) (take l.index l.lines)) (map note_of l.notes.items);
  seen : l.tables.nodes ≡ with_texts l.initial.tables.nodes (names_on (map (λ line. line.now) (take l.index l.lines)));
  values : SeesValues (all_of l.initial.tables) (all_of l.tables) (pids_on (map (λ line. line.now) (take l.index l.lines))) (words_on (map (λ line. line.now) (take l.index l.lines)));
  few : length (all_of l.initial.tables).nodes ≤ 32 → length (all_of l.tables).nodes ≤ 32;
}
