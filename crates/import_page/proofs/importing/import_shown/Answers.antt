use Rattle.std.proofs.Common.{◌∙◌, ◌<◌, ℕ, List, sym, subst, map, slice_index_or}
use Rattle.std.proofs.lemmas.List.{length-map}
use Rattle.import_core.specs.Tables.{AllTables, all_of}
use Rattle.import_core.specs.Imports.{IsImportOf}
use Rattle.import_core.specs.Notes.{Note, note_of}
use Rattle.import_report.proofs.Whole.{some_nodes, all_places}
use Rattle.import_page.proofs.importing.import_shown.Goals as goal

pub shown_of-shown-requires-clause-some : goal.shown_of-shown-requires-clause-some
shown_of-shown-requires-clause-some g c =
    let import = c.in_ok-import.import in
    let notes : List Note = map note_of import.notes.items in
    some_nodes c.args.lenient c.args.bytes.now (all_of import.tables) notes import.order.items import.left_out.items c.in_ok-import.ensures.import

pub shown_of-shown-requires-clause-places : goal.shown_of-shown-requires-clause-places
shown_of-shown-requires-clause-places g c =
    let import = c.in_ok-import.import in
    let notes : List Note = map note_of import.notes.items in
    λ k d low. subst (λ n. slice_index_or import.order.items k d < n) (length-map import.notes.items note_of)
    (all_places c.args.lenient c.args.bytes.now (all_of import.tables) notes import.order.items import.left_out.items c.in_ok-import.ensures.import k d low)

pub returns-clause-shown : goal.returns-clause-shown
returns-clause-shown g c =
    let import = c.in_ok-import.import in
    let t : AllTables = all_of import.tables in
    let notes : List Note = map note_of import.notes.items in
    let found = c.in_ok-shown.ensures.keys in
    record {
      tables = t;
      notes = notes;
      order = import.order.items;
      import = subst (λ (lines : List ℕ). IsImportOf c.args.lenient c.args.bytes.now t notes import.order.items lines) (sym c.left_out_of-left_out.ensures) c.in_ok-import.ensures.import;
      left = c.in_ok-shown.ensures.bench;
      entries = found.0;
      told = found.1;
      keys_are = found.2;
    }
