use Rattle.std.proofs.Common.{◌∙◌, ◌<◌, ℕ, List, sym, subst, map, slice_index_or}
use Rattle.std.proofs.lemmas.List.{length-map}
use Rattle.import_core.specs.Tables.{AllTables, all_of}
use Rattle.import_core.specs.Imports.{IsImportOf}
use Rattle.import_core.specs.Notes.{Note, note_of}
use Rattle.import_report.proofs.Whole.{some_nodes, all_places}
use Rattle.import_report.proofs.importing.import_bench.Goals as goal

pub script_of_import-scripted-requires-clause-some : goal.script_of_import-scripted-requires-clause-some
script_of_import-scripted-requires-clause-some g c =
    let import = c.in_ok-import.import in
    let notes : List Note = map note_of import.notes.items in
    some_nodes c.args.lenient c.args.bytes.now (all_of import.tables) notes import.order.items import.left_out.items c.in_ok-import.ensures.import

pub script_of_import-scripted-requires-clause-places : goal.script_of_import-scripted-requires-clause-places
script_of_import-scripted-requires-clause-places g c =
    let import = c.in_ok-import.import in
    let notes : List Note = map note_of import.notes.items in
    λ k d low. subst (λ n. slice_index_or import.order.items k d < n) (length-map import.notes.items note_of)
    (all_places c.args.lenient c.args.bytes.now (all_of import.tables) notes import.order.items import.left_out.items c.in_ok-import.ensures.import k d low)

pub returns-clause-bench : goal.returns-clause-bench
returns-clause-bench g c =
    let import = c.in_ok-import.import in
    let t : AllTables = all_of import.tables in
    let notes : List Note = map note_of import.notes.items in
    record {
      tables = t;
      notes = notes;
      order = import.order.items;
      import = subst (λ (lines : List ℕ). IsImportOf c.args.lenient c.args.bytes.now t notes import.order.items lines) (sym c.left_out_of-left_out.ensures) c.in_ok-import.ensures.import;
      left = c.bench_of.ensures ∙ c.in_ok-scripted.ensures.bench;
    }
