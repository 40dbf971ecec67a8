use Rattle.std.proofs.Common.{◌≡◌, List, [], drop}
use Rattle.serde_json.specs.View.{items_view}
use Rattle.diff_core.specs.Rows.{Row}
use Rattle.import_core.specs.Tables.{AllTables, Keeps, all_of}
use Rattle.import_core.specs.Listed.{AreRowsOf}
use Rattle.import_core.specs.Sights.{SeesValues, pids_among, words_among}
use Rattle.import_core.specs.Seen.{nodes_among, with_texts}
use Rattle.import_core.proofs.rows.rows_for.Given as goal

abbrev pub invariant-loop-value : goal.invariant-loop-value
invariant-loop-value g l = record {
  kept : Keeps (all_of l.initial.tables) (all_of l.tables);
  seen : with_texts l.tables.nodes (nodes_among (items_view (drop l.value-index l.values))) ≡ with_texts l.initial.tables.nodes (nodes_among (items_view l.values));
  values : (t : AllTables) →
      SeesValues (all_of l.tables) t (pids_among (items_view (drop l.value-index l.values))) (words_among (items_view (drop l.value-index l.values))) →
      SeesValues (all_of l.initial.tables) t (pids_among (items_view l.values)) (words_among (items_view l.values));
  rows : (t : AllTables) (all : List Row) → Keeps (all_of l.tables) t → AreRowsOf t l.rows.items (items_view (drop l.value-index l.values)) all →
      AreRowsOf t [] (items_view l.values) all;
}
