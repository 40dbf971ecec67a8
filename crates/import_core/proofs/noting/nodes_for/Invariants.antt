use Rattle.std.proofs.Common.{◌≡◌, [], drop}
use Rattle.std.specs.FinSet as set
use Rattle.dots_core.specs.Names.{Names}
use Rattle.serde_json.specs.View.{items_view}
use Rattle.import_core.specs.Tables.{AllTables, Keeps, all_of}
use Rattle.import_core.specs.Steps.{AreNodesOf}
use Rattle.import_core.specs.Sights.{SeesValues}
use Rattle.import_core.specs.Seen.{names_among, with_texts}
use Rattle.import_core.proofs.noting.nodes_for.Given as goal

abbrev pub invariant-loop-value : goal.invariant-loop-value
invariant-loop-value g l = record {
  kept : Keeps (all_of l.initial.tables) (all_of l.tables);
  seen : with_texts l.tables.nodes (names_among (items_view (drop l.value-index l.names))) ≡ with_texts l.initial.tables.nodes (names_among (items_view l.names));
  values : SeesValues (all_of l.initial.tables) (all_of l.tables) [] [];
  nodes : (t : AllTables) (all : Names) → Keeps (all_of l.tables) t → AreNodesOf t l.nodes (items_view (drop l.value-index l.names)) all →
      AreNodesOf t set.empty (items_view l.names) all;
}
