-- What stands for an event in tables that grew.
use Rattle.std.proofs.Common.{◌≡◌, ℕ, Bool, true, false, not, List, [], ◌∷◌, ◌++◌, Option, Some, None, is_some, option_map, IfSome, refl}
use Rattle.std.specs.FinSet as set
use Rattle.serde_json.specs.Data.{Items, no_items, item}
use Rattle.dots_core.specs.Names.{Names}
use Rattle.payload_core.specs.Presences.{Presence}
use Rattle.node_core.specs.declared.step.Step.{Step}
use Rattle.node_core.specs.Operations.{Operation, plain}
use Rattle.serde_json.specs.Find.{as_str}
use Rattle.diff_core.specs.Rows.{Row}
use Rattle.log_core.specs.Events as log
use Rattle.log_core.specs.Lines.{Numbered}
use Rattle.import_core.specs.Tables.{AllTables, Keeps}
use Rattle.import_core.specs.Steps.{IsPresenceOf, NodeIn, AreNodesOf, IsStepOf, IsSentOf, is_online}
use Rattle.import_core.specs.Listed.{IsRowOf, RowIn, AreRowsOf, IsListOf}
use Rattle.import_core.specs.Notes.{Note, IsMaybeStepOf, IsNoteOf, AreNotesOf}
use Rattle.import_core.proofs.Kept.{later_word, later_pid, later_node, later_message}

module _ (a b : AllTables) (keeps : Keeps a b) where
  later_presence : (tracked : log.Tracked) (p : Presence) → IsPresenceOf a tracked p → IsPresenceOf b tracked p
  later_presence tracked p is = record {
    pid = later_pid a b keeps tracked.pid p.pid is.pid;
    topic = later_word a b keeps tracked.topic p.topic is.topic;
    key = later_word a b keeps tracked.key p.key is.key;
    metadata = later_word a b keeps tracked.meta p.metadata is.metadata;
  }

  later_nodes : (found : Names) (ds : Items) (names : Names) → AreNodesOf a found ds names → AreNodesOf b found ds names
  later_nodes found no_items names is = is
  later_nodes found (item d ds) names is = go (as_str d) (λ more. later_nodes more ds names) is
    where
      go : (o : Option (List ℕ)) → ((more : Names) → AreNodesOf a more ds names → AreNodesOf b more ds names) → NodeIn a found o (λ more. AreNodesOf a more ds names) →
          NodeIn b found o (λ more. AreNodesOf b more ds names)
      go None rest h = rest found h
      go (Some name) rest (node, here, h) = (node, later_node a b keeps name node here, rest (set.insert found node) h)

  pub later_row : (listed : log.Row) (row : Row) → IsRowOf a listed row → IsRowOf b listed row
  later_row listed row is = record {
    node = later_node a b keeps listed.node row.name is.node;
    pid = later_pid a b keeps listed.tracked.pid row.pid is.pid;
    topic = later_word a b keeps listed.tracked.topic row.topic is.topic;
    key = later_word a b keeps listed.tracked.key row.key is.key;
    metadata = later_word a b keeps listed.tracked.meta row.metadata is.metadata;
    clock = is.clock;
  }

  later_rows : (found : List Row) (ds : Items) (rows : List Row) → AreRowsOf a found ds rows → AreRowsOf b found ds rows
  later_rows found no_items rows is = is
  later_rows found (item d ds) rows is = go (log.row_at d) (λ more. later_rows more ds rows) is
    where
      go : (o : Option log.Row) → ((more : List Row) → AreRowsOf a more ds rows → AreRowsOf b more ds rows) → RowIn a found o (λ more. AreRowsOf a more ds rows) →
          RowIn b found o (λ more. AreRowsOf b more ds rows)
      go None rest h = rest found h
      go (Some listed) rest (row, here, h) = (row, later_row listed row here, rest (found ++ row ∷ []) h)

  later_list : (event : log.Event) (rows : List Row) → IsListOf a event rows → IsListOf b event rows
  later_list (log.join tracked) rows is = is
  later_list (log.update tracked) rows is = is
  later_list (log.leave pid topic key) rows is = is
  later_list (log.leave_all pid) rows is = is
  later_list (log.broadcast message) rows is = is
  later_list (log.request message) rows is = is
  later_list (log.extract names message) rows is = is
  later_list (log.deliver from message) rows is = is
  later_list (log.answer from message sends) rows is = is
  later_list (log.up name) rows is = is
  later_list (log.down name) rows is = is
  later_list (log.permdown name) rows is = is
  later_list (log.online ds) rows is = later_rows [] ds rows is

  later_step : (event : log.Event) (step : Operation) → IsStepOf a event step → IsStepOf b event step
  later_step (log.join tracked) step (p, is, here) = (p, is, later_presence tracked p here)
  later_step (log.update tracked) step (p, is, here) = (p, is, later_presence tracked p here)
  later_step (log.leave pid topic key) step (n, v, w, is, at_pid, at_topic, at_key) =
      (n, v, w, is, later_pid a b keeps pid n at_pid, later_word a b keeps topic v at_topic, later_word a b keeps key w at_key)
  later_step (log.leave_all pid) step (n, is, here) = (n, is, later_pid a b keeps pid n here)
  later_step (log.broadcast message) step is = is
  later_step (log.request message) step is = is
  later_step (log.extract names message) step (nodes, is, here) = (nodes, is, later_nodes set.empty names nodes here)
  later_step (log.deliver from message) step (n, k, is, here, told) = (n, k, is, later_node a b keeps from n here, later_message a b keeps n message k told)
  later_step (log.answer from message sends) step (n, k, is, here, told) =
      (n, k, is, later_node a b keeps from n here, later_message a b keeps n message k told)
  later_step (log.up name) step (n, is, here) = (n, is, later_node a b keeps name n here)
  later_step (log.down name) step (n, is, here) = (n, is, later_node a b keeps name n here)
  later_step (log.permdown name) step (n, is, here) = (n, is, later_node a b keeps name n here)
  later_step (log.online rows) step is = is

  pub later_sent : (node : ℕ) (event : log.Event) (sends : Option ℕ) → IsSentOf a node event sends → IsSentOf b node event sends
  later_sent node (log.join tracked) sends is = is
  later_sent node (log.update tracked) sends is = is
  later_sent node (log.leave pid topic key) sends is = is
  later_sent node (log.leave_all pid) sends is = is
  later_sent node (log.broadcast message) sends (k, is, here) = (k, is, later_message a b keeps node message k here)
  later_sent node (log.request message) sends (k, is, here) = (k, is, later_message a b keeps node message k here)
  later_sent node (log.extract names message) sends (k, is, here) = (k, is, later_message a b keeps node message k here)
  later_sent node (log.deliver from message) sends is = is
  later_sent node (log.answer from message answer) sends (k, is, here) = (k, is, later_message a b keeps node answer k here)
  later_sent node (log.up name) sends is = is
  later_sent node (log.down name) sends is = is
  later_sent node (log.permdown name) sends is = is
  later_sent node (log.online rows) sends is = is

  pub later_maybe : (event : log.Event) (step : Option Operation) → IsMaybeStepOf a event step → IsMaybeStepOf b event step
  later_maybe event None is = is
  later_maybe event (Some step) is = later_step event step is

  pub later_note : (event : Numbered) (note : Note) → IsNoteOf a event note → IsNoteOf b event note
  later_note event note is = record {
    number = is.number;
    node = later_node a b keeps event.line.node note.logged.node is.node;
    few = is.few;
    step = later_maybe event.line.event note.step is.step;
    waits = is.waits;
    sends = later_sent note.logged.node event.line.event note.logged.sends is.sends;
    rows = later_list event.line.event note.rows is.rows;
  }

  pub later_notes : (lines : List Numbered) (notes : List Note) → AreNotesOf a lines notes → AreNotesOf b lines notes
  later_notes [] [] are = are
  later_notes [] (n ∷ ns) are = elim are [ ]
  later_notes (l ∷ ls) [] are = elim are [ ]
  later_notes (l ∷ ls) (n ∷ ns) are = (later_note l n are.0, later_notes ls ns are.1)

-- the step that was made, if one was

listed : (b : Bool) → false ≡ not b → b ≡ true
listed true e = refl
listed false e = absurd (cc)

pub maybe_step : {X : Type 0} (t : AllTables) (event : log.Event) (s : Option (Step X)) → IfSome s (λ step. IsStepOf t event (plain step)) →
    is_some s ≡ not (is_online event) → IsMaybeStepOf t event (option_map plain s)
maybe_step t event None h some = listed (is_online event) some
maybe_step t event (Some step) h some = h

pub notes_more : (t : AllTables) (lines : List Numbered) (notes : List Note) (line : Numbered) (note : Note) → AreNotesOf t lines notes →
    IsNoteOf t line note → AreNotesOf t (lines ++ line ∷ []) (notes ++ note ∷ [])
notes_more t [] [] line note are is = (is, tt)
notes_more t [] (n ∷ ns) line note are is = elim are [ ]
notes_more t (l ∷ ls) [] line note are is = elim are [ ]
notes_more t (l ∷ ls) (n ∷ ns) line note are is = (are.0, notes_more t ls ns line note are.1 is)
