-- The script of an import.
use Rattle.std.proofs.Common.{◌≡◌, ℕ, ◌^◌, ◌<◌, ◌≤◌, Bool, List, [], ◌∷◌, ◌++◌, length, slice_index_or, All, sym, subst, arith}
use Rattle.std.proofs.lemmas.List.{length-map}
use Rattle.bench_core.specs.Limits.{Limits}
use Rattle.log_core.specs.Lines.{Numbered}
use Rattle.import_core.specs.Tables.{AllTables}
use Rattle.import_core.specs.Notes.{Note, AreNotesOf, logged_of}
use Rattle.import_core.specs.Imports.{IsImportOf}
use Rattle.import_core.proofs.Known.{places_known}
use Rattle.import_core.proofs.LeftOut.{notes_stay}
use Rattle.import_core.proofs.Numbers.{at_number}
use Rattle.import_report.specs.Names.{AreNames, shown_names}
use Rattle.import_report.specs.Events.{events_text, events_commands}
use Rattle.import_report.specs.Comments.{comments_text}
use Rattle.import_report.specs.Scripts.{in_order, opening, script_text, IsReadAs, IsScriptOf}
use Rattle.import_report.proofs.ReadEvents.{events_read, whole_read}
use Rattle.import_report.proofs.ReadBack.{both_read}
use Rattle.import_report.proofs.ReadComments.{comments_read}
use Rattle.import_report.proofs.Told.{import_can}

-- an event has a node
noted_nodes : (t : AllTables) (events : List Numbered) (notes : List Note) → AreNotesOf t events notes → 0 < length notes → 0 < length t.nodes
noted_nodes t events [] are some = absurd (omega (arith, some))
noted_nodes t [] (n ∷ ns) are some = elim are [ ]
noted_nodes t (e ∷ es) (n ∷ ns) are some = let low = (at_number t.nodes e.line.node n.logged.node are.0.node).0 in omega (arith, low)

pub some_nodes : (lenient : Bool) (bytes : List ℕ) (t : AllTables) (notes : List Note) (order left_out : List ℕ) → IsImportOf lenient bytes t notes order left_out → 0 < length t.nodes
some_nodes lenient bytes t notes order left_out is =
    let kept = notes_stay t lenient is.noted.events is.all notes left_out is.noted.noted is.stay in
    noted_nodes t kept.0 notes kept.1 is.some

-- each place of the order is that of an event
pub all_places : (lenient : Bool) (bytes : List ℕ) (t : AllTables) (notes : List Note) (order left_out : List ℕ) → IsImportOf lenient bytes t notes order left_out →
    All (λ place. place < length notes) order
all_places lenient bytes t notes order left_out is k d low =
    subst (λ n. slice_index_or order k d < n) (length-map notes (λ (n : Note). n.logged)) (places_known (logged_of notes) order is.ordered k d low)

pub script_holds : (lenient told : Bool) (limits : Limits) (bytes : List ℕ) (t : AllTables) (notes : List Note) (order left_out text : List ℕ) →
    IsImportOf lenient bytes t notes order left_out → AreNames (shown_names t.nodes) → length (shown_names t.nodes) ≡ length t.nodes →
    length t.longs < 2 ^ 64 → text ≡ script_text told limits (shown_names t.nodes) t (in_order notes order) → length text ≤ 1048576 →
    IsScriptOf told limits (shown_names t.nodes) t (in_order notes order) text
unfolding script_text
script_holds lenient told limits bytes t notes order left_out text is are count few at short =
    let names = shown_names t.nodes in
    let events = in_order notes order in
    let p = opening limits names (length t.messages) in
    record {
      is = at;
      short = short;
      read = subst (λ x. IsReadAs x names (events_commands p events)) (sym at)
          (whole_read names are (comments_text names t ++ events_text told names p events) (events_commands p events) (subst (λ x. length x ≤ 1048576) at short)
          (both_read names (comments_text names t) (events_text told names p events) [] (events_commands p events) (comments_read names are t count few)
          (events_read names are told p events (import_can names lenient bytes t notes order left_out count is (all_places lenient bytes t notes order left_out is)))));
    }
