use Rattle.std.proofs.Common.{◌≡◌, ◌^◌, ◌<◌, List, [], IfSome, length, map, sym, ap, subst, ◌∙◌, IfErr, arith}
use Rattle.std.specs.List.{AllByRecursion}
use Rattle.std.proofs.lemmas.List.{length-map}
use Rattle.std.proofs.lemmas.Result.{err_from_is_err_and}
use Rattle.event_order.specs.Ordering.{HasNodes, HasMessages, IsOrdered}
use Rattle.log_core.specs.Lines.{lines_of}
use Rattle.import_core.specs.Tables.{AllTables, all_of}
use Rattle.import_core.specs.Notes.{Note, note_of, logged_of}
use Rattle.import_core.specs.Sights.{SeesValues, pids_on, words_on}
use Rattle.import_core.specs.Seen.{names_on, with_texts}
use Rattle.import_core.specs.Imports.{AreNoted}
use Rattle.import_core.specs.Faults.{IsLineFault, IsNotesFault, IsImportFault}
use Rattle.import_core.proofs.Known.{has_nodes, has_messages}
use Rattle.import_core.proofs.LeftOut.{known_sends, notes_stay}
use Rattle.import_core.proofs.NotedLines.{import_line, import_notes}
use Rattle.import_core.proofs.importing.imported.Goals as goal

pub returns-in_err-notes-clause-fault : goal.returns-in_err-notes-clause-fault
returns-in_err-notes-clause-fault g c =
    let bytes = c.args.bytes.now in
    let p = err_from_is_err_and c.from_residual-in_err-notes.result c.from_residual-in_err-notes.ensures.1 in
    let at : map (λ line. line.now) c.deref.result.now ≡ lines_of bytes = ap (map (λ line. line.now)) c.deref.ensures.value ∙ c.in_ok-lines.ensures in
    let none : c.new-tables.result.nodes ≡ [] = ap (λ (t : AllTables). t.nodes) c.new-tables.ensures in
    subst (λ r. IfErr r (IsImportFault c.args.lenient bytes)) (sym p.1)
    (subst (λ fault. IsImportFault c.args.lenient bytes fault) (sym p.2)
    (import_line c.args.lenient bytes c.in_err-notes.field-0.0
    (subst (λ nodes. IsLineFault nodes (lines_of bytes) c.in_err-notes.field-0.0) none
    (subst (λ ls. IsLineFault c.new-tables.result.nodes ls c.in_err-notes.field-0.0) at c.in_err-notes.ensures.fault))))

pub stay-requires : goal.stay-requires
stay-requires g c =
    let are = c.in_ok-notes.ensures.notes in
    subst (λ n. AllByRecursion (λ e. IfSome e.logged.sends (λ m. m < n)) (map note_of c.in_ok-notes.notes.items)) (sym c.len.ensures.len)
    (known_sends (all_of c.noted_all.new.tables) are.events (map note_of c.in_ok-notes.notes.items) are.noted)

pub order_of-requires-clause-nodes : goal.order_of-requires-clause-nodes
order_of-requires-clause-nodes g c =
    let t : AllTables = all_of c.noted_all.new.tables in
    let are = c.in_ok-notes.ensures.notes in
    let notes : List Note = map note_of c.stay.new.notes.items in
    let some = notes_stay t c.args.lenient are.events (map note_of c.in_ok-notes.notes.items) notes c.in_ok-left_out.left_out.items are.noted c.in_ok-left_out.ensures in
    subst (λ ns. HasNodes 32 (logged_of (map note_of ns))) (sym c.deref-2.ensures.value) (has_nodes t some.0 notes some.1)

pub order_of-requires-clause-messages : goal.order_of-requires-clause-messages
order_of-requires-clause-messages g c =
    let t : AllTables = all_of c.noted_all.new.tables in
    let are = c.in_ok-notes.ensures.notes in
    let notes : List Note = map note_of c.stay.new.notes.items in
    let some = notes_stay t c.args.lenient are.events (map note_of c.in_ok-notes.notes.items) notes c.in_ok-left_out.left_out.items are.noted c.in_ok-left_out.ensures in
    subst (λ ns. HasMessages c.len-2.result (logged_of (map note_of ns))) (sym c.deref-2.ensures.value)
    (subst (λ n. HasMessages n (logged_of notes)) (sym c.len-2.ensures.len) (has_messages t some.0 notes some.1))

pub returns-in_err-order-clause-fault : goal.returns-in_err-order-clause-fault
returns-in_err-order-clause-fault g c =
    let bytes = c.args.bytes.now in
    let lenient = c.args.lenient in
    let t : AllTables = all_of c.noted_all.new.tables in
    let notes : List Note = map note_of c.stay.new.notes.items in
    let p = err_from_is_err_and c.from_residual-in_err-order.result c.from_residual-in_err-order.ensures.1 in
    let at : map (λ line. line.now) c.deref.result.now ≡ lines_of bytes = ap (map (λ line. line.now)) c.deref.ensures.value ∙ c.in_ok-lines.ensures in
    let are : AreNoted t (lines_of bytes) (map note_of c.in_ok-notes.notes.items) = subst (λ ls. AreNoted t ls (map note_of c.in_ok-notes.notes.items)) at c.in_ok-notes.ensures.notes in
    subst (λ r. IfErr r (IsImportFault lenient bytes)) (sym p.1)
    (subst (λ fault. IsImportFault lenient bytes fault) (sym p.2)
    (import_notes lenient bytes t (map note_of c.in_ok-notes.notes.items) notes c.in_ok-left_out.left_out.items are c.in_ok-left_out.ensures c.in_err-order.field-0.0
    (subst (λ ns. IsNotesFault (map note_of ns) c.in_err-order.field-0.0) c.deref-2.ensures.value c.in_err-order.ensures.fault)))

pub returns-clause-import : goal.returns-clause-import
returns-clause-import g c =
    let bytes = c.args.bytes.now in
    let t : AllTables = all_of c.noted_all.new.tables in
    let all : List Note = map note_of c.in_ok-notes.notes.items in
    let at : map (λ line. line.now) c.deref.result.now ≡ lines_of bytes = ap (map (λ line. line.now)) c.deref.ensures.value ∙ c.in_ok-lines.ensures in
    let long : length (lines_of bytes) ≡ length c.deref.result.now = ap length (sym at) ∙ length-map c.deref.result.now (λ line. line.now) in
    let none = ap (λ (t : AllTables). length t.nodes) c.new-tables.ensures in
    record {
      all = all;
      noted = subst (λ ls. AreNoted t ls all) at c.in_ok-notes.ensures.notes;
      stay = c.in_ok-left_out.ensures;
      ordered = subst (λ ns. IsOrdered (logged_of (map note_of ns)) c.in_ok-order.order.items) c.deref-2.ensures.value c.in_ok-order.ensures.order;
      some = subst (λ n. 0 < n) (sym (length-map c.stay.new.notes.items note_of)) (subst (λ ns. 0 < length ns) c.deref-2.ensures.value c.in_ok-order.ensures.some);
      nodes = c.in_ok-notes.ensures.seen ∙ ap (λ ls. with_texts c.new-tables.result.nodes (names_on ls)) at
          ∙ ap (λ ns. with_texts ns (names_on (lines_of bytes))) (ap (λ (t : AllTables). t.nodes) c.new-tables.ensures);
      lines = subst (λ n. n < 2 ^ 64) (sym long) c.in_ok-notes.ensures.lines;
      few = c.in_ok-notes.ensures.few (omega (arith, none));
      values = subst (λ (start : AllTables). SeesValues start t (pids_on (lines_of bytes)) (words_on (lines_of bytes))) c.new-tables.ensures
          (subst (λ ls. SeesValues (all_of c.new-tables.result) t (pids_on ls) (words_on ls)) at c.in_ok-notes.ensures.values);
    }
