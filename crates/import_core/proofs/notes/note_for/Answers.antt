use Rattle.std.proofs.Common.{◌++◌, ◌∷◌, [], ◌<◌, length, refl, ap, subst, ◌∙◌}
use Rattle.std.proofs.lemmas.Result.{err_from_is_err_and}
use Rattle.log_core.specs.Views.{event as shown_event}
use Rattle.import_core.specs.Tables.{AllTables, Keeps, all_of}
use Rattle.import_core.specs.Sights.{own_pids, own_words, row_pids, row_words}
use Rattle.import_core.specs.Seen.{row_names, step_names, with_text, with_texts}
use Rattle.import_core.proofs.Numbers.{keeps_both}
use Rattle.import_core.proofs.Kept.{later_node}
use Rattle.import_core.proofs.FirstSights.{seen_more, too_many_more}
use Rattle.import_core.proofs.Sights.{values_more}
use Rattle.import_core.proofs.LaterNotes.{later_sent, later_maybe, maybe_step}
use Rattle.import_core.proofs.notes.note_for.Goals as goal

pub returns-clause-note : goal.returns-clause-note
returns-clause-note g c =
    let b : AllTables = all_of c.node.new.self in
    let d : AllTables = all_of c.sent_by.new.tables in
    let e : AllTables = all_of c.step_for.new.tables in
    let f : AllTables = all_of c.listed_for.new.tables in
    let last : Keeps e f = c.listed_for.ensures.extends in
    let two : Keeps d f = keeps_both d e f c.step_for.ensures.extends last in
    let event = shown_event c.args.line.now.event in
    record {
      number = refl;
      node = later_node b f (keeps_both b d f c.sent_by.ensures.extends two) c.args.line.now.node.now c.in_ok-node.node c.in_ok-node.ensures.node;
      few = c.in_ok-node.ensures.few;
      step = later_maybe e f last event _ (maybe_step e event c.in_ok-step.step c.in_ok-step.ensures.step c.in_ok-step.ensures.some);
      waits = c.awaited-waits.ensures;
      sends = later_sent d f two c.in_ok-node.node event c.in_ok-sends.sends c.in_ok-sends.ensures.sends;
      rows = c.in_ok-rows.ensures.rows;
    }

pub returns-clause-seen : goal.returns-clause-seen
returns-clause-seen g c =
    let event = shown_event c.args.line.now.event in
    let first = with_text c.args.tables.now.nodes c.args.line.now.node.now in
    c.in_ok-rows.ensures.seen
    ∙ ap (λ ns. with_texts ns (row_names event)) (c.in_ok-step.ensures.seen ∙ ap (λ ns. with_texts ns (step_names event)) (c.sent_by.ensures.same_nodes ∙ c.in_ok-node.ensures.seen))
    ∙ seen_more first (step_names event) (row_names event)

pub returns-in_err-node-clause-many : goal.returns-in_err-node-clause-many
returns-in_err-node-clause-many g c = λ e.
    let event = shown_event c.args.line.now.event in
    let p = err_from_is_err_and c.from_residual.result c.from_residual.ensures.1 in
    let is = p.1 in
    let same = p.2 in
    too_many_more c.args.tables.now.nodes (c.args.line.now.node.now ∷ []) (step_names event ++ row_names event) (c.in_err-node.ensures.many (cc))

pub returns-in_err-step-clause-many : goal.returns-in_err-step-clause-many
returns-in_err-step-clause-many g c = λ e.
    let event = shown_event c.args.line.now.event in
    let first = with_text c.args.tables.now.nodes c.args.line.now.node.now in
    let p = err_from_is_err_and c.from_residual-in_err-step.result c.from_residual-in_err-step.ensures.1 in
    let is = p.1 in
    let same = p.2 in
    too_many_more first (step_names event) (row_names event)
    (subst (λ ns. 32 < length (with_texts ns (step_names event))) (c.sent_by.ensures.same_nodes ∙ c.in_ok-node.ensures.seen) (c.in_err-step.ensures.many (cc)))

pub returns-in_err-rows-clause-many : goal.returns-in_err-rows-clause-many
returns-in_err-rows-clause-many g c = λ e.
    let event = shown_event c.args.line.now.event in
    let first = with_text c.args.tables.now.nodes c.args.line.now.node.now in
    let p = err_from_is_err_and c.from_residual-in_err-rows.result c.from_residual-in_err-rows.ensures.1 in
    let is = p.1 in
    let same = p.2 in
    subst (λ ns. 32 < length ns) (seen_more first (step_names event) (row_names event))
    (subst (λ ns. 32 < length (with_texts ns (row_names event)))
    (c.in_ok-step.ensures.seen ∙ ap (λ ns. with_texts ns (step_names event)) (c.sent_by.ensures.same_nodes ∙ c.in_ok-node.ensures.seen))
    (c.in_err-rows.ensures.many (cc)))

pub returns-clause-values : goal.returns-clause-values
returns-clause-values g c =
    let event = shown_event c.args.line.now.event in
    let a : AllTables = all_of c.args.tables.now in
    let b : AllTables = all_of c.node.new.self in
    let d : AllTables = all_of c.sent_by.new.tables in
    let e : AllTables = all_of c.step_for.new.tables in
    let f : AllTables = all_of c.listed_for.new.tables in
    values_more a e f (own_pids event) (own_words event) (row_pids event) (row_words event)
    (values_more a d e [] [] (own_pids event) (own_words event)
    (values_more a b d [] [] [] [] c.in_ok-node.ensures.values c.in_ok-sends.ensures.values) c.in_ok-step.ensures.values)
    c.in_ok-rows.ensures.values

pub returns-clause-extends : goal.returns-clause-extends
returns-clause-extends g c =
    let a : AllTables = all_of c.args.tables.now in
    let b : AllTables = all_of c.node.new.self in
    let d : AllTables = all_of c.sent_by.new.tables in
    let e : AllTables = all_of c.step_for.new.tables in
    let f : AllTables = all_of c.listed_for.new.tables in
    keeps_both a d f (keeps_both a b d c.node.ensures.extends c.sent_by.ensures.extends)
    (keeps_both d e f c.step_for.ensures.extends c.listed_for.ensures.extends)
