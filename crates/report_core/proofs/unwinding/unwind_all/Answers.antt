use Rattle.std.proofs.Common.{length, refl, sym, subst, List, string_bytes}
use Rattle.std.proofs.lemmas.Result.{on_ok_weaker}
use Rattle.report_core.specs.MovedRows.{Moves, AreMoved}
use Rattle.report_core.specs.Shown.{rows_to}
use Rattle.report_core.proofs.MovedRows.{told_changes}
use Rattle.report_core.proofs.Printed.{unwound_bench, unwound_text}
use Rattle.report_core.proofs.unwinding.unwind_all.Goals as goal

pub undo_each-requires : goal.undo_each-requires
undo_each-requires g c = c.requires.made c.args.actor

pub returns-clause-bench : goal.returns-clause-bench
returns-clause-bench g c =
    on_ok_weaker c.put_changes.result
    (λ _. unwound_bench c.args.bench.now c.undo_each.new.bench c.args.actor c.args.number c.args.numbers.now
    (c.requires.future.step, c.requires.future.found) c.requires.future.whole c.in_ok-moved.ensures.bench) c.put_changes.ensures

pub returns-clause-text : goal.returns-clause-text
returns-clause-text g c =
    let old = c.args.bench.now in
    let new = c.undo_each.new.bench in
    let start = string_bytes c.args.text.now in
    let middle = string_bytes c.put_undone.new.text in
    on_ok_weaker c.put_changes.result
    (λ told. unwound_text old new c.args.actor c.args.number c.args.numbers.now (rows_to old (length old.names)) start middle
    (string_bytes c.put_changes.new.text) (c.requires.future.step, c.requires.future.found) c.requires.future.whole
    (unwound_bench old new c.args.actor c.args.number c.args.numbers.now (c.requires.future.step, c.requires.future.found)
    c.requires.future.whole c.in_ok-moved.ensures.bench) refl c.in_ok-put_undone.ensures
    (told_changes old new middle (string_bytes c.put_changes.new.text)
    (told old (subst (λ (ms : List Moves). AreMoved old new ms) (sym c.deref.ensures.value) c.in_ok-moved.ensures.moved))))
    c.put_changes.ensures
