use Rattle.std.proofs.Common.{rules, ℕ, List, Err, subst, subst₂, sym}
use Rattle.command_line.specs.declared.chosen.Subcommand.TheVariants.{Draw}
use Rattle.picture_core.specs.Views.{IsPicture, Refuses}
use Rattle.picture_core.specs.declared.view.View.{View}
use Rattle.program_core.proofs.Fronts.{bench_at}
use Rattle.program_core.proofs.Printed.{asked_draw, ends_draw, fails_not, refused_draw}
use Rattle.program_core.specs.declared.fault.ProgramFault.{ProgramFault}
use Rattle.program_core.specs.Program.{EndsAt}
use Rattle.command_line.specs.declared.chosen.Form.TheVariants as forms
use Rattle.program_core.proofs.pictures.draw_run.Goals as goal

-- the input gives no run
pub returns-in_err-run-clause-ends : goal.returns-in_err-run-clause-ends
returns-in_err-run-clause-ends g c = λ form. search (rules, refused_draw)

-- it does, and it is not drawn
pub returns-in-Err-clause-ends : goal.returns-in-Err-clause-ends
returns-in-Err-clause-ends g c = λ form.
    let known = g.R.Read.remaining c.args.reader.now in
    let out = g.W.Write.contents c.args.writer.now in
    subst (λ (fault : ProgramFault). EndsAt (Draw c.args.drawing) form c.args.setting.now.limits known (Err fault) out out) (sym c.from.ensures)
    (asked_draw form c.args.setting.now.limits known out c.args.drawing c.in_ok-run.run'.bench c.in-Err.fault
    (bench_at c.args.setting.now.limits known c.in_ok-run.run'.bench c.in_ok-run.run'.consoles c.in_ok-run.ensures.run)
    (subst (λ (view : View). Refuses c.in_ok-run.run'.bench view.of c.in-Err.fault) c.view_of.ensures c.in-Err.ensures.refused))

pub returns-clause-ends : goal.returns-clause-ends
returns-clause-ends g c = λ form.
    ends_draw form c.args.setting.now.limits c.deref.result.now _ _ c.args.drawing _ _ _ c.print.result c.in_ok-run.ensures.run
    (subst₂ (λ (view : View) (text : List ℕ). IsPicture c.in_ok-run.run'.bench c.in_ok-run.run'.consoles view text) c.view_of.ensures
    (sym c.deref.ensures.value) c.in-Ok.ensures.picture)
    c.print.ensures

pub returns-clause-failed : goal.returns-clause-failed
returns-clause-failed g c = fails_not forms.Report c.args.setting.now.limits c.deref.result.now _ _ c.print.result _ _ c.print.ensures c.in_ok-run.ensures.failed
