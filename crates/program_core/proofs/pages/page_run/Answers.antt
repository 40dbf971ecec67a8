use Rattle.std.proofs.Common.{rules, ◌∙◌}
use Rattle.program_core.proofs.Printed.{ends_page, fails_not, refused_page}
use Rattle.command_line.specs.declared.chosen.Form.TheVariants as forms
use Rattle.program_core.proofs.pages.page_run.Goals as goal

-- the input gives no run
pub returns-in_err-run-clause-ends : goal.returns-in_err-run-clause-ends
returns-in_err-run-clause-ends g c = λ form. search (rules, refused_page)

pub returns-clause-ends : goal.returns-clause-ends
returns-clause-ends g c = λ form.
    ends_page form c.args.setting.now.limits c.deref.result.now _ _ _ _ _ c.print.result c.in_ok-run.ensures.run
    (c.deref.ensures.value ∙ c.in-Ok.ensures) c.print.ensures

pub returns-clause-failed : goal.returns-clause-failed
returns-clause-failed g c = fails_not forms.Report c.args.setting.now.limits c.deref.result.now _ _ c.print.result _ _ c.print.ensures c.in_ok-run.ensures.failed
