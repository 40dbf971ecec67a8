use Rattle.std.proofs.Common.{◌∙◌}
use Rattle.command_line.specs.declared.chosen.Form.TheVariants as forms
use Rattle.program_core.proofs.Printed.{always, ends_race, fails_not, keeps_before, tells_memory}
use Rattle.program_core.proofs.printing.race_session.Goals as goal

pub returns-clause-ends : goal.returns-clause-ends
returns-clause-ends g c =
    ends_race forms.Session c.args.setting.now.limits c.deref.result.now _ _ _ _ _ c.print.result c.in_ok-script.ensures.script
    c.in_ok-bench.ensures.raced (c.deref.ensures.value ∙ c.in-Ok.ensures.text) c.print.ensures

pub returns-clause-read : goal.returns-clause-read
returns-clause-read g c = always c.print.result _ c.in_ok-script.ensures.read

pub returns-clause-unwritten : goal.returns-clause-unwritten
returns-clause-unwritten g c = keeps_before forms.Session c.args.setting.now.limits c.deref.result.now _ _ c.print.result c.print.ensures

pub returns-clause-memory : goal.returns-clause-memory
returns-clause-memory g c = tells_memory forms.Session c.args.setting.now.limits c.deref.result.now _ _ c.print.result c.print.ensures

pub returns-clause-failed : goal.returns-clause-failed
returns-clause-failed g c = fails_not forms.Session c.args.setting.now.limits c.deref.result.now _ _ c.print.result _ _ c.print.ensures c.in_ok-script.ensures.failed
