use Rattle.std.proofs.Common.{ℕ, List, subst}
use Rattle.prompt_core.specs.Signs.{Shows}
use Rattle.program_core.proofs.Printed.{early_prompt, ends_prompt, ends_step}
use Rattle.program_core.proofs.stepping.step_script.Goals as goal

pub returns-in-Ok-clause-ends : goal.returns-in-Ok-clause-ends
returns-in-Ok-clause-ends g c = λ form.
    ends_step c.report_law.ensures form c.args.setting.now.limits c.help.result.now c.help.ensures _ _ _ c.in-Ok.ensures.responses

pub returns-in-Err-clause-ends : goal.returns-in-Err-clause-ends
returns-in-Err-clause-ends g c = λ form. ends_prompt form c.args.setting.now.limits c.in-Err.fault _ _ _

pub returns-in-Err-clause-early : goal.returns-in-Err-clause-early
returns-in-Err-clause-early g c =
    early_prompt c.args.setting.now.limits c.help.result.now c.help.ensures c.in-Err.fault _ _ _ _ c.in-Err.ensures.early

-- the help is that of the language

pub returns-in-Ok-clause-signs : goal.returns-in-Ok-clause-signs
returns-in-Ok-clause-signs g c =
    subst (λ (help : List ℕ). Shows c.args.setting.now.terminal help c.args.setting.now.limits (g.R.Read.remaining c.args.reader.now) (g.E.Write.contents c.args.errors.now)
    (g.E.Write.contents c.step_counted.new.errors)) c.help.ensures c.in-Ok.ensures.signs

pub returns-in-Err-clause-signs : goal.returns-in-Err-clause-signs
returns-in-Err-clause-signs g c =
    subst (λ (help : List ℕ). Shows c.args.setting.now.terminal help c.args.setting.now.limits (g.R.Read.remaining c.args.reader.now) (g.E.Write.contents c.args.errors.now)
    (g.E.Write.contents c.step_counted.new.errors)) c.help.ensures c.in-Err.ensures.signs
