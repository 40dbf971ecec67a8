use Rattle.std.proofs.Common.{rules, ℕ, List, Err, subst, subst₂, sym}
use Rattle.explain_core.specs.declared.asking.Question.{Question}
use Rattle.explain_core.specs.Questions.{IsExplanation, Refuses}
use Rattle.program_core.proofs.Printed.{asked_explain, ends_explain, fails_not, refused_explain}
use Rattle.command_line.specs.declared.chosen.Subcommand.TheVariants.{Explain}
use Rattle.program_core.specs.declared.fault.ProgramFault.{ProgramFault}
use Rattle.program_core.specs.Program.{EndsAt}
use Rattle.command_line.specs.declared.chosen.Form.TheVariants as forms
use Rattle.program_core.proofs.printing.explain_bench.Goals as goal

-- the input gives no bench
pub returns-in_err-bench-clause-ends : goal.returns-in_err-bench-clause-ends
returns-in_err-bench-clause-ends g c = λ form. search (rules, refused_explain)

-- it does, and nothing is explained of it
pub returns-in-Err-clause-ends : goal.returns-in-Err-clause-ends
returns-in-Err-clause-ends g c = λ form.
    subst (λ (fault : ProgramFault). EndsAt (Explain c.args.question) form c.args.setting.now.limits (g.R.Read.remaining c.args.reader.now) (Err fault) (g.W.Write.contents c.args.writer.now)
    (g.W.Write.contents c.args.writer.now)) (sym c.from.ensures)
    (asked_explain form c.args.setting.now.limits (g.R.Read.remaining c.args.reader.now) (g.W.Write.contents c.args.writer.now) c.args.question c.in_ok-bench.bench c.in-Err.fault
    c.in_ok-bench.ensures.bench (subst (λ (question : Question). Refuses c.in_ok-bench.bench question c.in-Err.fault) c.question_of.ensures c.in-Err.ensures.refused))

pub returns-clause-ends : goal.returns-clause-ends
returns-clause-ends g c = λ form.
    ends_explain form c.args.setting.now.limits c.as_bytes.result.now _ _ c.args.question _ _ c.print.result c.in_ok-bench.ensures.bench
    (subst₂ (λ (question : Question) (text : List ℕ). IsExplanation c.in_ok-bench.bench question text) c.question_of.ensures
    (sym c.as_bytes.ensures.value) c.in-Ok.ensures.text)
    c.print.ensures

pub returns-clause-failed : goal.returns-clause-failed
returns-clause-failed g c = fails_not forms.Report c.args.setting.now.limits c.as_bytes.result.now _ _ c.print.result _ _ c.print.ensures c.in_ok-bench.ensures.failed
