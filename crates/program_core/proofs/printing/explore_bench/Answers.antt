use Rattle.std.proofs.Common.{◌≡◌, ◌∙◌, refl, rules, ℕ, List, Err, subst, subst₂, sym}
use Rattle.command_line.specs.declared.chosen.Subcommand.TheVariants.{Explore}
use Rattle.program_core.specs.Explored.{TellsExplored, asked_of}
use Rattle.program_core.specs.Program.{EndsAt, TellsMemory}
use Rattle.program_core.specs.declared.fault.ProgramFault.{ProgramFault}
use Rattle.program_core.proofs.Printed.{asked_explore, ends_explore, explore_memory, fails_not, refused_explore}
use Rattle.progress_core.specs.Lines.{walked_line, TellsWalked}
use Rattle.progress_core.proofs.Telling.{tells_nothing, told_nothing}
use Rattle.command_line.specs.declared.chosen.Form.TheVariants as forms
use Rattle.program_core.proofs.printing.explore_bench.Goals as goal

-- the input gives no bench
pub returns-in_err-bench-clause-ends : goal.returns-in_err-bench-clause-ends
returns-in_err-bench-clause-ends g c = λ form. search (rules, refused_explore)

-- it does, and nothing is told of it
pub returns-in-Err-clause-ends : goal.returns-in-Err-clause-ends
returns-in-Err-clause-ends g c = λ form.
    subst (λ (fault : ProgramFault). EndsAt (Explore c.args.asked) form c.args.setting.now.limits (g.R.Read.remaining c.args.reader.now) (Err fault)
    (g.W.Write.contents c.args.writer.now) (g.W.Write.contents c.args.writer.now)) (sym c.from.ensures)
    (asked_explore form c.args.setting.now.limits (g.R.Read.remaining c.args.reader.now) (g.W.Write.contents c.args.writer.now) c.args.asked
    c.in_ok-bench.bench c.in-Err.fault c.in_ok-bench.ensures.bench
    c.in-Err.ensures.refused)

pub returns-in-Err-clause-memory : goal.returns-in-Err-clause-memory
returns-in-Err-clause-memory g c = subst TellsMemory (sym c.from.ensures) (explore_memory c.in-Err.fault)

pub returns-clause-ends : goal.returns-clause-ends
returns-clause-ends g c = λ form.
    ends_explore form c.args.setting.now.limits c.as_bytes.result.now _ _ c.args.asked _ _ c.print.result c.in_ok-bench.ensures.bench
    (subst (λ (text : List ℕ). TellsExplored c.in_ok-bench.bench (asked_of c.args.asked) c.args.asked.outcome text)
    (sym c.as_bytes.ensures.value) c.in-Ok.ensures.told)
    c.print.ensures

pub returns-clause-failed : goal.returns-clause-failed
returns-clause-failed g c = fails_not forms.Report c.args.setting.now.limits c.as_bytes.result.now _ _ c.print.result _ _ c.print.ensures c.in_ok-bench.ensures.failed

pub returns-in_err-bench-clause-progress : goal.returns-in_err-bench-clause-progress
returns-in_err-bench-clause-progress g c = tells_nothing (λ work. walked_line work) _

-- what the stream holds is what the teller left behind its reference
pub returns-in-Err-clause-progress : goal.returns-in-Err-clause-progress
returns-in-Err-clause-progress g c =
    let start = c.new-teller.result in
    let told = c.tell_explored-told.ensures.watched start (refl, told_nothing (λ work. walked_line work) start.able (g.E.Write.contents start.errors.now)) in
    let same = c.errors-1.given.1 (sym (told.0 ∙ c.new-teller.ensures.same_reference)) in
    subst₂ (λ old new. TellsWalked (g.E.Write.contents old) (g.E.Write.contents new)) c.new-teller.ensures.errors (sym same) told.1.part

pub returns-clause-progress : goal.returns-clause-progress
returns-clause-progress g c =
    let start = c.new-teller.result in
    let told = c.tell_explored-told.ensures.watched start (refl, told_nothing (λ work. walked_line work) start.able (g.E.Write.contents start.errors.now)) in
    let same = c.errors-1.given.1 (sym (told.0 ∙ c.new-teller.ensures.same_reference)) in
    subst₂ (λ old new. TellsWalked (g.E.Write.contents old) (g.E.Write.contents new)) c.new-teller.ensures.errors (sym same) told.1.part
