use Rattle.std.proofs.Common.{ap, refl, subst}
use Rattle.std.specs.Result.{OnOk}
use Rattle.bench_core.specs.Limits.{Limits}
use Rattle.run_core.specs.Prompts.{Prompt}
use Rattle.prompt_core.specs.Ends.{Responds}
use Rattle.prompt_core.specs.Signs.{Shows}
use Rattle.prompt_core.proofs.stepping.step_counted.Goals as goal

pub respond_each-ended-requires : goal.respond_each-ended-requires
respond_each-ended-requires g c = rw c.new-prompt.ensures refl

pub returns-clause-responses : goal.returns-clause-responses
returns-clause-responses g c =
    let input = g.R.Read.remaining c.args.reader.now in
    let output = g.W.Write.contents c.args.writer.now in
    let written = g.W.Write.contents c.respond_each-ended.new.writer in
    subst (λ (l : Limits). OnOk c.respond_each-ended.result (Responds c.args.setting.now.help.now l input output written))
    (ap (λ (p : Prompt). p.limits) c.new-prompt.ensures) c.respond_each-ended.ensures.responses

pub returns-clause-signs : goal.returns-clause-signs
returns-clause-signs g c =
    let input = g.R.Read.remaining c.args.reader.now in
    let told = g.E.Write.contents c.args.errors.now in
    let shown = g.E.Write.contents c.respond_each-ended.new.errors in
    subst (λ (l : Limits). Shows c.args.setting.now.has_signs c.args.setting.now.help.now l input told shown) (ap (λ (p : Prompt). p.limits) c.new-prompt.ensures)
    c.respond_each-ended.ensures.signs
