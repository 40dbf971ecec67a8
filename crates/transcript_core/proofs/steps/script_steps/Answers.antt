use Rattle.std.proofs.Common.{◌∙◌}
use Rattle.std.proofs.lemmas.Result.{IfOk-weaker}
use Rattle.grammar_core.specs.Scripts.{plain_script}
use Rattle.transcript_core.proofs.Again.{played_again}
use Rattle.transcript_core.proofs.steps.script_steps.Goals as goal

pub returns : goal.returns
returns g c =
    IfOk-weaker c.lines_steps-steps.result _ _
    (λ text told. told ∙ played_again c.args.limits (plain_script c.args.script.now) c.args.bench.now _ _ _ _ _ c.requires c.in_ok-again.ensures c.node_names.ensures
    c.console_names.ensures (c.deref.ensures.value ∙ c.in_ok-takers.ensures) c.lines.ensures)
    c.lines_steps-steps.ensures
