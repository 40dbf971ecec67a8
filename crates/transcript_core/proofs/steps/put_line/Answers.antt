use Rattle.std.proofs.Common.{◌++◌, ◌∙◌, ap, length, string_bytes}
use Rattle.std.proofs.lemmas.Result.{on_ok_weaker}
use Rattle.grammar_core.specs.Scripts.{plain_command}
use Rattle.run_core.specs.Report.{command_text}
use Rattle.transcript_core.specs.Steps.{command_head, reply_at}
use Rattle.transcript_core.proofs.StepsTold.{told_line}
use Rattle.transcript_core.proofs.steps.put_line.Goals as goal

pub returns-clause-text : goal.returns-clause-text
returns-clause-text g c =
    let m = c.args.bench.now in
    let command = plain_command c.args.command.now in
    on_ok_weaker c.put_below.result
    (told_line m c.command.new.bench c.args.consoles.now c.args.takers.now command c.names.result.now c.reply_at-reply.result c.unwinds_one-remains.result
    c.args.out.now.items (string_bytes c.put_command_head.new.text) (string_bytes c.command.new.text) c.put_below.new.out.items c.in_ok-command.ensures.bench
    c.names.ensures
    (c.reply_at-reply.ensures ∙ ap (λ h. reply_at h c.len-place.result) c.history-2.ensures
    ∙ ap (reply_at c.command.new.bench.state.history) (c.len-place.ensures ∙ ap length c.history.ensures))
    c.unwinds_one-remains.ensures
    (c.in_ok-put_command_head.ensures ∙ ap (λ t. t ++ command_head (record { nodes = c.names.result.now; consoles = c.args.consoles.now }) c.args.takers.now command
    c.reply_at-reply.result c.unwinds_one-remains.result) c.new-head.ensures.bytes)
    (c.in_ok-command.ensures.text ∙ ap (λ t. t ++ command_text m command) c.new-printed.ensures.bytes)) c.put_below.ensures
