use Rattle.std.proofs.Common.{◌≡◌, ◌++◌, ◌∙◌, false, refl, sym, subst, ap, length, string_bytes, rules}
use Rattle.std.specs.Prelude.{OnOk}
use Rattle.std.proofs.lemmas.Result.{on_ok_weaker}
use Rattle.bench_core.specs.Acts.{plain_act}
use Rattle.bench_core.specs.Machine.{Event}
use Rattle.run_core.specs.Report.{call_of, after_command, command_text}
use Rattle.transcript_core.specs.Scripts.{cast_of}
use Rattle.transcript_core.specs.Steps.{command_head, command_steps, reply_at}
use Rattle.transcript_core.proofs.StepsTold.{told_line}
use Rattle.transcript_core.proofs.steps.put_event.Goals as goal

pub returns-clause-text : goal.returns-clause-text
unfolding command_head after_command command_text
returns-clause-text g c =
    let m = c.args.bench.now in
    let e : Event = record { actor = c.event.inside.actor; act = plain_act c.event.inside.act; reply = c.event.inside.reply } in
    let is : c.args.event.now ≡ e = search rules in
    subst (λ event. OnOk c.put_below.result (c.put_below.new.out.items ≡ c.args.out.now.items ++
    command_steps (cast_of m c.args.consoles.now) c.args.takers.now m (call_of event))) (sym is)
    (on_ok_weaker c.put_below.result
    (λ below. told_line m c.act.new.bench c.args.consoles.now c.args.takers.now (call_of e) c.names.result.now c.reply_at-reply.result false
    c.args.out.now.items (string_bytes c.put_head.new.text) (string_bytes c.act.new.text) c.put_below.new.out.items c.in_ok-act.ensures.bench
    c.names.ensures
    (c.reply_at-reply.ensures ∙ ap (λ h. reply_at h c.len-place.result) c.history-2.ensures
    ∙ ap (reply_at c.act.new.bench.state.history) (c.len-place.ensures ∙ ap length c.history.ensures))
    refl
    (c.in_ok-put_head.ensures ∙ ap (λ t. t ++ command_head (record { nodes = c.names.result.now; consoles = c.args.consoles.now }) c.args.takers.now (call_of e)
    c.reply_at-reply.result false) c.new-head.ensures.bytes)
    (c.in_ok-act.ensures.text ∙ ap (λ t. t ++ command_text m (call_of e)) c.new-printed.ensures.bytes) below) c.put_below.ensures)
