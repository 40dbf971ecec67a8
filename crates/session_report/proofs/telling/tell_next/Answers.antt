use Rattle.std.proofs.Common.{◌≡◌, length, sym, ap, ◌∙◌, subst, rules}
use Rattle.bench_core.specs.Acts.{plain_act}
use Rattle.bench_core.specs.Machine.{Event}
use Rattle.recording_core.specs.Sessions.{Asked}
use Rattle.session_report.proofs.Asked.{asked_so}
use Rattle.session_report.proofs.telling.tell_next.Goals as goal

pub returns-clause-asked : goal.returns-clause-asked
returns-clause-asked g c =
    let e : Event = record { actor = c.event.inside.actor; act = plain_act c.event.inside.act; reply = c.event.inside.reply } in
    let is : c.args.event.now ≡ e = search rules in
    subst (λ (x : Event). Asked x c.args.bench.now c.act.new.bench c.has_reply.result) (sym is)
    (asked_so c.args.bench.now e c.act.new.bench c.in_ok-act.ensures.bench c.has_reply.result c.history-2.result.now c.len-place.result c.history-2.ensures
    (c.len-place.ensures ∙ ap length c.history.ensures) c.has_reply.ensures)
