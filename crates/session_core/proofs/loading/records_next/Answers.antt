use Rattle.std.proofs.Common.{◌≡◌, ◌≢◌, nat_lt, length, sym, ap, ap₂, ◌∙◌, subst, rules, true≢false}
use Rattle.bench_core.specs.declared.reply.Reply.TheVariants.{Refused}
use Rattle.bench_core.specs.declared.fault.Fault.TheVariants.{OutOfMemory}
use Rattle.bench_core.specs.Acts.{plain_act}
use Rattle.bench_core.specs.Machine.{Event}
use Rattle.recording_core.specs.Sessions.{RecordsNext, Asked}
use Rattle.session_core.proofs.Asked.{other_reply, same_reply}
use Rattle.session_core.proofs.loading.records_next.Goals as goal

pub returns : goal.returns
returns g c =
    let e : Event = record { actor = c.event.inside.actor; act = plain_act c.event.inside.act; reply = c.event.inside.reply } in
    let is : c.args.event.now ≡ e = search rules in
    let made : c.act-reply.result ≢ Refused OutOfMemory = λ same. true≢false (sym (c.same.ensures.1 same) ∙ c.if-same.false) in
    let other : c.act-reply.result ≢ c.event.inside.reply = λ same. true≢false (sym (c.same-2.ensures.1 same) ∙ c.if-same-2.false) in
    subst (λ (x : Event). ¬ RecordsNext c.args.bench.now x) (sym is)
    (other_reply c.args.bench.now e c.act-reply.result c.act-reply.new.self made c.act-reply.ensures.answers other)

pub returns-then-same-2 : goal.returns-then-same-2
returns-then-same-2 g c =
    let e : Event = record { actor = c.event.inside.actor; act = plain_act c.event.inside.act; reply = c.event.inside.reply } in
    let is : c.args.event.now ≡ e = search rules in
    let made : c.act-reply.result ≢ Refused OutOfMemory = λ same. true≢false (sym (c.same.ensures.1 same) ∙ c.if-same.false) in
    let same : c.act-reply.result ≡ c.event.inside.reply = c.same-2.ensures.0 c.if-same-2.true in
    let test : nat_lt c.len-before.result c.len.result ≡ nat_lt (length c.args.bench.now.state.history) (length c.act-reply.new.self.state.history) =
    ap₂ nat_lt (c.len-before.ensures ∙ ap length c.history.ensures) (c.len.ensures ∙ ap length c.history-then-same-2.ensures) in
    subst (λ (x : Event). Asked x c.args.bench.now c.act-reply.new.self (nat_lt c.len-before.result c.len.result)) (sym is)
    (same_reply c.args.bench.now e c.act-reply.result c.act-reply.new.self made c.act-reply.ensures.answers same (nat_lt c.len-before.result c.len.result) test)
