use Rattle.std.proofs.Common.{◌∙◌, sym, true≢false}
use Rattle.bench_core.specs.Acts.{plain_act}
use Rattle.report_core.proofs.Answered.{answered}
use Rattle.report_core.proofs.acting.reply_of.Goals as goal

pub returns-clause-reply : goal.returns-clause-reply
returns-clause-reply g c =
    (answered c.args.bench.now c.act-reply.new.self c.args.actor (plain_act c.args.act.now) c.act-reply.result c.act-reply.ensures.answers
    (λ same. true≢false (sym (c.same.ensures.1 same) ∙ c.if-same.false))).0

pub returns-clause-bench : goal.returns-clause-bench
returns-clause-bench g c =
    (answered c.args.bench.now c.act-reply.new.self c.args.actor (plain_act c.args.act.now) c.act-reply.result c.act-reply.ensures.answers
    (λ same. true≢false (sym (c.same.ensures.1 same) ∙ c.if-same.false))).1
