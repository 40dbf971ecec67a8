use Rattle.std.proofs.Common.{arith, subst}
use Rattle.bench_core.proofs.Openings.{answered_next}
use Rattle.std.proofs.lemmas.List.{take_all}
use Rattle.bench_core.specs.Acts.{calls_of}
use Rattle.bench_core.specs.Machine.{AllAnswered}
use Rattle.bench_core.proofs.bench.Bench.run.Goals as goal

pub loop-actor-preserved : goal.loop-actor-preserved
loop-actor-preserved g c = record {
  so_far = answered_next c.args.self.now c.loop-actor.self c.act-reply.new.self c.args.calls.now c.loop-actor.actor-index
      c.loop-actor-item.result c.loop-actor.replies.items c.push_reserved.new.self.items c.act-reply.result c.loop-actor-test.true
      c.loop-actor-item.is c.loop-actor.invariant.so_far c.act-reply.ensures.answers c.push_reserved.ensures.items;
  count = omega arith;
  room = omega arith;
}

pub returns-clause-ok : goal.returns-clause-ok
returns-clause-ok g c =
    subst (λ calls. AllAnswered c.args.self.now (calls_of calls) c.loop-actor.replies.items c.loop-actor.self)
    (take_all c.loop-actor.actor-index c.args.calls.now c.loop-actor-test.false) c.loop-actor.invariant.so_far
