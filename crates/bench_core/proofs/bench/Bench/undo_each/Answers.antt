use Rattle.std.proofs.Common.{rules, get_or, refl}
use Rattle.bench_core.proofs.InTurn.{undone_next, undone_no_more}
use Rattle.bench_core.proofs.bench.Bench.undo_each.Goals as goal

pub loop-i-preserved : goal.loop-i-preserved
loop-i-preserved g c =
    undone_next c.args.self.now c.loop-i.self c.act-reply.new.self c.args.actor c.args.numbers.now c.loop-i.i
    (get_or c.args.numbers.now c.loop-i.i 0) c.act-reply.result
    (search rules) refl c.loop-i.invariant c.act-reply.ensures.answers (search rules)

pub returns-then-ne-clause-undone : goal.returns-then-ne-clause-undone
returns-then-ne-clause-undone g c =
    undone_no_more c.args.self.now c.loop-i.self c.act-reply.new.self c.args.actor c.args.numbers.now c.loop-i.i
    (get_or c.args.numbers.now c.loop-i.i 0) c.act-reply.result
    (search rules) refl c.requires c.loop-i.invariant c.act-reply.ensures.answers (search rules)
