use Rattle.journal_core.specs.Holdings.{kepts}
use Rattle.bench_core.proofs.SameSteps.{all_same, other_count, not_same, one_more}
use Rattle.std.proofs.lemmas.Option.{slice_get-get_or}
use Rattle.bench_core.proofs.swaps.are_steps_of.Goals as goal

pub returns-then-steps-len : goal.returns-then-steps-len
returns-then-steps-len g c =
    other_count (kepts c.args.one.now.steps) (kepts c.args.other.now.steps) c.args.steps.now c.len.result c.if-steps-len.true c.len.ensures

pub returns : goal.returns
returns g c =
    all_same (kepts c.args.one.now.steps) (kepts c.args.other.now.steps) c.args.steps.now c.len.result c.loop-i.i c.if-steps-len.false
    c.len.ensures c.loop-i-test.false c.loop-i.invariant

pub returns-then-not-is_same : goal.returns-then-not-is_same
returns-then-not-is_same g c =
    not_same (kepts c.args.one.now.steps) (kepts c.args.other.now.steps) c.args.steps.now c.loop-i.i _ c.is_same.result
    (slice_get-get_or c.args.steps.now c.loop-i.i _ c.loop-i-test.true) c.if-not-is_same.true c.is_same.ensures

pub loop-i-preserved : goal.loop-i-preserved
loop-i-preserved g c =
    one_more (kepts c.args.one.now.steps) (kepts c.args.other.now.steps) c.args.steps.now c.loop-i.i _ c.is_same.result
    (slice_get-get_or c.args.steps.now c.loop-i.i _ c.loop-i-test.true) c.if-not-is_same.false c.is_same.ensures c.loop-i.invariant
