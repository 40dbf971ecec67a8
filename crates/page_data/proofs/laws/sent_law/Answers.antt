use Rattle.std.proofs.Common.{ap, arith, length}
use Rattle.page_data.proofs.SentValid.{all_valid}
use Rattle.page_data.proofs.laws.sent_law.Goals as goal

pub returns : goal.returns
returns g c =
    let names = ap length c.names.ensures in
    all_valid c.args.bench.now c.bench_law.ensures
    (λ n inside. c.loop-number.invariant n
    (omega (arith, inside, names, c.len-number-end.ensures.len, c.bench_law.ensures.few, c.loop-number.auto.number-end, c.loop-number-test.false)))
