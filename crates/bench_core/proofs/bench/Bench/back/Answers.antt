use Rattle.bench_core.specs.Acts.{plain_act}
use Rattle.bench_core.proofs.UnknownBack.{unknown_back}
use Rattle.bench_core.proofs.bench.Bench.back.Goals as goal

pub refuse-requires-clause-refused : goal.refuse-requires-clause-refused
refuse-requires-clause-refused g c =
    unknown_back c.args.self.now _ c.args.actor c.args.node c.len.result (plain_act c.args.act.now) c.requires c.len.ensures.len
    c.if-node-len.true c.self.view_is
