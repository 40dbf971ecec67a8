use Rattle.bench_core.proofs.OwnChain.{own_chains}
use Rattle.bench_core.proofs.laws.chain_law.Goals as goal

pub returns : goal.returns
returns c = own_chains
