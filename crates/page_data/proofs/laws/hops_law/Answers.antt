use Rattle.page_data.proofs.Hopped.{hops_hold}
use Rattle.page_data.proofs.laws.hops_law.Goals as goal

pub returns : goal.returns
returns c = hops_hold
