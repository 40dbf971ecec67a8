use Rattle.std.proofs.Common.{ap, sym, subst}
use Rattle.node_core.specs.Operations.{plain}
use Rattle.network_rules.specs.Easy.{IsEasyAt}
use Rattle.network_rules.proofs.first.is_easy.Goals as goal

pub returns-in-Up : goal.returns-in-Up
returns-in-Up g c = λ h. subst (IsEasyAt c.args.cluster.now c.args.node) (sym (ap plain c.in-Up.is)) (c.knows.ensures h)
