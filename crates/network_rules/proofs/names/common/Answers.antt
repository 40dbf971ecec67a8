use Rattle.std.proofs.Common.{rules}
use Rattle.network_rules.proofs.NameSets.{common_more}
use Rattle.network_rules.proofs.names.common.Goals as goal

pub loop-name-preserved : goal.loop-name-preserved
loop-name-preserved c =
    common_more c.args.one c.args.other c.loop-name.names c.with_if-names.result c.loop-name.name c.loop-name.invariant (search rules)
