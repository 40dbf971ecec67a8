use Rattle.std.proofs.Common.{◌≡◌}
use Rattle.network_rules.specs.NameSets.{names_below}
use Rattle.network_rules.proofs.names.all_names.Given as goal

abbrev pub invariant-loop-name : goal.invariant-loop-name
invariant-loop-name l = l.names ≡ names_below l.name
