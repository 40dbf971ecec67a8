use Rattle.std.proofs.Common.{◌∙◌, add-one, ap}
use Rattle.std.specs.FinSet as set
use Rattle.bench_core.proofs.Tried.{met}
use Rattle.network_rules.specs.NameSets.{names_below}
use Rattle.network_rules.proofs.names.all_names.Goals as goal

pub loop-name-init : goal.loop-name-init
unfolding names_below
loop-name-init c = c.empty-names.ensures

pub loop-name-preserved : goal.loop-name-preserved
unfolding names_below
loop-name-preserved c =
    rw add-one (c.with-names.ensures ∙ ap (λ s. set.insert s c.loop-name.name) c.loop-name.invariant)

pub returns : goal.returns
returns c = c.loop-name.invariant ∙ ap names_below (met _ _ c.loop-name.auto.name-end c.loop-name-test.false)
