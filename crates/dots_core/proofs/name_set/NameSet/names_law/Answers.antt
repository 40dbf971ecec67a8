use Rattle.std.proofs.Common.{ap, sym, subst, ◌<◌, ◌∙◌}
use Rattle.std.specs.FinSet as set
use Rattle.dots_core.specs.FlagsBack.{contains-names_of_flags}
use Rattle.dots_core.proofs.Names.{flag_below}
use Rattle.dots_core.proofs.name_set.NameSet.names_law.Goals as goal

pub returns : goal.returns
returns c =
    λ n t. subst (λ count. n < count) c.self.invariant
    (flag_below c.self.inside.has n (sym (contains-names_of_flags c.self.inside.has n) ∙ ap (λ s. set.contains s n) c.self.view_is ∙ t))
