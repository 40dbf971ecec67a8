use Rattle.std.proofs.Common.{sym, ap, ◌∙◌}
use Rattle.std.specs.Cmp.{booleans_Decides}
use Rattle.std.proofs.lemmas.Slice.Eq.{slice_eq-Decides}
use Rattle.dots_core.specs.Flags.{names_of_flags}
use Rattle.dots_core.proofs.Names.{same_flags}
use Rattle.dots_core.proofs.name_set.NameSet.same.Goals as goal

pub returns : goal.returns
returns c =
    let decides = slice_eq-Decides booleans_Decides c.self.inside.has c.other.inside.has c.eq.result c.eq.ensures in (
      λ e. sym c.self.view_is ∙ ap names_of_flags (decides.0 e) ∙ c.other.view_is,
      λ e. decides.1 (same_flags c.self.inside.has c.other.inside.has (c.self.invariant ∙ sym c.other.invariant)
          (c.self.view_is ∙ e ∙ sym c.other.view_is)),
    )
