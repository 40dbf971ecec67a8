use Rattle.std.proofs.lemmas.Grind.{common_steps}
use Rattle.std.proofs.Common.{arith}
use Rattle.dots_core.proofs.HasAll.{all_of_name}
use Rattle.dots_core.proofs.dot_set.DotSet.has_all_of.Goals as goal

pub returns : goal.returns
returns g c =
    let same = all_of_name c.self.inside.parts c.other.inside.parts c.from-at.result c.args.name c.index-self-at.result
    c.index-other-at.result c.args.self.now c.args.other.now c.self.invariant c.other.invariant c.from-at.ensures c.requires
    c.self.view_is c.other.view_is in (
      λ e. same.0 (c.has_all_of.ensures.0 e),
      λ all. c.has_all_of.ensures.1 (same.1 all),
    )

pub offset_bounds-other-inside-at : goal.offset_bounds-other-inside-at
offset_bounds-other-inside-at g c = grind (arith, common_steps)

pub offset_bounds-self-inside-at : goal.offset_bounds-self-inside-at
offset_bounds-self-inside-at g c = grind (arith, common_steps)
