use Rattle.std.proofs.lemmas.Grind.{common_steps}
use Rattle.std.proofs.Common.{sym, subst, ◌∙◌, arith}
use Rattle.dots_core.specs.Clocks.{Clocks}
use Rattle.dots_core.specs.Contexts.{IsCloudOf}
use Rattle.dots_core.specs.Parts.{dots_of_parts}
use Rattle.dots_core.proofs.Parts.{read_part, cloud_of_at}
use Rattle.dots_core.proofs.dot_set.DotSet.cloud_of.Goals as goal

pub returns : goal.returns
returns g c =
    let ps = c.self.inside.parts in
    let at = read_part ps c.from.result c.args.name c.index-self-from.result c.self.invariant c.from.ensures c.requires in
    subst (IsCloudOf c.args.self.now c.args.name) (sym c.deref.ensures.value)
    (subst (λ s. IsCloudOf s c.args.name c.part.inside.cloud.items) c.self.view_is
    (subst (λ (p : Clocks). IsCloudOf (dots_of_parts ps) c.args.name p.cloud) (sym (c.part.view_is ∙ at))
    (cloud_of_at ps c.args.name c.self.invariant)))

pub offset_bounds-self-inside-from : goal.offset_bounds-self-inside-from
offset_bounds-self-inside-from g c = grind (arith, common_steps)
