use Rattle.std.proofs.lemmas.Grind.{common_steps}
use Rattle.std.proofs.Common.{subst, arith}
use Rattle.dots_core.specs.Clocks.{IsCanonical}
use Rattle.dots_core.proofs.Parts.{parts_set, part_put, rest_put, set_is_with_part}
use Rattle.dots_core.proofs.dot_set.DotSet.set_part.Goals as goal

pub invariant_of-self : goal.invariant_of-self
invariant_of-self g c =
    parts_set c.self.inside.parts c.from.result c.args.part c.self.invariant (subst IsCanonical c.part.view_is c.part.invariant)

pub returns-clause-part : goal.returns-clause-part
returns-clause-part g c =
    part_put c.self.inside.parts c.from.result c.args.name c.args.part c.self.invariant c.from.ensures c.requires
    (subst IsCanonical c.part.view_is c.part.invariant)

pub returns-clause-rest : goal.returns-clause-rest
returns-clause-rest g c =
    rest_put c.self.inside.parts c.from.result c.args.name c.args.part c.args.self.now c.self.invariant c.from.ensures c.requires c.self.view_is

pub returns-clause-whole : goal.returns-clause-whole
returns-clause-whole g c =
    set_is_with_part c.self.inside.parts c.from.result c.args.name c.args.part c.args.self.now c.self.invariant c.from.ensures c.requires c.self.view_is

pub offset_bounds-self-inside-from : goal.offset_bounds-self-inside-from
offset_bounds-self-inside-from g c = grind (arith, common_steps)
