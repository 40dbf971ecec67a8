use Rattle.std.proofs.lemmas.Grind.{common_steps}
use Rattle.std.proofs.Common.{ap, sym, subst, ◌∙◌, arith}
use Rattle.dots_core.specs.Clocks.{Clocks, IsCanonical}
use Rattle.dots_core.specs.Dots.{Dots}
use Rattle.dots_core.specs.Contexts.{IsPartOf, with_part}
use Rattle.dots_core.proofs.Parts.{parts_set, none_canonical, part_read, drop_at, read_is_with_part, with_part_others}
use Rattle.dots_core.proofs.dot_set.DotSet.drop_name.Goals as goal

pub invariant_of-self : goal.invariant_of-self
invariant_of-self g c =
    parts_set c.self.inside.parts c.from.result c.replace.new.dest c.self.invariant
    (subst IsCanonical (sym (c.replace.ensures.after ∙ c.empty.ensures)) none_canonical)

pub returns-clause-part : goal.returns-clause-part
returns-clause-part g c = subst (IsPartOf c.args.self.now c.args.name) (sym c.replace.ensures.value)
    (part_read c.self.inside.parts c.from.result c.args.name c.index-self-from.result c.args.self.now c.self.invariant c.from.ensures
    c.requires c.self.view_is)

pub returns-clause-rest : goal.returns-clause-rest
returns-clause-rest g c =
    drop_at c.self.inside.parts c.from.result c.args.name c.replace.new.dest c.args.self.now c.self.invariant c.from.ensures c.requires
    (c.replace.ensures.after ∙ c.empty.ensures) c.self.view_is

pub returns-clause-whole : goal.returns-clause-whole
returns-clause-whole g c =
    ap (λ (s : Dots). with_part c.args.name c.replace.result s)
    (drop_at c.self.inside.parts c.from.result c.args.name c.replace.new.dest c.args.self.now c.self.invariant c.from.ensures
    c.requires (c.replace.ensures.after ∙ c.empty.ensures) c.self.view_is)
    ∙ with_part_others c.args.name c.replace.result c.args.self.now
    ∙ ap (λ (p : Clocks). with_part c.args.name p c.args.self.now) c.replace.ensures.value
    ∙ read_is_with_part c.self.inside.parts c.from.result c.args.name c.index-self-from.result c.args.self.now c.self.invariant
    c.from.ensures c.requires c.self.view_is

pub offset_bounds-self-inside-from : goal.offset_bounds-self-inside-from
offset_bounds-self-inside-from g c = grind (arith, common_steps)
