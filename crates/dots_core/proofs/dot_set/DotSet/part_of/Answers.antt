use Rattle.std.proofs.lemmas.Grind.{common_steps}
use Rattle.std.proofs.Common.{get_or, ◌≡◌, ap, sym, subst, ◌∙◌, arith}
use Rattle.std.proofs.lemmas.Result.{IfOk-weaker}
use Rattle.dots_core.specs.Clocks.{Clocks}
use Rattle.dots_core.specs.Contexts.{IsPartOf, with_part}
use Rattle.dots_core.proofs.Parts.{part_read, read_is_with_part}
use Rattle.dots_core.proofs.dot_set.DotSet.part_of.Goals as goal

pub returns-clause-part : goal.returns-clause-part
returns-clause-part g c =
    let part = part_read c.self.inside.parts c.from.result c.args.name c.index-self-from.result c.args.self.now c.self.invariant
    c.from.ensures c.requires c.self.view_is in
    IfOk-weaker c.try_copy.result (λ (copy : Clocks). copy ≡ get_or c.self.inside.parts c.from.result c.index-self-from.result)
    (IsPartOf c.args.self.now c.args.name) (λ copy e. subst (IsPartOf c.args.self.now c.args.name) (sym e) part) c.try_copy.ensures

pub returns-clause-whole : goal.returns-clause-whole
returns-clause-whole g c =
    let whole = read_is_with_part c.self.inside.parts c.from.result c.args.name c.index-self-from.result c.args.self.now
    c.self.invariant c.from.ensures c.requires c.self.view_is in
    IfOk-weaker c.try_copy.result (λ (copy : Clocks). copy ≡ get_or c.self.inside.parts c.from.result c.index-self-from.result)
    (λ (copy : Clocks). with_part c.args.name copy c.args.self.now ≡ c.args.self.now)
    (λ copy e. ap (λ (p : Clocks). with_part c.args.name p c.args.self.now) e ∙ whole) c.try_copy.ensures

pub offset_bounds-self-inside-from : goal.offset_bounds-self-inside-from
offset_bounds-self-inside-from g c = grind (arith, common_steps)
