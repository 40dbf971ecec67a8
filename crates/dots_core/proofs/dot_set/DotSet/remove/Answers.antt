use Rattle.std.proofs.lemmas.Grind.{common_steps}
use Rattle.std.proofs.Common.{get_or, ◌≡◌, Bool, ◌∙◌, arith}
use Rattle.std.specs.FinSet as set
use Rattle.std.proofs.lemmas.Result.{on_ok_weaker, IfOk-weaker}
use Rattle.dots_core.specs.Clocks.{holds}
use Rattle.dots_core.specs.Dots.{dot}
use Rattle.dots_core.proofs.Parts.{parts_set, remove_at, held_at}
use Rattle.dots_core.proofs.dot_set.DotSet.remove.Goals as goal

pub invariant_of-self : goal.invariant_of-self
invariant_of-self g c = parts_set c.self.inside.parts c.from.result c.remove.new.self c.self.invariant c.remove.ensures.canonical

pub returns-clause-ok : goal.returns-clause-ok
returns-clause-ok g c = on_ok_weaker c.remove.result
    (remove_at c.self.inside.parts c.from.result c.args.dot c.index-self-from.result c.remove.new.self c.args.self.now c.self.invariant
    c.from.ensures c.requires.name c.self.view_is)
    c.remove.ensures.ok

pub returns-clause-was : goal.returns-clause-was
returns-clause-was g c =
    let held = held_at c.self.inside.parts c.from.result c.args.dot c.index-self-from.result c.args.self.now c.self.invariant
    c.from.ensures c.requires.name c.self.view_is in
    IfOk-weaker c.remove.result (λ (was : Bool). was ≡ holds (get_or c.self.inside.parts c.from.result c.index-self-from.result)
    c.args.dot.clock) (λ (was : Bool). was ≡ set.contains c.args.self.now c.args.dot) (λ was e. e ∙ held) c.remove.ensures.was

pub returns-clause-last : goal.returns-clause-last
returns-clause-last g c = λ above. c.remove.ensures.last (λ j lt.
    held_at c.self.inside.parts c.from.result (dot c.args.dot.name j) c.index-self-from.result c.args.self.now c.self.invariant
    c.from.ensures c.requires.name c.self.view_is ∙ above j lt)

pub offset_bounds-self-inside-from : goal.offset_bounds-self-inside-from
offset_bounds-self-inside-from g c = grind (arith, common_steps)

pub returns-clause-err : goal.returns-clause-err
returns-clause-err g c = grind (arith, common_steps)
