use Rattle.std.proofs.lemmas.Grind.{common_steps}
use Rattle.std.proofs.Common.{get_or, ◌+◌, sym, ◌≡◌, Bool, not, ap, ◌∙◌, arith}
use Rattle.std.specs.FinSet as set
use Rattle.std.proofs.lemmas.Result.{on_ok_weaker, IfOk-weaker}
use Rattle.dots_core.specs.Clocks.{holds}
use Rattle.dots_core.proofs.Parts.{parts_set, insert_at, held_at, part_read, one_context}
use Rattle.dots_core.proofs.dot_set.DotSet.insert.Goals as goal

pub invariant_of-self : goal.invariant_of-self
invariant_of-self g c = parts_set c.self.inside.parts c.from.result c.insert.new.self c.self.invariant c.insert.ensures.canonical

pub returns-clause-ok : goal.returns-clause-ok
returns-clause-ok g c = on_ok_weaker c.insert.result
    (insert_at c.self.inside.parts c.from.result c.args.dot c.index-self-from.result c.insert.new.self c.args.self.now c.self.invariant
    c.from.ensures c.requires.name c.self.view_is)
    c.insert.ensures.ok

pub returns-clause-new : goal.returns-clause-new
returns-clause-new g c =
    let held = held_at c.self.inside.parts c.from.result c.args.dot c.index-self-from.result c.args.self.now c.self.invariant
    c.from.ensures c.requires.name c.self.view_is in
    IfOk-weaker c.insert.result (λ (new : Bool). new ≡ not (holds (get_or c.self.inside.parts c.from.result c.index-self-from.result)
    c.args.dot.clock)) (λ (new : Bool). new ≡ not (set.contains c.args.self.now c.args.dot)) (λ new e. e ∙ ap not held) c.insert.ensures.new

pub returns-clause-next : goal.returns-clause-next
returns-clause-next g c = λ next.
    let part = part_read c.self.inside.parts c.from.result c.args.dot.name c.index-self-from.result c.args.self.now c.self.invariant
    c.from.ensures c.requires.name c.self.view_is in
    let same = one_context c.args.self.now c.args.dot.name _ next.0 part.context next.2 in
    c.insert.ensures.next (next.1 ∙ ap (λ n. n + 1) (sym same))

pub offset_bounds-self-inside-from : goal.offset_bounds-self-inside-from
offset_bounds-self-inside-from g c = grind (arith, common_steps)

pub returns-clause-err : goal.returns-clause-err
returns-clause-err g c = grind (arith, common_steps)
