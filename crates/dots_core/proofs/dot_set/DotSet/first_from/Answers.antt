use Rattle.std.proofs.lemmas.Grind.{common_steps}
use Rattle.std.proofs.Common.{◌≤◌, sym, ◌∙◌, arith}
use Rattle.std.specs.FinSet as set
use Rattle.dots_core.proofs.FirstFrom.{first_at_name, none_at_name, passed_all, passed_unnamed}
use Rattle.dots_core.proofs.dot_set.DotSet.first_from.Goals as goal
use Rattle.dots_core.proofs.dot_set.DotSet.first_from.Goals.{then-has+in_default, else-has}

pub returns-in-Some : goal.returns-in-Some
returns-in-Some g c =
    let low : c.args.dot.name ≤ c.loop-name.name = omega (arith, c.min-name.ensures, c.loop-name.auto.name, c.loop-name-test.true) in
    first_at_name c.self.inside.parts c.from.result c.loop-name.name c.index-self-from.result
    (set.contains c.args.names) c.args.self.now c.args.dot c.clock_from.result c.self.invariant c.from.ensures
    (omega (arith, c.loop-name-test.true)) c.self.view_is c.clock_from.ensures.own c.clock_from.ensures.later c.loop-name.invariant
    c.in-Some.clock low (sym c.has.ensures ∙ c.if-has.true) c.in-Some.ensures

pub loop-name-preserved : goal.loop-name-preserved
loop-name-preserved g c = elim c.if-has.branch [
  | then-has+in_default w ↦ none_at_name c.self.inside.parts w.from.result c.loop-name.name w.index-self-from.result
      (set.contains c.args.names) c.args.self.now c.args.dot w.clock_from.result c.self.invariant w.from.ensures
      (omega (arith, c.loop-name-test.true)) c.self.view_is w.clock_from.ensures.own w.clock_from.ensures.later c.loop-name.invariant
      w.in_default.ensures
  | else-has w ↦ passed_unnamed (set.contains c.args.names) c.args.self.now c.args.dot c.loop-name.name c.loop-name.invariant
      (sym c.has.ensures ∙ w.if-has.false)
]

pub returns : goal.returns
returns g c = passed_all c.self.inside.parts (set.contains c.args.names) c.args.self.now c.args.dot c.loop-name.name c.self.invariant
    c.self.view_is (omega (arith, c.loop-name-test.false)) c.loop-name.invariant

pub offset_bounds-self-inside-from : goal.offset_bounds-self-inside-from
offset_bounds-self-inside-from g c = grind (arith, common_steps)
