use Rattle.std.proofs.lemmas.Grind.{common_steps}
use Rattle.std.proofs.Common.{◌<◌, sym, ◌∙◌, arith}
use Rattle.dots_core.proofs.Unions.{chosen_none, chosen_skip, chosen_set, chosen_all}
use Rattle.dots_core.proofs.dot_set.DotSet.only.Goals as goal
use Rattle.dots_core.proofs.dot_set.DotSet.only.Goals.{then-has+in_ok-chosen-inside, else-has}

pub loop-name-init : goal.loop-name-init
loop-name-init g c =
    chosen_none c.self.inside.parts c.args.names c.chosen.inside.parts c.chosen.invariant (c.chosen.view_is ∙ c.new-chosen.ensures)

pub loop-name-preserved : goal.loop-name-preserved
loop-name-preserved g c =
    let name : c.loop-name.name < 32 = omega (arith, c.loop-name-test.true) in
    elim c.if-has.branch [
      | then-has+in_ok-chosen-inside w ↦ rw w.chosen-inside-is
          (chosen_set c.self.inside.parts c.args.names c.loop-name.name w.from-at.result c.loop-name.chosen-inside.parts
          w.in_ok-chosen-inside.field-0 w.index-self-at.result
          c.self.invariant name w.from-at.ensures (sym c.has.ensures ∙ w.if-has.true) w.in_ok-chosen-inside.ensures c.loop-name.invariant)
      | else-has w ↦ rw w.chosen-inside-is
          (chosen_skip c.self.inside.parts c.args.names c.loop-name.name c.loop-name.chosen-inside.parts
          (sym c.has.ensures ∙ w.if-has.false) c.loop-name.invariant)
    ]

pub returns : goal.returns
returns g c =
    chosen_all c.self.inside.parts c.args.names c.loop-name.name c.loop-name.chosen-inside.parts c.args.self.now c.self.invariant
    c.loop-name-test.false c.self.view_is c.loop-name.invariant

pub offset_bounds-chosen-inside-at : goal.offset_bounds-chosen-inside-at
offset_bounds-chosen-inside-at g c = grind (arith, common_steps)

pub offset_bounds-self-inside-at : goal.offset_bounds-self-inside-at
offset_bounds-self-inside-at g c = grind (arith, common_steps)
