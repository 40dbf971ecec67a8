use Rattle.std.proofs.lemmas.Grind.{common_steps}
use Rattle.std.proofs.Common.{◌<◌, refl, sym, ◌∙◌, arith, true≢false}
use Rattle.dots_core.proofs.Parts.{empty_set, empty_part, read_part}
use Rattle.dots_core.proofs.dot_set.DotSet.is_empty.Goals as goal

pub returns : goal.returns
returns g c = (
  λ _. sym c.self.view_is ∙ empty_set c.self.inside.parts (λ n lt. c.loop-name.invariant n
      (omega (arith, c.self.invariant.names, c.loop-name-test.false))),
  λ _. refl,
)

pub returns-then-not-is_empty : goal.returns-then-not-is_empty
returns-then-not-is_empty g c = (
  λ e. absurd (true≢false (sym e)),
  λ e. let name : c.loop-name.name < 32 = omega (arith, c.loop-name-test.true) in
      let none = read_part c.self.inside.parts c.loop-name.name c.loop-name.name c.index-self-name.result c.self.invariant refl name
      ∙ empty_part c.self.inside.parts c.loop-name.name c.self.invariant (c.self.view_is ∙ e) in
      let is = c.is_empty.ensures.1 none in (cc is),
)

pub offset_bounds-self-inside-name : goal.offset_bounds-self-inside-name
offset_bounds-self-inside-name g c = grind (arith, common_steps)

pub loop-name-preserved : goal.loop-name-preserved
loop-name-preserved g c = grind (arith, common_steps)
