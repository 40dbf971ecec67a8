use Rattle.std.proofs.lemmas.Grind.{common_steps, elements}
use Rattle.std.proofs.Common.{◌<◌, refl, sym, ap, ◌∙◌, arith, true≢false}
use Rattle.dots_core.specs.Parts.{dots_of_parts, part_at}
use Rattle.dots_core.proofs.Parts.{agreeing_parts, same_parts, read_part}
use Rattle.dots_core.proofs.dot_set.DotSet.same.Goals as goal

pub returns : goal.returns
returns g c = (
  λ _. sym c.self.view_is ∙ ap dots_of_parts (agreeing_parts c.self.inside.parts c.other.inside.parts c.self.invariant c.other.invariant
      (λ n lt. c.loop-name.invariant n (omega (arith, c.loop-name-test.false)))) ∙ c.other.view_is,
  λ _. refl,
)

pub returns-then-not-same : goal.returns-then-not-same
returns-then-not-same g c = (
  λ e. absurd (true≢false (sym e)),
  λ e. let name : c.loop-name.name < 32 = omega (arith, c.loop-name-test.true) in
      let parts = same_parts c.self.inside.parts c.other.inside.parts c.self.invariant c.other.invariant
      (c.self.view_is ∙ e ∙ sym c.other.view_is) in
      let one = read_part c.self.inside.parts c.loop-name.name c.loop-name.name c.index-self-name.result c.self.invariant refl name in
      let two = read_part c.other.inside.parts c.loop-name.name c.loop-name.name c.index-other-name.result c.other.invariant refl name in
      let is = c.same.ensures.1 (one ∙ ap (λ ps. part_at ps c.loop-name.name) parts ∙ sym two) in (cc is),
)

pub offset_bounds-other-inside-name : goal.offset_bounds-other-inside-name
offset_bounds-other-inside-name g c = grind (arith, common_steps)

pub offset_bounds-self-inside-name : goal.offset_bounds-self-inside-name
offset_bounds-self-inside-name g c = grind (arith, common_steps)

pub loop-name-preserved : goal.loop-name-preserved
loop-name-preserved g c = grind (arith, elements)
