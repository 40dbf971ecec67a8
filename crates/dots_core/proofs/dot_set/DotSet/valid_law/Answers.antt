use Rattle.std.proofs.Common.{ap, ◌∙◌}
use Rattle.std.specs.FinSet as set
use Rattle.dots_core.proofs.Parts.{valid_dot}
use Rattle.dots_core.proofs.dot_set.DotSet.valid_law.Goals as goal

pub returns : goal.returns
returns g c = λ d t. valid_dot c.self.inside.parts d c.self.invariant (ap (λ s. set.contains s d) c.self.view_is ∙ t)
