use Rattle.std.proofs.Common.{◌≡◌, ap, ◌∙◌}
use Rattle.std.specs.FinSet as set
use Rattle.std.proofs.lemmas.Result.{IfOk-weaker}
use Rattle.dots_core.specs.Dots.{Dots, of_names}
use Rattle.dots_core.proofs.Parts.{valid_dot}
use Rattle.dots_core.proofs.Unions.{all_chosen}
use Rattle.dots_core.proofs.dot_set.DotSet.try_copy.Goals as goal

pub returns : goal.returns
returns g c =
    let same = all_chosen c.all.result c.args.self.now c.all.ensures
    (λ q t. (valid_dot c.self.inside.parts q c.self.invariant (ap (λ s. set.contains s q) c.self.view_is ∙ t)).name) in
    IfOk-weaker c.only.result (λ (copy : Dots). copy ≡ of_names (set.contains c.all.result) c.args.self.now)
    (λ (copy : Dots). copy ≡ c.args.self.now) (λ copy e. e ∙ same) c.only.ensures
