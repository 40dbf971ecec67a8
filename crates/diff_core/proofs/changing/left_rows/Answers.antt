use Rattle.std.proofs.Common.{◌∙◌}
use Rattle.std.proofs.lemmas.Result.{IfOk-weaker}
use Rattle.diff_core.proofs.changing.left_rows.Goals as goal

pub returns-in_ok-rows_taken-in-More : goal.returns-in_ok-rows_taken-in-More
returns-in_ok-rows_taken-in-More g c =
    IfOk-weaker c.copies.result _ _ (λ rows is. is ∙ c.deref.ensures.value ∙ c.in_ok-rows_taken-in-More.ensures) c.copies.ensures
