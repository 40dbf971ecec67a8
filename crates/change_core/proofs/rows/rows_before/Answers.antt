use Rattle.std.proofs.Common.{◌≡◌, subst, IfOk, List}
use Rattle.diff_core.specs.Rows.{Row}
use Rattle.change_core.specs.Ends.{rows_before}
use Rattle.change_core.specs.Questions.{Question}
use Rattle.change_core.proofs.Played.{before_is}
use Rattle.change_core.proofs.rows.rows_before.Goals as goal

pub returns : goal.returns
returns g c =
    let q : Question = record { node = c.question.inside.node; topic = c.question.inside.topic; key = c.question.inside.key } in
    subst (λ (asked : Question). IfOk c.rows_in.result (λ rows. rows.items ≡ rows_before c.args.bench.now asked)) c.question.view_is
    (subst (λ (x : List Row). IfOk c.rows_in.result (λ rows. rows.items ≡ x)) (before_is c.args.bench.now q _ c.node.ensures.value)
    c.rows_in.ensures)
