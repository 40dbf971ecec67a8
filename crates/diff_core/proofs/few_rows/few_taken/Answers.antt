use Rattle.std.proofs.Common.{◌≡◌, None, sym, ◌∙◌, subst, arith}
use Rattle.replica_core.specs.Changes.{plain_change}
use Rattle.replica_core.specs.Moves.{hidden_by}
use Rattle.diff_core.specs.ChangedRows.{rows_shown}
use Rattle.diff_core.specs.FewRows.{pair_if, AreRows}
use Rattle.diff_core.proofs.FewTold.{few_left, not_some, taken_few}
use Rattle.diff_core.proofs.few_rows.few_taken.Goals as goal

pub returns-clause-rows : goal.returns-clause-rows
returns-clause-rows g c =
    let change = plain_change c.args.change.now in
    let none : hidden_by change ≡ None = sym c.hidden.ensures ∙ not_some c.hidden.result (sym c.is_some.ensures ∙ c.if-is_some.false) in
    few_left c.few_of.result change c.args.after.now c.requires
    (taken_few c.few_of.result change c.args.after.now none (omega (arith, c.left_len.ensures))
    (subst (λ o. AreRows c.few_of.result (rows_shown c.args.after.now (pair_if o))) c.left_at.ensures c.few_of.ensures.rows))
