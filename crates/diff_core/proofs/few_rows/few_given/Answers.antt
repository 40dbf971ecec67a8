use Rattle.std.proofs.Common.{◌≡◌, None, inr, sym, ◌∙◌, subst, arith}
use Rattle.replica_core.specs.Changes.{plain_change}
use Rattle.replica_core.specs.Moves.{shown_by}
use Rattle.diff_core.specs.ChangedRows.{rows_shown}
use Rattle.diff_core.specs.FewRows.{found_if, AreRows}
use Rattle.diff_core.proofs.FewTold.{few_joined, given_few, not_some}
use Rattle.diff_core.proofs.few_rows.few_given.Goals as goal

pub returns-clause-rows : goal.returns-clause-rows
returns-clause-rows g c =
    let change = plain_change c.args.change.now in
    let r = c.args.after.now in
    let none : shown_by change ≡ None = sym c.shown.ensures ∙ not_some c.shown.result (sym c.is_some.ensures ∙ c.if-is_some.false) in
    few_joined c.few_found.result change r c.requires
    (given_few c.few_found.result change r none (omega (arith, c.joined_len.ensures r))
    (subst (λ o. AreRows c.few_found.result (rows_shown r (found_if o r.store.entries))) c.joined_at.ensures c.few_found.ensures.rows))

pub returns-then-joined_len-gt1-clause-more : goal.returns-then-joined_len-gt1-clause-more
returns-then-joined_len-gt1-clause-more g c = λ more. inr (omega (arith, c.joined_len.ensures c.args.after.now, c.if-joined_len-gt1.true))

pub returns-clause-more : goal.returns-clause-more
returns-clause-more g c = λ more. absurd (c.few_found.ensures.few more)
