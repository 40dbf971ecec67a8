use Rattle.std.proofs.Common.{rules, ◌≡◌, sym, subst, Some}
use Rattle.node_core.specs.Inverses.{plain_inverse}
use Rattle.journal_core.specs.Holdings.{Journal, IsLent, find_held, inverse_of}
use Rattle.journal_core.proofs.Loans.{is_lent}
use Rattle.layer_tests.proofs.journals.lends_and_puts_back.Goals as goal

pub put_back-requires : goal.put_back-requires
put_back-requires g c =
    let held : inverse_of (find_held c.args.journal.now.steps c.args.number) ≡ Some (plain_inverse c.expect-inverse.result) =
    search rules in
    subst (λ (j : Journal). IsLent j.steps c.args.number) (sym c.lend.ensures.after)
    (is_lent c.args.journal.now.steps c.args.number (plain_inverse c.expect-inverse.result) held)
