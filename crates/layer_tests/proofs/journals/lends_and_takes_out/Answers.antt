use Rattle.std.proofs.Common.{rules, ◌≡◌, ◌∙◌, sym, ap, subst, Some, None}
use Rattle.node_core.specs.Inverses.{plain_inverse}
use Rattle.journal_core.specs.Journals.{first_consequence}
use Rattle.journal_core.specs.Holdings.{Journal, IsLent, find_held, inverse_of, kepts}
use Rattle.journal_core.proofs.Rising.{kepts_with}
use Rattle.journal_core.proofs.Loans.{is_lent}
use Rattle.layer_tests.proofs.journals.lends_and_takes_out.Goals as goal

pub take_out-requires-clause-lent : goal.take_out-requires-clause-lent
take_out-requires-clause-lent g c =
    let held : inverse_of (find_held c.args.journal.now.steps c.args.number) ≡ Some (plain_inverse c.expect-inverse.result) =
    search rules in
    subst (λ (j : Journal). IsLent j.steps c.args.number) (sym c.lend.ensures.after)
    (is_lent c.args.journal.now.steps c.args.number (plain_inverse c.expect-inverse.result) held)

pub take_out-requires-clause-free : goal.take_out-requires-clause-free
take_out-requires-clause-free g c =
    ap (λ (j : Journal). first_consequence (kepts j.steps) c.args.number) c.lend.ensures.after
    ∙ ap (λ ks. first_consequence ks c.args.number) (kepts_with c.args.journal.now.steps c.args.number None) ∙ c.requires.free
