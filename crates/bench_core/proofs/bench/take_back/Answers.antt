use Rattle.std.proofs.Common.{◌≡◌, ◌∙◌, IsTrue, sym, ap, subst, Some, None, option_map}
use Rattle.node_core.specs.Inverses.{plain_inverse, needs_no_memory}
use Rattle.journal_core.specs.Journals.{first_consequence}
use Rattle.journal_core.specs.Holdings.{Journal, find_held, inverse_of, kepts, with_inverse, without_held, IsLent}
use Rattle.journal_core.proofs.Rising.{kepts_with}
use Rattle.journal_core.proofs.Loans.{is_lent}
use Rattle.bench_core.proofs.Invariant.{goes_back, leads_node}
use Rattle.bench_core.proofs.bench.take_back.Goals as goal

pub give_back-requires : goal.give_back-requires
give_back-requires g c =
    let lent : inverse_of (find_held c.args.journal.now.steps c.args.number) ≡ Some (plain_inverse c.unwrap-inverse.result) =
    sym c.lend.ensures.value ∙ ap (option_map plain_inverse) c.unwrap-inverse.ensures in
    leads_node c.args.cluster.now c.args.journal.now.steps c.args.number c.args.node (plain_inverse c.unwrap-inverse.result) c.requires lent

pub put_back-requires : goal.put_back-requires
put_back-requires g c =
    let lent : inverse_of (find_held c.args.journal.now.steps c.args.number) ≡ Some (plain_inverse c.unwrap-inverse.result) =
    sym c.lend.ensures.value ∙ ap (option_map plain_inverse) c.unwrap-inverse.ensures in
    subst (λ (j : Journal). IsLent j.steps c.args.number) (sym c.lend.ensures.after)
    (is_lent c.args.journal.now.steps c.args.number (plain_inverse c.unwrap-inverse.result) lent)

pub take_out-requires-clause-lent : goal.take_out-requires-clause-lent
take_out-requires-clause-lent g c =
    let lent : inverse_of (find_held c.args.journal.now.steps c.args.number) ≡ Some (plain_inverse c.unwrap-inverse.result) =
    sym c.lend.ensures.value ∙ ap (option_map plain_inverse) c.unwrap-inverse.ensures in
    subst (λ (j : Journal). IsLent j.steps c.args.number) (sym c.lend.ensures.after)
    (is_lent c.args.journal.now.steps c.args.number (plain_inverse c.unwrap-inverse.result) lent)

pub take_out-requires-clause-free : goal.take_out-requires-clause-free
take_out-requires-clause-free g c =
    ap (λ (j : Journal). first_consequence (kepts j.steps) c.args.number) c.lend.ensures.after
    ∙ ap (λ ks. first_consequence ks c.args.number) (kepts_with c.args.journal.now.steps c.args.number None)
    ∙ c.requires.free

pub returns-in-Err-clause-err_journal : goal.returns-in-Err-clause-err_journal
returns-in-Err-clause-err_journal g c =
    let lent : inverse_of (find_held c.args.journal.now.steps c.args.number) ≡ Some (plain_inverse c.unwrap-inverse.result) =
    sym c.lend.ensures.value ∙ ap (option_map plain_inverse) c.unwrap-inverse.ensures in
    c.put_back.ensures
    ∙ ap (λ i. record {
      nodes = c.lend.new.self.nodes;
      steps = with_inverse c.lend.new.self.steps c.args.number (Some i);
      room =
          c.lend.new.self.room;
    }) c.in-Err.ensures.given_back
    ∙ ap (λ (j : Journal). record {
      nodes = j.nodes;
      steps = with_inverse j.steps c.args.number
          (Some (plain_inverse c.unwrap-inverse.result));
      room = j.room;
    }) c.lend.ensures.after
    ∙ ap (λ l. record { nodes = c.args.journal.now.nodes; steps = l; room = c.args.journal.now.room })
    (c.loan_law.ensures.put_back c.args.journal.now.steps c.args.number (plain_inverse c.unwrap-inverse.result) lent)

pub returns-clause-journal : goal.returns-clause-journal
returns-clause-journal g c =
    c.take_out.ensures
    ∙ ap (λ (j : Journal). record { nodes = j.nodes; steps = without_held j.steps c.args.number; room = j.room }) c.lend.ensures.after
    ∙ ap (λ l. record { nodes = c.args.journal.now.nodes; steps = l; room = c.args.journal.now.room })
    (c.loan_law.ensures.taken_out c.args.journal.now.steps c.args.number)

pub returns-in-Err-clause-needs_no_memory : goal.returns-in-Err-clause-needs_no_memory
returns-in-Err-clause-needs_no_memory g c = λ none.
    let lent : Some (plain_inverse c.unwrap-inverse.result) ≡ Some none.0 =
    sym (ap (option_map plain_inverse) c.unwrap-inverse.ensures) ∙ c.lend.ensures.value ∙ none.1 in
    let same : none.0 ≡ plain_inverse c.unwrap-inverse.result = cc in
    c.in-Err.ensures.needs_no_memory (subst (λ i. IsTrue (needs_no_memory i)) same none.2)

pub returns-clause-node : goal.returns-clause-node
returns-clause-node g c =
    let lent : inverse_of (find_held c.args.journal.now.steps c.args.number) ≡ Some (plain_inverse c.unwrap-inverse.result) =
    sym c.lend.ensures.value ∙ ap (option_map plain_inverse) c.unwrap-inverse.ensures in
    goes_back c.args.cluster.now c.give_back.new.self c.args.journal.now.steps c.args.number c.args.node (plain_inverse c.unwrap-inverse.result) lent
    c.in_default.ensures.ok
