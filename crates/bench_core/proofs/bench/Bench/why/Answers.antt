use Rattle.std.proofs.Common.{◌≡◌, subst}
use Rattle.std.proofs.lemmas.Result.{err_from_is_err_and}
use Rattle.journal_core.specs.Futures.{IsFuture}
use Rattle.journal_core.specs.Gathering.{gathered_numbers}
use Rattle.journal_core.proofs.Futures.{is_future, one_future}
use Rattle.bench_core.specs.Machine.{Machine, config_of}
use Rattle.bench_core.specs.Unwinds.{Gone, Unmade}
use Rattle.bench_core.proofs.InTurn.{future_undone}
use Rattle.bench_core.proofs.bench.Bench.why.Goals as goal

pub returns-in_err-node_of-clause-refused : goal.returns-in_err-node_of-clause-refused
returns-in_err-node_of-clause-refused g c =
    let p = err_from_is_err_and c.from_residual.result c.from_residual.ensures.1 in
    let gone = c.in_err-node_of.ensures.gone in
    let same : p.0 ≡ c.in_err-node_of.field-0.0 = cc (p.1, p.2) in
    rw (p.1, same) (Gone c.in_err-node_of.field-0.0 gone.gone gone.refused)

pub returns-in_default-clause-refused : goal.returns-in_default-clause-refused
returns-in_default-clause-refused g c = let step = c.in_ok-node_of.ensures.remains in Unmade step.0 step.1

pub returns-clause-future : goal.returns-clause-future
returns-clause-future g c = let step = c.in_ok-node_of.ensures.remains in record {
  remains = (step.0, step.1);
  future = subst (λ (m : Machine). IsFuture m.state.remaining c.args.number c.in-Ok.numbers.items) c.self.view_is c.in-Ok.ensures.future;
}

pub returns-clause-can_be_undone : goal.returns-clause-can_be_undone
returns-clause-can_be_undone g c actor =
    future_undone (config_of c.args.self.now) c.args.self.now.state actor c.args.number c.in-Ok.numbers.items c.bench_law.ensures.reached
    (subst (λ (m : Machine). IsFuture m.state.remaining c.args.number c.in-Ok.numbers.items) c.self.view_is c.in-Ok.ensures.future)

pub returns-clause-gathered : goal.returns-clause-gathered
returns-clause-gathered g c =
    subst (λ (m : Machine). c.in-Ok.numbers.items ≡ gathered_numbers m.state.remaining c.args.number) c.self.view_is
    (one_future _ c.args.number _ _ c.in-Ok.ensures.future (is_future c.args.number _ c.in-Ok.ensures.in_order))
