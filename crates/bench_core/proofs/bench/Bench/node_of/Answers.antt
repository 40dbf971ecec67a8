use Rattle.std.proofs.Common.{◌⊎◌, ◌≡◌, ◌<◌, inl, inr, arith}
use Rattle.bench_core.proofs.Gone.{never_given}
use Rattle.bench_core.proofs.bench.Bench.node_of.Goals.{then-number-eq0-via-then-number-eq0, then-number-eq0-via-else-number-eq0+then-number-count}
use Rattle.bench_core.proofs.bench.Bench.node_of.Goals as goal

pub returns-then-number-eq0-clause-gone : goal.returns-then-number-eq0-clause-gone
returns-then-number-eq0-clause-gone g c =
    let out : (c.args.number ≡ 0) ⊎ (c.self.inside.meter.count < c.args.number) = elim c.then-number-eq0.branch [
      | then-number-eq0-via-then-number-eq0 w ↦ inl (omega (arith, w.if-number-eq0.true))
      | then-number-eq0-via-else-number-eq0+then-number-count w ↦ inr (omega (arith, w.if-number-count.true, w.count.ensures))
    ] in
    never_given c.self.inside.names c.self.inside.limits c.self.inside.history c.self.inside.cluster c.self.inside.journal.steps
    c.self.inside.meter.count c.args.number c.args.self.now c.self.view_is c.self.invariant.0 out
