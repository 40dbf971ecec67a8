use Rattle.std.proofs.Common.{sym, ap, ◌∙◌, is_some}
use Rattle.bench_core.specs.WaysBack.{IsWayBack}
use Rattle.bench_core.proofs.WaysBack.{if_some, same_some, way_back, one_each}
use Rattle.bench_core.proofs.bench.Bench.way_back.Goals as goal

pub returns-clause-leads : goal.returns-clause-leads
returns-clause-leads g c =
    if_some _ (IsWayBack c.args.self.now c.args.number) c.inverse.result _ c.inverse.ensures
    (way_back c.self.inside.names c.self.inside.limits c.self.inside.history c.self.inside.cluster c.self.inside.journal.steps
    c.self.inside.meter.count c.args.number c.args.self.now c.self.view_is c.self.invariant.0)

pub returns-clause-each : goal.returns-clause-each
returns-clause-each g c =
    let each = one_each c.self.inside.names c.self.inside.limits c.self.inside.history c.self.inside.cluster c.self.inside.journal.steps
    c.self.inside.meter.count c.args.number c.args.self.now c.self.view_is c.self.invariant.0 in
    let same = same_some _ c.inverse.result ∙ ap is_some c.inverse.ensures ∙ each in ((λ some. sym same ∙ some), (λ some. same ∙ some))
