use Rattle.std.proofs.Common.{◌∙◌, ap, subst, sym}
use Rattle.journal_core.specs.Journals.{Kept}
use Rattle.network_rules.specs.Easy.{IsIdleAt}
use Rattle.network_rules.specs.Turns.{delivery_of}
use Rattle.explore_network.specs.Easy.{IsIdleStep, IsOwnStep}
use Rattle.explore_network.proofs.first.goes_first.Goals as goal

pub returns-in-Some : goal.returns-in-Some
returns-in-Some g c = λ h.
    let cl = c.args.state.now.cluster.now in
    let p = c.args.plan.now in
    let cs = c.args.state.now.counts.now in
    let x = c.args.rank.turn in
    let m = c.in-Some.message in
    IsIdleStep m (sym (ap (λ (k : Kept). delivery_of k.step) c.kept.view_is) ∙ sym c.in-Some.ensures)
    (subst (λ (k : Kept). IsIdleAt cl p.tables p.turns cs k.node x m.0 m.1) c.kept.view_is
    (subst (λ ts. IsIdleAt cl p.tables ts cs c.kept.inside.node x m.0 m.1) c.turns.ensures (subst (λ t. IsIdleAt cl t c.turns.result.now cs c.kept.inside.node x m.0 m.1) c.cone.ensures (c.is_idle.ensures h))))

pub returns-in-None : goal.returns-in-None
returns-in-None g c = λ h. IsOwnStep (sym (ap (λ (k : Kept). delivery_of k.step) c.kept.view_is) ∙ sym c.in-None.ensures) (c.is_alone.ensures h)
