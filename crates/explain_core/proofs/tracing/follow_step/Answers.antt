use Rattle.std.proofs.Common.{◌∙◌, ap, sym, arith}
use Rattle.explain_core.specs.Tracings.{traced_on}
use Rattle.explain_core.proofs.TracedTogether.{changed_more}
use Rattle.explain_core.proofs.tracing.follow_step.Goals as goal

pub loop-next-preserved : goal.loop-next-preserved
loop-next-preserved g c =
    changed_more (traced_on c.args.asked.now c.args.kept.now) c.args.traced.now c.loop-next.traced c.loop-next.next-index c.next-item.result _
    (omega (arith, c.loop-next-test.true, c.loop-next.auto.traced)) c.loop-next.invariant c.next-item.is
    (c.in_ok-follow.ensures ∙ ap (traced_on c.args.asked.now c.args.kept.now) (sym c.next-item.is))
