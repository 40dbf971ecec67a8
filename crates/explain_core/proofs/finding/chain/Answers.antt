use Rattle.std.proofs.Common.{◌-◌, sym, ◌∙◌, arith}
use Rattle.explain_core.proofs.Walks.{back_link, back_past}
use Rattle.explain_core.proofs.finding.chain.Goals as goal

pub loop-left-preserved-then-is_link : goal.loop-left-preserved-then-is_link
loop-left-preserved-then-is_link g c = record {
  within = omega arith;
  same = back_link c.loop-left.target c.loop-left.numbers.items _ c.args.hops.now c.loop-left.left (c.loop-left.left - 1) _ _
      (omega arith) c.loop-left.invariant.within (sym c.is_link.ensures ∙ c.if-is_link.true) c.in_ok-push.ensures.items
      c.loop-left.invariant.same;
}

pub loop-left-preserved : goal.loop-left-preserved
loop-left-preserved g c = record {
  within = omega arith;
  same = back_past c.loop-left.target c.loop-left.numbers.items c.args.hops.now c.loop-left.left (c.loop-left.left - 1) _ _
      (omega arith) c.loop-left.invariant.within (sym c.is_link.ensures ∙ c.if-is_link.false) c.loop-left.invariant.same;
}
