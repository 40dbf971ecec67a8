use Rattle.std.proofs.Common.{length, sym, subst}
use Rattle.event_order.specs.Ordering.{HasNodes}
use Rattle.event_order.proofs.Stuck.{is_order, is_stuck}
use Rattle.event_order.proofs.ordering.order_from.Goals as goal

pub returns-then-at-events : goal.returns-then-at-events
returns-then-at-events g c =
    let nodes : HasNodes (length c.walk.new.heads) c.args.events.now = subst (λ n. HasNodes n c.args.events.now) (sym c.walk.auto.heads) c.requires.nodes in
    is_stuck c.args.events.now c.in_ok-order.order.items c.walk.new.heads nodes c.in_ok-order.ensures c.least-at.result c.least-at.ensures c.if-at-events.true

pub returns : goal.returns
returns g c =
    let nodes : HasNodes (length c.walk.new.heads) c.args.events.now = subst (λ n. HasNodes n c.args.events.now) (sym c.walk.auto.heads) c.requires.nodes in (
      is_order c.args.events.now c.in_ok-order.order.items c.walk.new.heads nodes c.in_ok-order.ensures c.least-at.result c.least-at.ensures c.if-at-events.false,
      c.in_ok-order.ensures.nearest,
    )
