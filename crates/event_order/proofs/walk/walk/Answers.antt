use Rattle.std.proofs.Common.{◌≡◌, ◌++◌, ◌∷◌, [], length, sym, ◌∙◌, subst, arith}
use Rattle.event_order.specs.Ordering.{HasNodes, IsBegun, IsNearest}
use Rattle.event_order.specs.Walks.{IsWalk}
use Rattle.event_order.proofs.Coming.{none_before, can_come, begun_more, nearest_more}
use Rattle.event_order.proofs.walk.walk.Goals as goal

pub loop-place-preserved : goal.loop-place-preserved
loop-place-preserved g c =
    let events = c.args.events.now in
    let old = c.loop-place.invariant in
    let nodes : HasNodes (length c.loop-place.heads) events = subst (λ n. HasNodes n events) (sym old.nodes) c.requires.nodes in
    let pushed : c.push.new.self.items ≡ c.loop-place.came.items ++ c.loop-place.place ∷ [] = c.in_ok-push.ensures.items in
    record {
      nodes = c.come.auto.heads ∙ old.nodes;
      messages = c.come.auto.sent ∙ old.messages;
      walk = subst (λ came. IsWalk events came c.come.new.heads c.come.new.sent) (sym pushed) (c.come.ensures.walk c.loop-place.came.items old.walk);
      begun = subst (λ came. IsBegun events came) (sym pushed) (begun_more events c.loop-place.came.items c.loop-place.place old.begun
          (can_come events c.loop-place.came.items c.loop-place.heads c.loop-place.sent nodes old.walk c.loop-place.place old.next c.loop-place-test.true));
      nearest = subst (λ came. IsNearest events came) (sym pushed) (nearest_more events c.loop-place.came.items c.loop-place.place old.nearest
          (λ q can before. none_before events c.loop-place.came.items c.loop-place.heads c.loop-place.sent nodes old.walk c.loop-place.place q old.next can before));
      next = c.least_ready-place-in-loop-place.ensures;
    }

pub returns : goal.returns
returns g c =
    let events = c.args.events.now in
    let old = c.loop-place.invariant in
    let nodes : HasNodes (length c.loop-place.heads) events = subst (λ n. HasNodes n events) (sym old.nodes) c.requires.nodes in
    record {
      begun = old.begun;
      nearest = old.nearest;
      next = old.walk.next;
      none = λ q can. none_before events c.loop-place.came.items c.loop-place.heads c.loop-place.sent nodes old.walk c.loop-place.place q old.next can
          (let h = c.loop-place-test.false in let there = can.there in omega arith);
    }
