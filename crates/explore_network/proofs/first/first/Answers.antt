use Rattle.std.proofs.Common.{◌≡◌, ◌∙◌, true, refl, sym}
use Rattle.network_rules.specs.Turns.{is_next}
use Rattle.explore_network.specs.Walks.{next_in}
use Rattle.explore_network.proofs.Firsts.{is_first}
use Rattle.explore_network.proofs.first.first.Goals as goal

pub returns-then-can_go_first : goal.returns-then-can_go_first
returns-then-can_go_first g c = λ q plan.
    let next : next_in c.args.plan.now c.args.state.now.counts.now c.loop-place.place ≡ true =
    (λ i. is_next (sym c.turns.ensures i) (sym c.ranks.ensures i) c.args.state.now.counts.now (sym c.again.ensures i) c.loop-place.place) ∙ sym c.if-is_next.ensures in
    is_first c.args.plan.now q c.args.state.now.counts.now c.args.state.now.cluster.now c.loop-place.place plan next (c.if-can_go_first.ensures refl)
