use Rattle.std.proofs.Common.{◌≡◌, Some, slice_get}
use Rattle.network_rules.proofs.Lookups.{read_at}
use Rattle.explore_network.proofs.RanksOf.{all_ranked, ranked_more}
use Rattle.explore_network.proofs.turns.ranks_of.Goals as goal

pub loop-place-preserved : goal.loop-place-preserved
loop-place-preserved g c =
    let at : slice_get c.args.steps.now c.loop-place.place ≡ Some c.index-steps-place.result =
    read_at c.args.steps.now c.loop-place.place c.index-steps-place.result c.loop-place-test.true c.index-steps-place.is in
    ranked_more c.args.turns.now c.args.steps.now c.loop-place.place c.index-steps-place.result c.loop-place.ranks.items c.push.new.self.items _ c.rank_of.result at
    c.in_ok-push.ensures.items c.rank_of.ensures c.loop-place.invariant

pub returns : goal.returns
returns g c = all_ranked c.args.turns.now c.args.steps.now c.loop-place.place c.loop-place.ranks.items _ c.loop-place-test.false c.loop-place.invariant
