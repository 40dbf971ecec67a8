use Rattle.std.proofs.Common.{◌≡◌, ◌∙◌, ◌+◌, Some, drop, slice_get, sym, ap, rules}
use Rattle.std.proofs.lemmas.List.{drop_all}
use Rattle.order_core.proofs.Places.{from_on}
use Rattle.explore_network.specs.Turns.{noted_all}
use Rattle.network_rules.proofs.Lookups.{read_at}
use Rattle.explore_network.proofs.turns.turns_of.Goals as goal

pub loop-kept-preserved : goal.loop-kept-preserved
unfolding noted_all
loop-kept-preserved g c =
    let at : slice_get c.args.steps.now c.loop-kept.kept-index ≡ Some c.kept-item.result =
    read_at c.args.steps.now c.loop-kept.kept-index c.kept-item.result c.loop-kept-test.true c.kept-item.is in
    ap (λ ts. noted_all c.args.steps.now ts (drop (c.loop-kept.kept-index + 1) c.args.steps.now)) c.in_ok-note.ensures
    ∙ ap (λ ks. noted_all c.args.steps.now c.loop-kept.turns.items ks) (sym (from_on c.args.steps.now c.loop-kept.kept-index _ at)) ∙ c.loop-kept.invariant

pub returns : goal.returns
unfolding noted_all
returns g c = ap (λ ks. noted_all c.args.steps.now c.loop-kept.turns.items ks) (sym (drop_all c.loop-kept.kept-index c.args.steps.now (search rules))) ∙ c.loop-kept.invariant
