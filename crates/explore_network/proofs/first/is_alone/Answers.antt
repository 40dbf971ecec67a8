use Rattle.std.proofs.Common.{inl, inr, subst}
use Rattle.journal_core.specs.Journals.{Kept}
use Rattle.network_rules.specs.Easy.{IsEasyAt}
use Rattle.network_rules.specs.Turns.{AreSpent}
use Rattle.explore_network.proofs.first.is_alone.Goals as goal

pub returns-then-is_easy : goal.returns-then-is_easy
returns-then-is_easy g c = λ h. inl (subst (λ (k : Kept). IsEasyAt c.args.state.now.cluster.now k.node k.step) c.kept.view_is (c.if-is_easy.ensures h))

pub returns : goal.returns
returns g c = λ h. inr (subst (λ (k : Kept). AreSpent c.args.plan.now.turns c.args.state.now.counts.now c.args.plan.now.again k.node) c.kept.view_is
    (subst (λ ts. AreSpent ts c.args.state.now.counts.now c.args.plan.now.again c.kept.inside.node) c.turns.ensures
    (subst (λ n. AreSpent c.turns.result.now c.args.state.now.counts.now n c.kept.inside.node) c.again.ensures (c.are_spent.ensures h))))
