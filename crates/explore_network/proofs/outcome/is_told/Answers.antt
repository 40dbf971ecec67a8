use Rattle.std.proofs.Common.{◌∙◌, ◌+◌, ◌||◌, List, drop, sym, ap}
use Rattle.std.proofs.lemmas.List.{drop_all}
use Rattle.explore_network.specs.Questions.{plain, shown}
use Rattle.explore_network.specs.SameShown.{same_shown}
use Rattle.explore_network.specs.Walks.{told_by, Outcome}
use Rattle.network_rules.proofs.Lookups.{read_at}
use Rattle.explore_network.proofs.SameShown.{same_decision}
use Rattle.explore_network.proofs.Telling.{told_on}
use Rattle.explore_network.proofs.outcome.is_told.Goals as goal

pub returns-then-branch : goal.returns-then-branch
returns-then-branch g c =
    let q = plain c.args.question.now in
    let i = c.loop-outcome.outcome-index in
    let at = read_at c.args.outcomes.now i c.outcome-item.result c.loop-outcome-test.true c.outcome-item.is in
    let same = same_decision (shown q c.cluster.result.now) (shown q c.args.cluster.now) c.in_ok-show_same.field-0 c.in_ok-show_same.ensures in
    let told = ap (λ x. same_shown (shown q x) (shown q c.args.cluster.now)) (sym c.cluster.ensures) ∙ same ∙ c.if-branch.true in
    ap (λ b. b || told_by q (drop (i + 1) c.args.outcomes.now) c.args.cluster.now) (sym told)
    ∙ sym (told_on q c.args.outcomes.now i c.outcome-item.result c.args.cluster.now at) ∙ c.loop-outcome.invariant

pub loop-outcome-preserved : goal.loop-outcome-preserved
loop-outcome-preserved g c =
    let q = plain c.args.question.now in
    let i = c.loop-outcome.outcome-index in
    let at = read_at c.args.outcomes.now i c.outcome-item.result c.loop-outcome-test.true c.outcome-item.is in
    let same = same_decision (shown q c.cluster.result.now) (shown q c.args.cluster.now) c.in_ok-show_same.field-0 c.in_ok-show_same.ensures in
    let told = ap (λ x. same_shown (shown q x) (shown q c.args.cluster.now)) (sym c.cluster.ensures) ∙ same ∙ c.if-branch.false in
    ap (λ b. b || told_by q (drop (i + 1) c.args.outcomes.now) c.args.cluster.now) (sym told)
    ∙ sym (told_on q c.args.outcomes.now i c.outcome-item.result c.args.cluster.now at) ∙ c.loop-outcome.invariant

pub returns : goal.returns
returns g c = sym (ap (λ (l : List Outcome). told_by (plain c.args.question.now) l c.args.cluster.now) (drop_all c.loop-outcome.outcome-index c.args.outcomes.now c.loop-outcome-test.false)) ∙ c.loop-outcome.invariant
