use Rattle.std.proofs.Common.{◌∙◌, ap, length, subst}
use Rattle.explore_network.specs.Questions.{plain}
use Rattle.bench_core.specs.Limits.{node_limits}
use Rattle.explore_network.specs.declared.explore_fault.ExploreFault.TheVariants.{TooManyStates}
use Rattle.explore_network.specs.Walks.{HasReason}
use Rattle.explore_network.proofs.Calls.{err_same}
use Rattle.explore_network.proofs.Results.{are_distinct, are_too_many, invents_nothing, misses_nothing}
use Rattle.explore_network.proofs.exploring.explore.Goals as goal

pub returns-in-Ok-clause-misses_nothing : goal.returns-in-Ok-clause-misses_nothing
returns-in-Ok-clause-misses_nothing g c =
    misses_nothing c.args.bench.now (plain c.args.question.now) c.args.bounds.lost c.args.bounds.again c.in_ok-plan.plan (record {
      limits = c.in_ok-plan.ensures.limits ∙ c.of_node-limits.ensures.value ∙ ap node_limits c.limits.ensures;
      count = c.in_ok-plan.ensures.count ∙ c.len-count.ensures.len ∙ ap length c.names.ensures;
      steps = c.in_ok-plan.ensures.steps ∙ c.in_ok-steps.ensures ∙ c.remaining.ensures.steps;
      lost = c.in_ok-plan.ensures.lost;
      again = c.in_ok-plan.ensures.again;
    }) c.in-Ok.explored.outcomes.items c.in-Ok.ensures.told

pub returns-in-Ok-clause-invents_nothing : goal.returns-in-Ok-clause-invents_nothing
returns-in-Ok-clause-invents_nothing g c =
    invents_nothing c.args.bench.now (plain c.args.question.now) c.args.bounds.lost c.args.bounds.again c.in_ok-plan.plan (record {
      limits = c.in_ok-plan.ensures.limits ∙ c.of_node-limits.ensures.value ∙ ap node_limits c.limits.ensures;
      count = c.in_ok-plan.ensures.count ∙ c.len-count.ensures.len ∙ ap length c.names.ensures;
      steps = c.in_ok-plan.ensures.steps ∙ c.in_ok-steps.ensures ∙ c.remaining.ensures.steps;
      lost = c.in_ok-plan.ensures.lost;
      again = c.in_ok-plan.ensures.again;
    }) c.in-Ok.explored.outcomes.items c.in-Ok.ensures.told

pub returns-in-Ok-clause-distinct : goal.returns-in-Ok-clause-distinct
returns-in-Ok-clause-distinct g c =
    are_distinct c.args.bench.now (plain c.args.question.now) c.args.bounds.lost c.args.bounds.again c.in_ok-plan.plan (record {
      limits = c.in_ok-plan.ensures.limits ∙ c.of_node-limits.ensures.value ∙ ap node_limits c.limits.ensures;
      count = c.in_ok-plan.ensures.count ∙ c.len-count.ensures.len ∙ ap length c.names.ensures;
      steps = c.in_ok-plan.ensures.steps ∙ c.in_ok-steps.ensures ∙ c.remaining.ensures.steps;
      lost = c.in_ok-plan.ensures.lost;
      again = c.in_ok-plan.ensures.again;
    }) c.in-Ok.explored.outcomes.items c.in-Ok.ensures.told

pub returns-in-Err-clause-too_many : goal.returns-in-Err-clause-too_many
returns-in-Err-clause-too_many g c = λ found is.
    let q = plain c.args.question.now in
    let p = c.in_ok-plan.plan in
    let stop = c.fault_of.ensures.same found (err_same c.fault_of.result (TooManyStates found) is) in
    are_too_many c.args.bench.now q c.args.bounds.lost c.args.bounds.again p (record {
      limits = c.in_ok-plan.ensures.limits ∙ c.of_node-limits.ensures.value ∙ ap node_limits c.limits.ensures;
      count = c.in_ok-plan.ensures.count ∙ c.len-count.ensures.len ∙ ap length c.names.ensures;
      steps = c.in_ok-plan.ensures.steps ∙ c.in_ok-steps.ensures ∙ c.remaining.ensures.steps;
      lost = c.in_ok-plan.ensures.lost;
      again = c.in_ok-plan.ensures.again;
    }) c.args.bounds.states found c.in_ok-plan.ensures.most (subst (HasReason p q) stop c.in-Err.ensures.stops)
