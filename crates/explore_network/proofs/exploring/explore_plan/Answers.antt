use Rattle.std.proofs.Common.{◌∙◌, ◌+◌, ap, length, subst, sym}
use Rattle.explore_network.specs.Questions.{plain}
use Rattle.explore_network.specs.Outcomes.{AllIsTold}
use Rattle.explore_network.proofs.Starts.{ends_told, starts}
use Rattle.explore_network.proofs.exploring.explore_plan.Goals as goal

pub visit-visited-requires : goal.visit-visited-requires
visit-visited-requires g c =
    starts c.args.plan.now (plain c.args.question.now) c.in_ok-walk.walk.path.items c.in_ok-walk.walk.cluster c.in_ok-walk.walk.settled c.in_ok-walk.walk.outcomes.items c.deref.result.now
    (length c.steps.result.now + c.again.result) (length c.turns.result.now) c.requires.plan c.requires.ran c.in_ok-walk.ensures.path c.in_ok-walk.ensures.cluster c.in_ok-walk.ensures.settled c.in_ok-walk.ensures.outcomes
    (ap length c.turns.ensures) (c.deref.ensures.value ∙ c.in_ok-counts.ensures) (λ i. length (c.steps.ensures i) + c.again.ensures i)

pub returns-in-Ok-clause-told : goal.returns-in-Ok-clause-told
returns-in-Ok-clause-told g c =
    let p = c.args.plan.now in
    let q = plain c.args.question.now in
    subst (AllIsTold p q) (sym c.explored_of.ensures.outcomes)
    (ends_told p q c.in_ok-walk.walk.path.items c.in_ok-walk.walk.outcomes.items c.visit-visited.new.walk.outcomes.items c.visit-visited.new.walk.settled c.in_ok-walk.ensures.path
    c.in_ok-walk.ensures.outcomes c.in-Ok.ensures.went c.in-Ok.ensures.told)
