use Rattle.std.proofs.Common.{◌≡◌, ◌≤◌, ◌∙◌, length, ◌++◌, ◌∷◌, [], List, false, sym, ap, subst}
use Rattle.explore_network.specs.Questions.{plain}
use Rattle.std.specs.List.{AllByRecursion}
use Rattle.bench_core.specs.Runs.{runs}
use Rattle.explore_network.specs.Walks.{steps_at, told_by, IsOutcome, Outcome, Went}
use Rattle.explore_network.proofs.Telling.{all_few, few_nodes, keeps_outcome, more_one, tells_itself}
use Rattle.explore_network.proofs.walk.tell.Goals as goal

pub is_told-requires-clause-few : goal.is_told-requires-clause-few
is_told-requires-clause-few g c =
    few_nodes c.args.tour.now.plan.now (plain c.args.tour.now.question.now) c.requires.plan (steps_at c.args.tour.now.plan.now.steps c.args.walk.now.path.items) c.args.walk.now.cluster c.requires.ends.leads

pub is_told-requires-clause-all_few : goal.is_told-requires-clause-all_few
is_told-requires-clause-all_few g c =
    subst (AllByRecursion (λ (o : Outcome). length o.cluster ≤ 32)) (sym c.deref.ensures.value)
    (all_few c.args.tour.now.plan.now (plain c.args.tour.now.question.now) c.requires.plan c.args.walk.now.outcomes.items c.requires.keeps.outcomes)

pub returns-clause-went : goal.returns-clause-went
returns-clause-went g c =
    let p = c.args.tour.now.plan.now in
    let q = (plain c.args.tour.now.question.now) in
    let os = c.args.walk.now.outcomes.items in
    let o = c.in_ok-outcome.outcome in
    let run : o.run ≡ c.args.walk.now.path.items = c.in_ok-outcome.ensures.run ∙ c.deref-2.ensures.value in
    let cluster : o.cluster ≡ c.args.walk.now.cluster =
    c.in_ok-outcome.ensures.leads c.args.walk.now.cluster (ap (λ l. runs p.limits p.count (steps_at p.steps l)) c.deref-2.ensures.value ∙ c.requires.ends.leads) in
    let whole : o ≡ record { run = c.args.walk.now.path.items; cluster = c.args.walk.now.cluster } = (λ i. record { run = run i; cluster = cluster i }) in
    let new : told_by q os o.cluster ≡ false =
    ap (told_by q os) cluster ∙ ap (λ l. told_by q l c.args.walk.now.cluster) (sym c.deref.ensures.value) ∙ sym c.in_ok-is_told.ensures ∙ c.if-branch.false in
    subst (λ (l : List Outcome). Went p q os c.args.walk.now.settled l) (sym c.in_ok-push.ensures.items)
    (record { more = more_one os o; keeps = keeps_outcome p q c.args.walk.now.settled os o c.requires.keeps (subst (IsOutcome p) (sym whole) c.requires.ends) new })

pub returns-clause-told : goal.returns-clause-told
returns-clause-told g c =
    let p = c.args.tour.now.plan.now in
    let q = (plain c.args.tour.now.question.now) in
    let os = c.args.walk.now.outcomes.items in
    let o = c.in_ok-outcome.outcome in
    let cluster : o.cluster ≡ c.args.walk.now.cluster =
    c.in_ok-outcome.ensures.leads c.args.walk.now.cluster (ap (λ l. runs p.limits p.count (steps_at p.steps l)) c.deref-2.ensures.value ∙ c.requires.ends.leads) in
    ap (λ (l : List Outcome). told_by q l c.args.walk.now.cluster) c.in_ok-push.ensures.items ∙ ap (told_by q (os ++ o ∷ [])) (sym cluster) ∙ tells_itself q os o
