use Rattle.std.proofs.Common.{◌≡◌, ◌∙◌, sym, ap, length}
use Rattle.bench_core.specs.Runs.{runs}
use Rattle.explore_network.specs.Walks.{steps_at}
use Rattle.explore_network.proofs.exploring.recorded_outcome.Goals as goal

pub returns : goal.returns
returns g c =
    let p = c.args.tour.now.plan.now in
    let path = c.in_ok-places.places.items in
    let all : steps_at p.steps path ≡ p.steps = c.in_ok-places.ensures p.steps (ap length (sym c.steps.ensures)) in
    record {
      run = ap (steps_at p.steps) (c.in_ok-outcome.ensures.run ∙ c.deref.ensures.value) ∙ all;
      leads = λ end ran. c.in_ok-outcome.ensures.leads end (ap (λ l. runs p.limits p.count (steps_at p.steps l)) c.deref.ensures.value ∙ ap (runs p.limits p.count) all ∙ ran);
    }
