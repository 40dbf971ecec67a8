-- What a walk finds by a plan; only this crate's own code uses it.
use Rattle.std.specs.Prelude.{◌≡◌, List, [], ◌∷◌, Ok}
use Rattle.std.specs.List.{AllByRecursion}
use Rattle.bench_core.specs.Clusters.{Cluster}
use Rattle.bench_core.specs.Runs.{runs}
use Rattle.explore_network.specs.Plans.{Plan}
use Rattle.explore_network.specs.Questions.{Question}
use Rattle.explore_network.specs.Walks.{steps_at, AreApart, IsOutcome, IsTold, Outcome}

-- each recorded step is accepted
abbrev pub Runs : Plan → Type 0
Runs p = (end : Cluster) × (runs p.limits p.count p.steps ≡ Ok end)

-- the outcome is that of the recorded run
pub record IsRecorded (p : Plan) (o : Outcome) : Type 0 where
  pub run : steps_at p.steps o.run ≡ p.steps
  pub leads : (end : Cluster) → runs p.limits p.count p.steps ≡ Ok end → o.cluster ≡ end

-- the outcome of the recorded run is the only one
abbrev pub BeginsWith : Plan → List Outcome → Type 0
BeginsWith p os = (o : Outcome) × ((os ≡ o ∷ []) × IsRecorded p o)

-- the outcomes are those of the runs of the network, all of them, each once, and the recorded run's first
pub record AllIsTold (p : Plan) (q : Question) (os : List Outcome) : Type 0 where
  pub told : IsTold p q os []
  pub outcomes : AllByRecursion (IsOutcome p) os
  pub apart : AreApart q os
  pub first : Outcome
  pub rest : List Outcome
  pub parts : os ≡ first ∷ rest
  pub recorded : steps_at p.steps first.run ≡ p.steps
