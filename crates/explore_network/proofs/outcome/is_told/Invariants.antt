use Rattle.std.proofs.Common.{◌≡◌, drop}
use Rattle.explore_network.specs.Questions.{plain}
use Rattle.explore_network.specs.Walks.{told_by}
use Rattle.explore_network.proofs.outcome.is_told.Given as goal

-- what is left decides
abbrev pub invariant-loop-outcome : goal.invariant-loop-outcome
invariant-loop-outcome g l = told_by (plain l.question) (drop l.outcome-index l.outcomes) l.cluster ≡ told_by (plain l.question) l.outcomes l.cluster
