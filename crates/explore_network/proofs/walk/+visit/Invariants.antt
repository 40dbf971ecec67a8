use Rattle.std.proofs.Common.{◌≡◌, ◌+◌, ◌*◌, ◌<◌, ℕ}
use Rattle.progress_core.specs.Watches.{Watched}
use Rattle.explore_network.specs.Questions.{plain}
use Rattle.explore_network.specs.Walks.{GoesThroughAt, Went}
use Rattle.explore_network.proofs.walk.+visit.Given as goal

abbrev pub decreases-visit : goal.decreases-visit
decreases-visit g l = 7 * l.left + 6

abbrev pub decreases-tell_once : goal.decreases-tell_once
decreases-tell_once g l = 7 * l.left + 5

abbrev pub decreases-tell_all : goal.decreases-tell_all
decreases-tell_all g l = 7 * l.left + 4

abbrev pub decreases-go_on : goal.decreases-go_on
decreases-go_on g l = 7 * l.left + 3

abbrev pub decreases-go_first : goal.decreases-go_first
decreases-go_first g l = 7 * l.left + 2

abbrev pub decreases-go_at : goal.decreases-go_at
decreases-go_at g l = 7 * l.left + 2

abbrev pub decreases-through : goal.decreases-through
decreases-through g l = 7 * l.left + 1

abbrev pub decreases-onward : goal.decreases-onward
decreases-onward g l = 7 * l.left

-- all was told that begins with one of the steps so far
abbrev pub invariant-go_on-loop-place : goal.invariant-go_on-loop-place
invariant-go_on-loop-place g l = record {
  cluster : l.walk.cluster ≡ l.initial.walk.cluster;
  path : l.walk.path.items ≡ l.initial.walk.path.items;
  went : Went l.tour.plan.now (plain l.tour.question.now) l.initial.walk.outcomes.items l.walk.settled l.walk.outcomes.items;
  goes : (place : ℕ) → place < l.place → GoesThroughAt l.tour.plan.now (plain l.tour.question.now) l.initial.walk.path.items l.initial.walk.cluster l.counts l.walk.outcomes.items place;
  watched : Watched g.W.Watch.told l.initial.watch l.watch;
}
