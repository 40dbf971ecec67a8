use Rattle.std.proofs.Common.{◌≡◌, ◌<◌, ◌++◌}
use Rattle.std.specs.List.{AllByRecursion}
use Rattle.dots_core.specs.declared.dot.Dot.{Dot}
use Rattle.explore_network.specs.Asked.{own_of_all}
use Rattle.explore_network.proofs.asked.put_own_of_all.Given as goal

-- those of the first nodes
abbrev pub invariant-loop-number : goal.invariant-loop-number
invariant-loop-number g l = record {
  names : AllByRecursion (λ (d : Dot). d.name < 32) l.fn.dots.items → AllByRecursion (λ (d : Dot). d.name < 32) l.dots.items;
  own : l.dots.items ≡ l.fn.dots.items ++ own_of_all l.cluster l.number;
}
