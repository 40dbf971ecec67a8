use Rattle.std.proofs.Common.{◌<◌, sym, subst}
use Rattle.std.specs.List.{AllByRecursion}
use Rattle.dots_core.specs.declared.dot.Dot.{Dot}
use Rattle.explore_network.proofs.asked.dots_of_presences.Goals as goal

pub returns : goal.returns
returns g c = λ node. record {
  names = c.in_ok-put.ensures.names (subst (AllByRecursion (λ (d : Dot). d.name < 32)) (sym c.new-dots.ensures.items) tt);
  wants = λ end run. c.in_ok-put.ensures.asked c.args.limits c.args.count end c.in_ok-cluster.ensures c.new-dots.ensures.items run;
}
