use Rattle.std.proofs.Common.{◌++◌, ◌∷◌, [], ◌∙◌, sym, ap, List, arith}
use Rattle.node_core.specs.Nodes.{Node}
use Rattle.bench_core.specs.Clusters.{opening_of}
use Rattle.bench_core.proofs.Openings.{opening_push}
use Rattle.bench_core.proofs.Members.{opening_keeps}
use Rattle.bench_core.proofs.Tried.{met}
use Rattle.bench_core.proofs.cluster.Cluster.new.Goals as goal

pub loop-number-preserved : goal.loop-number-preserved
loop-number-preserved g c = record {
  opening = c.push_reserved.ensures.items
      ∙ ap (λ (l : List Node). l ++ c.new.result ∷ []) c.loop-number.invariant.opening
      ∙ ap (λ (x : Node). opening_of c.args.limits c.loop-number.number ++ x ∷ []) c.new.ensures
      ∙ sym (opening_push c.args.limits c.loop-number.number);
  count = omega arith;
  room = omega arith;
}

pub returns : goal.returns
returns g c =
    c.loop-number.invariant.opening ∙ ap (opening_of c.args.limits) (met _ _ c.loop-number.auto.number-end c.loop-number-test.false)

pub invariant_of-result : goal.invariant_of-result
invariant_of-result g c =
    opening_keeps c.args.limits c.args.count c.loop-number.nodes.items c.requires.few c.requires.limits
    (c.loop-number.invariant.opening ∙ ap (opening_of c.args.limits) (met _ _ c.loop-number.auto.number-end c.loop-number-test.false))
