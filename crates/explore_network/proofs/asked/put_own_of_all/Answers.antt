use Rattle.std.proofs.Common.{◌++◌, ◌∙◌, List, ap, add-one, append-nil, append_assoc, slice_get, sym}
use Rattle.dots_core.specs.declared.dot.Dot.{Dot}
use Rattle.explore_network.specs.Asked.{own_of, own_of_all}
use Rattle.explore_network.proofs.asked.put_own_of_all.Goals as goal

pub loop-number-init : goal.loop-number-init
unfolding own_of_all
loop-number-init g c = record { names = λ all. all; own = sym (append-nil c.args.dots.now.items) }

pub loop-number-preserved : goal.loop-number-preserved
unfolding own_of_all
loop-number-preserved g c =
    let old = c.args.dots.now.items in
    let n = c.loop-number.number in
    record {
      names = λ all. c.in_ok-put_own_of.ensures.names (c.loop-number.invariant.names all);
      own = c.in_ok-put_own_of.ensures.dots ∙ (λ i. c.loop-number.invariant.own i ++ own_of (c.node.ensures i)) ∙ append_assoc old (own_of_all c.args.cluster.now n) (own_of (slice_get c.args.cluster.now n))
          ∙ ap (λ (l : List Dot). old ++ l) (ap (own_of_all c.args.cluster.now) (sym (add-one n)));
    }
