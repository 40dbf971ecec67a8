use Rattle.std.proofs.Common.{◌≡◌, ◌∙◌, sym, ap, subst, subst₂, List, length, arith, []}
use Rattle.replica_core.specs.Limits.{AreNodeLimits}
use Rattle.journal_core.specs.Holdings.{Journal, kepts}
use Rattle.bench_core.specs.Limits.{node_limits}
use Rattle.bench_core.specs.Clusters.{opening_of}
use Rattle.bench_core.specs.Machine.{Event}
use Rattle.bench_core.specs.Benches.{AreNodes, IsBench}
use Rattle.bench_core.proofs.Openings.{opens}
use Rattle.bench_core.proofs.Members.{opening_nodes}
use Rattle.bench_core.proofs.Invariant.{config, machine}
use Rattle.bench_core.proofs.bench.Bench.new.Goals as goal

pub invariant_of-result : goal.invariant_of-result
invariant_of-result g c =
    let nodes : c.in-Ok.cluster ≡ opening_of (node_limits c.args.limits) (length c.args.names) = c.in-Ok.ensures
    ∙ ap (λ l. opening_of l c.len.result) c.of_node.ensures.value ∙ ap (opening_of (node_limits c.args.limits)) c.len.ensures.len in
    let kept = opening_nodes (node_limits c.args.limits) (length c.args.names) (omega arith) (subst AreNodeLimits c.of_node.ensures.value c.of_node.ensures.of_node) in
    let opened = opens (config c.args.names c.args.limits) c.in-Ok.cluster c.of_node.ensures.range (omega arith) nodes
    (subst AreNodes (sym nodes) kept) in (
      subst (IsBench (config c.args.names c.args.limits)
          (record { history = c.new-3.result; remaining = kepts c.in-Ok-new.journal.steps }) c.in-Ok.cluster
          c.in-Ok-new.journal.steps) (sym c.new-4.ensures)
          (subst₂ (λ (j : Journal) (h : List Event). IsBench (config c.args.names c.args.limits)
          (record { history = h; remaining = kepts j.steps }) c.in-Ok.cluster j.steps 0) (sym c.in-Ok-new.ensures)
          (sym c.new-3.ensures) opened),
      ap (λ (j : Journal). j.nodes) c.in-Ok-new.ensures ∙ c.len-2.ensures.len,
    )

pub returns : goal.returns
returns g c =
    ap (λ (h : List Event). machine c.args.names c.args.limits h (kepts c.in-Ok-new.journal.steps)) c.new-3.ensures
    ∙ ap (λ (j : Journal). machine c.args.names c.args.limits [] (kepts j.steps)) c.in-Ok-new.ensures
