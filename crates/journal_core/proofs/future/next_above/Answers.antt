use Rattle.std.proofs.Common.{◌≡◌, ◌∙◌, ◌<◌, length, sym, ap, subst, arith}
use Rattle.std.proofs.lemmas.List.{get_or_read}
use Rattle.journal_core.specs.Numbers.{least}
use Rattle.journal_core.specs.Holdings.{kepts}
use Rattle.journal_core.specs.Causes.{AreKnown, Causes, causes_at, no_causes}
use Rattle.journal_core.proofs.NextStep.{no_node, next_node, all_nodes}
use Rattle.journal_core.proofs.future.next_above.Goals as goal

pub loop-node-init : goal.loop-node-init
loop-node-init g c = no_node (kepts c.args.slots.now.steps) c.args.bounds.now c.args.number c.requires.rises

pub loop-node-preserved : goal.loop-node-preserved
loop-node-preserved g c =
    let ks = kepts c.args.slots.now.steps in
    let low : c.loop-node.node < length c.args.causes.now = c.loop-node-test.true in
    let read : c.index-causes-node.result ≡ causes_at c.args.causes.now c.loop-node.node =
    get_or_read c.args.causes.now c.loop-node.node c.index-causes-node.result low c.index-causes-node.is no_causes in
    c.least-next.ensures ∙ ap (least c.loop-node.next) c.next_of.ensures
    ∙ next_node ks c.args.bounds.now c.args.number c.requires.rises c.loop-node.node c.index-causes-node.result.own c.loop-node.next
    (ap (λ (v : Causes). v.own) read ∙ (c.requires.indexed c.loop-node.node low).own) c.loop-node.invariant

pub returns : goal.returns
returns g c =
    let whole : c.loop-node.node ≡ length c.args.causes.now = let high = c.loop-node-test.false in let low = c.loop-node.auto.node-end in
    omega arith in
    c.loop-node.invariant ∙ all_nodes (kepts c.args.slots.now.steps) c.args.bounds.now c.args.number c.requires.rises c.loop-node.node
    (subst (λ n. AreKnown n (kepts c.args.slots.now.steps)) (sym whole) c.requires.known)
