use Rattle.std.proofs.Common.{rules, ◌≡◌, ◌++◌, ◌∷◌, ◌∙◌, sym, ap, length, take, drop}
use Rattle.std.proofs.Math.Seq.{take-append_seam}
use Rattle.std.proofs.lemmas.List.{length-append}
use Rattle.bench_core.proofs.cluster.step_node.Goals as goal

pub returns-clause-steps : goal.returns-clause-steps
returns-clause-steps g c =
    let e = c.step_at.ensures in
    let old : c.args.nodes.now.items ≡ e.parted.before ++ e.parted.value ∷ e.parted.after = sym c.as_mut_slice.ensures.value ∙ e.parted.whole in
    let size : length c.step_at.new.members ≡ c.args.nodes.now.len = search (rules, length-append) in
    let whole : take c.args.nodes.now.len (c.step_at.new.members ++ drop (length c.step_at.new.members) c.args.nodes.now.items) ≡
    c.step_at.new.members =
    ap (λ n. take n (c.step_at.new.members ++ drop (length c.step_at.new.members) c.args.nodes.now.items)) (sym size)
    ∙ take-append_seam _ _ in
    rw (whole, e.gives, old, sym e.parted.stands) e.edited.steps
