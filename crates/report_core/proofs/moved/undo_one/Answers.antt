use Rattle.std.proofs.Common.{ap, ◌∙◌}
use Rattle.std.proofs.lemmas.Result.{IfOk-weaker}
use Rattle.report_core.specs.MovedRows.{with_undone_at}
use Rattle.report_core.proofs.MovedRows.{undone_more}
use Rattle.report_core.proofs.moved.undo_one.Goals as goal

pub returns-clause-moved : goal.returns-clause-moved
returns-clause-moved g c =
    IfOk-weaker c.add_at.result _ _
    (λ more are start so_far. undone_more c.online_law.ensures c.unwind_law.ensures.others start c.args.bench.now c.undo.new.bench
    c.args.actor c.args.number c.args.moved.items c.in_ok-step.step.left.items c.in_ok-step.step.joined.items so_far c.bench_law.ensures
    c.requires c.in_ok-undo.ensures c.in_ok-step.ensures more.items
    (are ∙ ap (λ o. with_undone_at c.args.moved.items o c.in_ok-step.step.left.items c.in_ok-step.step.joined.items) c.node_of_step-node.ensures))
    c.add_at.ensures
