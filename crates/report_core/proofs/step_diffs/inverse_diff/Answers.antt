use Rattle.std.proofs.Common.{arith}
use Rattle.node_core.specs.Inverses.{plain_inverse}
use Rattle.replica_core.specs.Changes.{plain_change}
use Rattle.report_core.proofs.StepDiffs.{both, change_leads, tells_change, tells_none}
use Rattle.report_core.proofs.step_diffs.inverse_diff.Goals as goal

pub changed-requires : goal.changed-requires
changed-requires g c = (
  omega arith,
  change_leads c.change_law.ensures (plain_inverse c.args.inverse.now) (plain_change c.in-Some.change.now) c.args.node.now
      c.replica.result.now c.in-Some.ensures c.replica.ensures c.requires,
)

pub returns-in-Some : goal.returns-in-Some
returns-in-Some g c =
    both c.changed.result _ _ _
    (λ diff. tells_change c.back_law.ensures c.change_law.ensures (plain_inverse c.args.inverse.now) (plain_change c.in-Some.change.now)
    c.args.node.now c.replica.result.now diff.left.items diff.joined.items c.in-Some.ensures c.replica.ensures)
    c.changed.ensures.left c.changed.ensures.joined

pub returns-in-None : goal.returns-in-None
returns-in-None g c =
    tells_none c.diff_law.ensures c.one_list_law.ensures c.online_law.ensures c.change_law.ensures (plain_inverse c.args.inverse.now)
    c.args.node.now c.none.result.left.items c.none.result.joined.items c.in-None.ensures c.none.ensures.left c.none.ensures.joined
