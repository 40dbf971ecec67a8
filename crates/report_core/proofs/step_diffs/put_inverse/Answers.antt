use Rattle.std.proofs.Common.{refl, arith}
use Rattle.std.proofs.lemmas.Result.{on_ok_weaker}
use Rattle.node_core.specs.Inverses.{plain_inverse}
use Rattle.replica_core.specs.Changes.{plain_change, back}
use Rattle.diff_core.specs.Diffs.{alone}
use Rattle.diff_core.specs.Sorting.{online_of}
use Rattle.report_core.proofs.Lines.{puts_none}
use Rattle.report_core.proofs.StepDiffs.{change_leads, tells_change, tells_none}
use Rattle.report_core.proofs.step_diffs.put_inverse.Goals as goal

pub put_change_rows-requires : goal.put_change_rows-requires
put_change_rows-requires g c = (
  omega arith,
  change_leads c.change_law.ensures (plain_inverse c.args.inverse.now) (plain_change c.in-Some.change.now) c.args.node.now
      c.replica.result.now c.in-Some.ensures c.replica.ensures c.requires,
)

pub returns-in-Some : goal.returns-in-Some
returns-in-Some g c =
    let change = plain_change c.in-Some.change.now in
    let b = c.replica.result.now in
    on_ok_weaker c.put_change_rows.result
    (λ is. record {
      left = alone (online_of (back change b)) (online_of b);
      joined = alone (online_of b) (online_of (back change b));
      told = tells_change c.back_law.ensures c.change_law.ensures (plain_inverse c.args.inverse.now) change c.args.node.now b _ _
          c.in-Some.ensures c.replica.ensures refl refl;
      text = is;
    }) c.put_change_rows.ensures

pub returns-in-None : goal.returns-in-None
returns-in-None g c =
    puts_none _ _ _
    (tells_none c.diff_law.ensures c.one_list_law.ensures c.online_law.ensures c.change_law.ensures (plain_inverse c.args.inverse.now)
    c.args.node.now _ _ c.in-None.ensures refl refl)
