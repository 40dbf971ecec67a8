use Rattle.std.proofs.lemmas.Grind.{common_steps}
use Rattle.std.proofs.Common.{arith}
use Rattle.std.proofs.lemmas.Result.{on_ok_weaker}
use Rattle.diff_core.proofs.Gathered.{none_put, some_put}
use Rattle.diff_core.proofs.changing.put_found.Goals as goal

pub returns-in-Some : goal.returns-in-Some
returns-in-Some g c =
    on_ok_weaker c.put_row.result
    (some_put c.args.replica.now c.entries.result.now.map c.args.dot c.args.rows.now.items c.entries.ensures c.in-Some.entry.now
    c.put_row.new.rows.items c.in-Some.ensures) c.put_row.ensures

pub returns-in-None : goal.returns-in-None
returns-in-None g c =
    none_put c.args.replica.now c.entries.result.now.map c.args.dot c.args.rows.now.items c.entries.ensures c.in-None.ensures

pub entries-requires : goal.entries-requires
entries-requires g c = grind (arith, common_steps)
