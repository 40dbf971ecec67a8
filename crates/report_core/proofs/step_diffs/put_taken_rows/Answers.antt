use Rattle.std.proofs.Common.{◌∙◌}
use Rattle.std.proofs.lemmas.Result.{on_ok_weaker}
use Rattle.report_core.proofs.Lines.{no_row, one_row, rows_told}
use Rattle.report_core.proofs.step_diffs.put_taken_rows.Goals as goal

pub returns-in-Nothing : goal.returns-in-Nothing
returns-in-Nothing g c = no_row _ _ _ _ c.in-Nothing.ensures.rows

pub returns-in-One : goal.returns-in-One
returns-in-One g c = on_ok_weaker c.put_entry.result (one_row _ _ _ _ _ _ c.in-One.ensures.rows) c.put_entry.ensures

pub returns-in_ok-rows_taken-in-More : goal.returns-in_ok-rows_taken-in-More
returns-in_ok-rows_taken-in-More g c =
    on_ok_weaker c.put_entries.result (rows_told _ _ _ _ _ _ (c.deref.ensures.value ∙ c.in_ok-rows_taken-in-More.ensures)) c.put_entries.ensures
