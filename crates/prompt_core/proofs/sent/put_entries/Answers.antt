use Rattle.std.proofs.Common.{◌++◌, List, ap, codes, string_bytes, ◌∙◌}
use Rattle.std.specs.FinMap as fin
use Rattle.payload_core.specs.Presences.{Entry}
use Rattle.report_core.specs.Rows.{row_lines}
use Rattle.diff_core.specs.Rows.{Row}
use Rattle.prompt_core.proofs.SentText.{row_all, row_more, rows_ahead, rows_walked}
use Rattle.prompt_core.proofs.sent.put_entries.Goals as goal

pub loop-entry-init : goal.loop-entry-init
loop-entry-init g c =
    ap (λ (rows : List Row). string_bytes c.args.text.now ++ row_lines (codes "= ") c.args.names.now rows)
    (ap rows_ahead c.walk-walk.ensures ∙ rows_walked (fin.entries c.args.entries.now.map))

pub loop-entry-preserved : goal.loop-entry-preserved
loop-entry-preserved g c =
    row_more (codes "= ") c.args.names.now c.loop-entry.walk c.next.new.self c.in-Some.entry.now _ _ _
    c.in-Some.ensures c.in_ok-put_entry.ensures c.loop-entry.invariant

pub returns : goal.returns
returns g c =
    row_all (codes "= ") c.args.names.now c.loop-entry.walk _ _ c.in_default.ensures c.loop-entry.invariant
