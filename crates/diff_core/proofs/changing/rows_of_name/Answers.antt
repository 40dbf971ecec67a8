use Rattle.std.proofs.Common.{◌++◌, refl, map, filter, ap, ◌∙◌}
use Rattle.std.specs.FinMap as fin
use Rattle.payload_core.specs.EntryLists.{pair_of}
use Rattle.payload_core.specs.Presences.{Entries}
use Rattle.diff_core.specs.Rows.{row_of}
use Rattle.diff_core.specs.ChangedRows.{is_of_name, rows_of_name}
use Rattle.diff_core.proofs.Listed.{rows_of_part, walked_all_rows, walked_row}
use Rattle.diff_core.proofs.changing.rows_of_name.Goals as goal

pub loop-entry-init : goal.loop-entry-init
loop-entry-init g c =
    ap (λ rs. rs ++ map (λ e. row_of (pair_of e)) c.walk_of-walk.result) c.new-rows.ensures.items
    ∙ ap (map (λ e. row_of (pair_of e))) c.walk_of-walk.ensures
    ∙ rows_of_part c.args.name c.entries.result.now.map
    ∙ ap (λ (es : Entries). map row_of (filter (is_of_name c.args.name) (fin.entries es))) c.entries.ensures

pub loop-entry-preserved : goal.loop-entry-preserved
loop-entry-preserved g c =
    walked_row c.loop-entry.walk c.next.new.self c.in-Some.entry.now (row_of (pair_of c.in-Some.entry.now)) c.loop-entry.rows.items c.put.new.rows.items
    (rows_of_name c.args.name c.args.replica.now) c.in-Some.ensures refl c.in_ok-put.ensures c.loop-entry.invariant

pub returns : goal.returns
returns g c =
    walked_all_rows c.loop-entry.walk c.loop-entry.rows.items (rows_of_name c.args.name c.args.replica.now) c.in_default.ensures c.loop-entry.invariant
