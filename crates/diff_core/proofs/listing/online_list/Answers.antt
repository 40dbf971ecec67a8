use Rattle.std.proofs.Common.{◌++◌, map, filter, ap, ◌∙◌}
use Rattle.std.specs.FinMap as fin
use Rattle.payload_core.specs.Presences.{Entry, Entries}
use Rattle.replica_core.specs.Replicas.{is_online}
use Rattle.diff_core.specs.Rows.{row_of}
use Rattle.diff_core.specs.Online.{is_shown, shown}
use Rattle.diff_core.proofs.Listed.{listed, rows_ahead, rows_walked, walked_all}
use Rattle.diff_core.proofs.Sorting.{online_holds}
use Rattle.diff_core.proofs.listing.online_list.Goals as goal

pub loop-entry-init : goal.loop-entry-init
loop-entry-init g c =
    let test = λ (e : Entry). is_online c.args.replica.now e.dot.name in
    ap (λ rs. rs ++ rows_ahead test c.walk-walk.result) c.new-rows.ensures.items
    ∙ ap (rows_ahead test) c.walk-walk.ensures
    ∙ rows_walked (is_shown c.args.replica.now) (fin.entries c.entries.result.now.map)
    ∙ ap (λ (es : Entries). map row_of (filter (is_shown c.args.replica.now) (fin.entries es))) c.entries.ensures

is_listed : goal.returns-clause-rows
is_listed g c =
    listed c.args.replica.now c.loop-entry.rows.items c.sort_unstable.new.self.items
    (walked_all (λ (e : Entry). is_online c.args.replica.now e.dot.name) c.loop-entry.walk c.loop-entry.rows.items (shown c.args.replica.now)
    c.in_default.ensures c.loop-entry.invariant)
    c.sort_unstable.ensures.permutation c.sort_unstable.ensures.sorted

pub returns-clause-rows : goal.returns-clause-rows
returns-clause-rows g c = is_listed g c

pub returns-clause-value : goal.returns-clause-value
returns-clause-value g c = (online_holds c.args.replica.now c.sort_unstable.new.self.items).0 (is_listed g c)
