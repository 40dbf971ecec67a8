use Rattle.std.proofs.Common.{refl}
use Rattle.import_core.specs.Tables.{AllTables, all_of}
use Rattle.import_core.proofs.Numbers.{keeps_both}
use Rattle.import_core.proofs.Kept.{later_node}
use Rattle.std.proofs.Common.{[], ◌∷◌}
use Rattle.import_core.proofs.Sights.{values_more}
use Rattle.log_core.specs.Views.{row as shown_row}
use Rattle.import_core.specs.Sights.{tracked_words}
use Rattle.import_core.proofs.rows.row_for.Goals as goal

pub returns-clause-row : goal.returns-clause-row
returns-clause-row g c =
    let b : AllTables = all_of c.node.new.self in
    let d : AllTables = all_of c.presence_for.new.tables in
    let p = c.in_ok-p.ensures.presence in
    record {
      node = later_node b d c.presence_for.ensures.extends c.args.row.now.node.now c.in_ok-name.name c.in_ok-name.ensures.node;
      pid = p.pid;
      topic = p.topic;
      key = p.key;
      metadata = p.metadata;
      clock = refl;
    }

pub returns-clause-extends : goal.returns-clause-extends
returns-clause-extends g c =
    keeps_both (all_of c.args.tables.now) (all_of c.node.new.self) (all_of c.presence_for.new.tables) c.node.ensures.extends c.presence_for.ensures.extends

pub returns-clause-values : goal.returns-clause-values
returns-clause-values g c =
    let tracked = (shown_row c.args.row.now).tracked in
    values_more (all_of c.args.tables.now) (all_of c.node.new.self) (all_of c.presence_for.new.tables) [] [] (tracked.pid ∷ []) (tracked_words tracked)
    c.in_ok-name.ensures.values c.in_ok-p.ensures.values
