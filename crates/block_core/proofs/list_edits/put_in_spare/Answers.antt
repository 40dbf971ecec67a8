use Rattle.std.proofs.Common.{◌/◌}
use Rattle.block_core.proofs.LiveMaps.{few}
use Rattle.block_core.proofs.list_edits.put_in_spare.Goals as goal

pub move_to-list-requires : goal.move_to-list-requires
move_to-list-requires g c = few c.args.entry.dot.name (c.args.entry.dot.clock / 64) c.args.items.now c.requires.near c.requires.rises
