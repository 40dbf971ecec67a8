use Rattle.journal_core.proofs.Rooms.{is_found}
use Rattle.journal_core.proofs.room.Room.is_in.Goals as goal

pub returns : goal.returns
returns c = is_found c.args.self c.args.made.now c.contains.result c.contains.ensures.value
