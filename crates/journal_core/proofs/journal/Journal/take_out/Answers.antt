use Rattle.std.proofs.Common.{map}
use Rattle.journal_core.specs.Holdings.{plain_room}
use Rattle.journal_core.proofs.Promises.{promised_keeps}
use Rattle.journal_core.proofs.journal.Journal.take_out.Goals as goal

pub invariant_of-self : goal.invariant_of-self
invariant_of-self g c = (
  c.take_out.ensures.indexed,
  promised_keeps c.self.inside.causes.items c.take_out.new.causes.items c.self.inside.slots.room c.take_out.new.slots.room
      (map plain_room c.self.inside.room.items) c.take_out.ensures.keeps c.take_out.ensures.more c.self.invariant.1,
)
