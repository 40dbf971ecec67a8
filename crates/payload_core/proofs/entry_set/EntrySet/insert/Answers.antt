use Rattle.std.proofs.Common.{sym, subst}
use Rattle.entry_core.specs.Presences.{presence_of}
use Rattle.payload_core.specs.TrackIndices.{Covers}
use Rattle.payload_core.proofs.Hashed.{covers_insert}
use Rattle.payload_core.proofs.entry_set.EntrySet.insert.Goals as goal

pub invariant_of-self : goal.invariant_of-self
invariant_of-self g c = record { held = λ d p at. c.make_room.ensures.stays _ _ _ (c.self.invariant.held d p at) }

pub invariant_of-self-in-Ok : goal.invariant_of-self-in-Ok
invariant_of-self-in-Ok g c =
    subst (Covers c.add.new.self) (sym c.in-Ok.ensures.map)
    (covers_insert c.self.inside.by_hash c.add.new.self c.self.inside.by_dot.map c.args.entry.dot (presence_of c.args.entry)
    (λ n m d h. c.add.ensures.stays n m d (c.make_room.ensures.stays n m d h)) c.add.ensures.added c.self.invariant)
