use Rattle.std.proofs.Common.{sym, subst}
use Rattle.payload_core.specs.Hashes.{hash_of}
use Rattle.entry_core.specs.Presences.{Entry, presence_of}
use Rattle.payload_core.specs.TrackIndices.{Covers, Holds, holder_of}
use Rattle.payload_core.proofs.Hashed.{covers_insert}
use Rattle.payload_core.proofs.entry_set.EntrySet.put_ready.Goals as goal

pub invariant_of-self : goal.invariant_of-self
invariant_of-self g c =
    let added =
    subst (λ (e : Entry). Holds (holder_of c.add.new.self e.dot.name (hash_of e.pid e.topic e.key)) e.dot) c.entry.ensures c.add.ensures.added in
    subst (Covers c.add.new.self) (sym c.put_ready.ensures.map)
    (covers_insert c.self.inside.by_hash c.add.new.self c.self.inside.by_dot.map c.args.entry.dot (presence_of c.args.entry)
    c.add.ensures.stays added c.self.invariant)
