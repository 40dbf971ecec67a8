use Rattle.std.proofs.Common.{sym, subst}
use Rattle.payload_core.specs.TrackIndices.{Covers}
use Rattle.payload_core.proofs.Hashed.{covers_empty}
use Rattle.payload_core.proofs.entry_set.EntrySet.new.Goals as goal

pub invariant_of-result : goal.invariant_of-result
invariant_of-result g c = subst (Covers c.of_none.result) (sym c.new.ensures) (covers_empty c.of_none.result)
