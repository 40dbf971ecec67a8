use Rattle.std.proofs.Common.{rules}
use Rattle.std.specs.FinSet as set
use Rattle.payload_core.proofs.SeenEntries.{seen-names}
use Rattle.store_core.proofs.delta_store.DeltaStore.extract.Goals as goal

pub new-requires : goal.new-requires
new-requires g c = (
  search rules,
  (
    search rules,
    rw (c.in_ok-seen.ensures, c.in_ok-entries.ensures) (seen-names (set.contains c.args.names) c.self.inside.seen c.self.inside.entries.map c.self.invariant.live),
  ),
)
