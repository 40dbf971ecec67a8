use Rattle.std.proofs.Common.{rules}
use Rattle.store_core.proofs.KeptStores.{end_in_delta, end_last, end_valid}
use Rattle.store_core.proofs.delta_store.DeltaStore.unjoin.Goals as goal

pub take_out-requires : goal.take_out-requires
take_out-requires g c = (
  search rules,
  (
    end_valid _ c.args.self.now c.self.view_is c.self.invariant c.last-last.result c.last-last.ensures c.requires.some,
    end_last _ c.args.self.now c.self.view_is c.self.invariant c.last-last.result c.last-last.ensures,
  ),
)

pub take_out-requires-2 : goal.take_out-requires-2
take_out-requires-2 g c = (
  search rules,
  (
    end_valid _ c.args.self.now c.self.view_is c.self.invariant c.last-last.result c.last-last.ensures c.requires.some,
    end_in_delta _ c.args.self.now c.self.view_is c.self.invariant c.last-last.result c.last-last.ensures,
  ),
)
