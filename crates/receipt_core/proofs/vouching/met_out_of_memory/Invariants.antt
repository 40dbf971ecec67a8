use Rattle.std.proofs.Common.{◌≡◌, drop, map}
use Rattle.receipt_core.specs.Races.{met_out_of_memory}
use Rattle.receipt_core.proofs.vouching.met_out_of_memory.Given as goal

abbrev pub invariant-loop-receipts : goal.invariant-loop-receipts
invariant-loop-receipts g l = met_out_of_memory (map (λ v. v.items) l.lists) ≡ met_out_of_memory (map (λ v. v.items) (drop l.receipts-index l.lists))
