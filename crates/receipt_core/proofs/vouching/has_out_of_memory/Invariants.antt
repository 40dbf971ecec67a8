use Rattle.std.proofs.Common.{◌≡◌, drop}
use Rattle.std.specs.List.{list_any}
use Rattle.receipt_core.specs.Races.{is_out_of_memory}
use Rattle.receipt_core.proofs.vouching.has_out_of_memory.Given as goal

abbrev pub invariant-loop-receipt : goal.invariant-loop-receipt
invariant-loop-receipt g l = list_any (λ r. is_out_of_memory r.reply) l.receipts ≡ list_any (λ r. is_out_of_memory r.reply) (drop l.receipt-index l.receipts)
