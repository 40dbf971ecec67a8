use Rattle.std.proofs.Common.{◌≡◌, ◌↔◌, drop, map}
use Rattle.bench_core.specs.Acts.{calls_of}
use Rattle.receipt_core.specs.Agree.{AreAllReceipts}
use Rattle.receipt_core.proofs.agreeing.are_all_receipts.Given as goal

abbrev pub invariant-loop-list : goal.invariant-loop-list
invariant-loop-list g l =
    (l.actor ≡ l.list-index)
    × (AreAllReceipts l.after l.start (calls_of l.lines) 0 (map (λ v. v.items) l.lists)
    ↔ AreAllReceipts l.after l.start (calls_of l.lines) l.actor (map (λ v. v.items) (drop l.list-index l.lists)))
