use Rattle.std.proofs.Common.{◌≡◌, ◌++◌, take, drop, map}
use Rattle.receipt_core.specs.Agree.{named, places}
use Rattle.receipt_core.proofs.places.named_places.Given as goal

abbrev pub invariant-loop-list : goal.invariant-loop-list
invariant-loop-list g l = places (map (λ v. v.items) l.lists) ≡ l.all.items ++ places (map (λ v. v.items) (drop l.list-index l.lists))

abbrev pub invariant-loop-receipt : goal.invariant-loop-receipt
invariant-loop-receipt g l = l.all.items ≡ l.initial.all.items ++ map named (take l.receipt-index l.receipt-items)
