use Rattle.std.proofs.Common.{◌≡◌, ◌++◌, drop, filter}
use Rattle.store_core.specs.Stores.{store_of}
use Rattle.page_data.specs.Carried.{stands_so}
use Rattle.page_data.proofs.sent.put_standing.Given as goal

-- the clocks so far, and then those that are left
abbrev pub invariant-loop-clock : goal.invariant-loop-clock
invariant-loop-clock g l =
    l.numbers.items ++ filter (stands_so (store_of l.message) l.name l.wanted) (drop l.clock-index l.clocks) ≡ l.fn.numbers.items ++
    filter (stands_so (store_of l.message) l.name l.wanted) l.clocks
