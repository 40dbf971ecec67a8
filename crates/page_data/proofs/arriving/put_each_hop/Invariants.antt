use Rattle.std.proofs.Common.{◌≡◌, ◌++◌, flat_map, drop}
use Rattle.store_core.specs.Stores.{store_of}
use Rattle.page_data.specs.Carried.{hop}
use Rattle.page_data.proofs.arriving.put_each_hop.Given as goal

-- the clocks so far, and then those that are left
abbrev pub invariant-loop-clock : goal.invariant-loop-clock
invariant-loop-clock g l =
    l.numbers.items ++ flat_map (hop l.replica.store (store_of l.message) l.name) (drop l.clock-index l.clocks) ≡ l.fn.numbers.items ++
    flat_map (hop l.replica.store (store_of l.message) l.name) l.clocks
