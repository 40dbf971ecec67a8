-- Own dots that a replica has seen, such as those whose entries leave.
use Rattle.std.specs.Prelude.{◌≡◌, true, List}
use Rattle.std.specs.FinSet as set
use Rattle.std.specs.List.{AllByRecursion}
use Rattle.dots_core.specs.declared.dot.Dot.{Dot}
use Rattle.replica_core.specs.Replicas.{Replica}

-- each of these dots is an own one that was seen
abbrev pub AreOwnSeen : List Dot → Replica → Type 0
AreOwnSeen ds r = AllByRecursion (λ (d : Dot). (d.name ≡ r.own) × (set.contains r.store.seen d ≡ true)) ds
