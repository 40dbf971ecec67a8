-- The laws of inverses (Danos and Krivine: a step back is determined by what is kept of the step).
use Rattle.std.specs.Prelude.{◌≡◌, None, Some}
use Rattle.node_core.specs.Nodes.{Node}
use Rattle.replica_core.specs.Changes.{Change, ChangeLeadsBack}
use Rattle.node_core.specs.Inverses.{Inverse, LeadsBack, change_of}

-- from one node, one inverse leads back to at most one node
abbrev pub OneWayBackLaw : Type 0
OneWayBackLaw = (inverse : Inverse) (now one other : Node) → LeadsBack inverse now one → LeadsBack inverse now other → one ≡ other

-- if an inverse leads back to a node, its change leads back to that node's replica; if it has no change, the two nodes have the same
-- entries and the same view
pub record ChangeOfLaw : Type 0 where
  pub some : (inverse : Inverse) (change : Change) (now earlier : Node) → LeadsBack inverse now earlier → change_of inverse ≡ Some change →
      ChangeLeadsBack change now.replica earlier.replica
  pub none : (inverse : Inverse) (now earlier : Node) → LeadsBack inverse now earlier → change_of inverse ≡ None →
      (earlier.replica.store.entries ≡ now.replica.store.entries) × (earlier.replica.view ≡ now.replica.view)
