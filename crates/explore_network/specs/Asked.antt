-- The dots that a question is about.
use Rattle.std.specs.Prelude.{◌≡◌, ℕ, ◌<◌, if◌then◌else◌, List, [], ◌∷◌, ◌++◌, zero, suc, slice_get, Option, Some, None, Ok}
use Rattle.std.specs.List.{AllByRecursion}
use Rattle.dots_core.specs.declared.dot.Dot.{Dot}
use Rattle.dots_core.specs.Dots.{dot}
use Rattle.dots_core.specs.Names.{most_names}
use Rattle.replica_core.specs.declared.node_limits.NodeLimits.{NodeLimits}
use Rattle.replica_core.specs.Replicas.{fresh, last}
use Rattle.node_core.specs.Nodes.{Node}
use Rattle.journal_core.specs.Journals.{Kept}
use Rattle.bench_core.specs.Clusters.{Cluster}
use Rattle.bench_core.specs.Runs.{runs}
use Rattle.explore_network.specs.Explorations.{is_asked}
use Rattle.explore_network.specs.Plans.{Wants}
use Rattle.explore_network.specs.Questions.{Question}
use Rattle.network_rules.specs.Tables.{is_wanted}

-- the node's fresh dot; none if there is no node
abbrev pub fresh_of : Option Node → List Dot
fresh_of None = []
fresh_of (Some x) = fresh x.replica ∷ []

-- the dot of the entry that a step of this node makes, if the entry is of this topic and key; none if there is no node
abbrev pub asked_dots : List ℕ → List ℕ → Kept → Option Node → List Dot
asked_dots topic key k node = if is_asked topic key k.step then fresh_of node else []

-- the dots of a name with the clocks from 1 to this one
abbrev pub dots_up_to : ℕ → ℕ → List Dot
dots_up_to name zero = []
dots_up_to name (suc n) = dots_up_to name n ++ dot name (suc n) ∷ []

-- the own dots that a node has seen
abbrev pub own_of : Option Node → List Dot
own_of None = []
own_of (Some x) = dots_up_to (last x.replica).name (last x.replica).clock

-- the own dots that each of the first nodes has seen
unfoldable pub own_of_all : Cluster → ℕ → List Dot
own_of_all c zero = []
own_of_all c (suc n) = own_of_all c n ++ own_of (slice_get c n)

-- if the steps are accepted, all dots that the question is about are among these; and each of these has a name below 32
pub record AreAsked (l : NodeLimits) (count : ℕ) (steps : List Kept) (q : Question) (dots : List Dot) : Type 0 where
  pub names : AllByRecursion (λ (d : Dot). d.name < most_names) dots
  pub wants : (end : Cluster) → runs l count steps ≡ Ok end → Wants l steps count (is_wanted dots) q
