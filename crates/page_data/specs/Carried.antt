-- What a message carries, and what a delivery of it changes at a node, as numbers.
use Rattle.std.specs.Prelude.{ℕ, zero, suc, ◌==◌, ◌&&◌, ◌||◌, nat_lt, Bool, true, false, if◌then◌else◌, List, [], ◌∷◌, ◌++◌, length, filter, Option, None, Some}
use Rattle.std.specs.List.{flat_map}
use Rattle.dots_core.specs.Absorbed.{numbers}
use Rattle.dots_core.specs.Dots.{Dots, dot}
use Rattle.node_core.specs.Nodes.{Node}
use Rattle.payload_core.specs.Messages.{Message, numbered}
use Rattle.store_core.specs.Stores.{Store, standing, store_of}
use Rattle.replica_core.specs.Replicas.{Replica, is_known}
use Rattle.replica_core.specs.Deliveries.{is_other_known}
use Rattle.report_core.specs.Dots.{clock_of, cloud_of}

-- the clocks of a name's dots: those up to its context clock, and its cloud
unfoldable pub clocks_of : Dots → ℕ → List ℕ
clocks_of seen name = numbers 1 (clock_of seen name) ++ cloud_of seen name

-- how many clocks the cloud has
unfoldable pub more_of : Dots → ℕ → ℕ
more_of seen name = length (cloud_of seen name)

-- whether the name's dot of this clock stands as `wanted`: 1 with its entry, 2 without it
abbrev pub stands_so : Store → ℕ → ℕ → ℕ → Bool
stands_so s name wanted clock = standing s (dot name clock) == wanted

abbrev pub clock_if : Bool → ℕ → List ℕ
clock_if true clock = clock ∷ []
clock_if false clock = []

-- the clocks of the name's dots in a message that stand as `wanted`
unfoldable pub clocks_standing : Message → ℕ → ℕ → List ℕ
clocks_standing m name wanted = filter (stands_so (store_of m) name wanted) (clocks_of m.seen name)

abbrev pub name_if_any : ℕ → ℕ → ℕ → List ℕ
name_if_any name clock more = if (clock == 0) && (more == 0) then [] else name ∷ []

-- those of the first names of which the message has dots
unfoldable pub names_in : Message → ℕ → List ℕ
names_in m zero = []
names_in m (suc name) = names_in m name ++ name_if_any name (clock_of m.seen name) (more_of m.seen name)

abbrev pub hop_by : ℕ → ℕ → ℕ → ℕ → List ℕ
hop_by name clock here coming = if nat_lt here coming then name ∷ clock ∷ coming ∷ [] else []

-- `NAME,CLOCK,STANDING` for a dot that stands higher in `coming` than in `here`, with its standing in `coming`; else nothing
abbrev pub hop : Store → Store → ℕ → ℕ → List ℕ
hop here coming name clock = hop_by name clock (standing here (dot name clock)) (standing coming (dot name clock))

-- `NAME,CLOCK,STANDING` for each dot that the message has of the name and that stands higher there than here
unfoldable pub hops_of : Store → Message → ℕ → List ℕ
hops_of here m name = flat_map (hop here (store_of m) name) (clocks_of m.seen name)

abbrev pub hops_if : Bool → Store → Message → ℕ → List ℕ
hops_if kept here m name = if kept then hops_of here m name else []

-- `hops_of` for each of the first names that isn't the node's own and that the node knows
unfoldable pub hops_to : Replica → Message → ℕ → List ℕ
hops_to r m zero = []
hops_to r m (suc name) = hops_to r m name ++ hops_if (is_other_known r name) r.store m name

abbrev pub missed_if : Bool → ℕ → ℕ → ℕ → List ℕ
missed_if known name clock more = if known || ((clock == 0) && (more == 0)) then [] else name ∷ clock ∷ more ∷ []

-- `NAME,CLOCK,MORE` for each of the first names that the node doesn't know and of which the message has dots: the name's context clock
-- there, and how many clocks its cloud has
unfoldable pub missed_by : Replica → Message → ℕ → List ℕ
missed_by r m zero = []
missed_by r m (suc name) = missed_by r m name ++ missed_if (is_known r name) name (clock_of m.seen name) (more_of m.seen name)

-- what `hops_to` and `missed_by` give for a message at a node; nothing if the node or the message is missing

abbrev pub message_in : Option Node → ℕ → Option Message
message_in None number = None
message_in (Some node) number = numbered node.outbox number

abbrev pub hops_at : Option Node → Option Message → ℕ → List ℕ
hops_at None o count = []
hops_at (Some node) None count = []
hops_at (Some node) (Some m) count = hops_to node.replica m count

abbrev pub missed_at : Option Node → Option Message → ℕ → List ℕ
missed_at None o count = []
missed_at (Some node) None count = []
missed_at (Some node) (Some m) count = missed_by node.replica m count
