-- The key of a state, which decides what can follow the state: how often each turn came, and how the dots that matter
-- stand, at nodes and in messages.
use Rattle.std.specs.Prelude.{ℕ, zero, suc, ◌==◌, ◌&&◌, not, nat_lt, Bool, true, false, if◌then◌else◌, List, [], ◌∷◌, ◌++◌, length, map, slice_get, Option, Some, None}
use Rattle.std.specs.FinSet as set
use Rattle.dots_core.specs.declared.dot.Dot.{Dot}
use Rattle.dots_core.specs.Names.{Names}
use Rattle.payload_core.specs.Messages.{Message}
use Rattle.store_core.specs.Stores.{standing, store_of}
use Rattle.node_core.specs.Operations.{Operation, Extract, Answer}
use Rattle.node_core.specs.Nodes.{Node}
use Rattle.journal_core.specs.Journals.{Kept}
use Rattle.bench_core.specs.Clusters.{Cluster, message_at}
use Rattle.network_rules.specs.declared.turn.Rank.{Rank}
use Rattle.network_rules.specs.Tables.{carried, matter, Tables}
use Rattle.network_rules.specs.Turns.{count_at}

-- what a key asks: how a dot stands at node n, or in message i of node n
pub data Query : Type 0 where
  AtNode : (n : ℕ) (d : Dot) → Query
  InMessage : (n i : ℕ) (d : Dot) → Query

-- how a dot stands at a node or in a message; 3 if the node or the message isn't there
abbrev pub at_node : Option Node → Dot → ℕ
at_node None d = 3
at_node (Some x) d = standing x.replica.store d

abbrev pub in_message : Option Message → Dot → ℕ
in_message None d = 3
in_message (Some m) d = standing (store_of m) d

-- how the dot of a query stands in a cluster
abbrev pub standing_of : Cluster → Query → ℕ
standing_of c (AtNode n d) = at_node (slice_get c n) d
standing_of c (InMessage n i d) = in_message (message_at c (Some (n, i))) d

abbrev pub standings_of : Cluster → List Query → List ℕ
standings_of c qs = map (standing_of c) qs

-- asks how a dot stands at node n, if its name is among these and isn't n
abbrev pub node_query : ℕ → Names → Option Dot → List Query
node_query n names None = []
node_query n names (Some d) = if not (d.name == n) && set.contains names d.name then AtNode n d ∷ [] else []

-- the same for each of the first dots
abbrev pub node_queries : List Dot → ℕ → Names → ℕ → List Query
node_queries dots n names zero = []
node_queries dots n names (suc i) = node_queries dots n names i ++ node_query n names (slice_get dots i)

-- asks how a dot stands in a message of node n, if the dot's name is among these
abbrev pub message_query : ℕ → ℕ → Names → Option Dot → List Query
message_query n number names None = []
message_query n number names (Some d) = if set.contains names d.name then InMessage n number d ∷ [] else []

abbrev pub message_queries : List Dot → ℕ → ℕ → Names → ℕ → List Query
message_queries dots n number names zero = []
message_queries dots n number names (suc i) = message_queries dots n number names i ++ message_query n number names (slice_get dots i)

-- asks at each of the first nodes how the dots of other nodes stand that matter there
unfoldable pub queries_at_nodes : Tables → List ℕ → ℕ → List Query
queries_at_nodes t cs zero = []
queries_at_nodes t cs (suc n) = queries_at_nodes t cs n ++ node_queries t.dots n (matter t n (count_at cs n)) (length t.dots)

-- whether a step sends dots that its node has seen, whoever took them: an extract or an answer
abbrev pub sends_held : Operation → Bool
sends_held (Extract names) = true
sends_held (Answer sender number) = true
sends_held _ = false

-- asks how the dots that matter in the message of a step stand in that message, if the step has come and is an extract
-- or an answer
abbrev pub sent_queries : Tables → List ℕ → Option Kept → Option Rank → List Query
sent_queries t cs None x = []
sent_queries t cs (Some k) None = []
sent_queries t cs (Some k) (Some x) =
    if sends_held k.step && nat_lt x.before (count_at cs k.node) then message_queries t.dots k.node x.number (carried t k.node x.number) (length t.dots) else []

-- the same for each of the first steps
unfoldable pub queries_of_messages : Tables → List Kept → List Rank → List ℕ → ℕ → List Query
queries_of_messages t steps ranks cs zero = []
queries_of_messages t steps ranks cs (suc p) = queries_of_messages t steps ranks cs p ++ sent_queries t cs (slice_get steps p) (slice_get ranks p)

-- all that the key asks: at `count` nodes, and in the messages of these steps
abbrev pub queries : Tables → ℕ → List Kept → List Rank → List ℕ → List Query
queries t count steps ranks cs = queries_at_nodes t cs count ++ queries_of_messages t steps ranks cs (length steps)

-- the key of a state: how many steps of each turn came, and how the dots stand that are asked for
abbrev pub key_of : Tables → ℕ → List Kept → List Rank → List ℕ → Cluster → List ℕ
key_of t count steps ranks cs c = cs ++ standings_of c (queries t count steps ranks cs)
