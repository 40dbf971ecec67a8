-- Which dots matter, in each node's store and in each message; clusters that are alike in these dots; and what matters
-- before a step and after it.
use Rattle.std.specs.Prelude.{◌≡◌, ℕ, suc, ◌==◌, ◌&&◌, ◌||◌, Bool, true, false, List, [], ◌∷◌, length, slice_get, Option, Some, None, Ok}
use Rattle.std.specs.FinMap as fin
use Rattle.std.specs.FinSet as set
use Rattle.dots_core.specs.declared.dot.Dot.{Dot}
use Rattle.dots_core.specs.Names.{Names}
use Rattle.payload_core.specs.Messages.{Message, numbered}
use Rattle.store_core.specs.Stores.{Store, store_of}
use Rattle.replica_core.specs.Replicas.{Replica}
use Rattle.node_core.specs.Operations.{Operation, Extract, Deliver, Answer, Permdown}
use Rattle.node_core.specs.Nodes.{Node}
use Rattle.journal_core.specs.Journals.{Kept}
use Rattle.bench_core.specs.Clusters.{Cluster, message_at, step}

-- which dots matter: `at n` tells those in the store of node n, `of n i` those in message i of node n
pub record Cares : Type 0 where
  pub at : ℕ → Dot → Bool
  pub of : ℕ → ℕ → Dot → Bool

-- whether a dot matters in the store of a node, or is the node's own
abbrev pub is_compared : (Dot → Bool) → ℕ → Dot → Bool
is_compared at own d = at d || (d.name == own)

-- the stores agree at these dots: whether the dot is seen, and its entry if it has one
pub record StoreAlike (asked : Dot → Bool) (s t : Store) : Type 0 where
  pub seen : (q : Dot) → asked q ≡ true → set.contains t.seen q ≡ set.contains s.seen q
  pub entries : (q : Dot) → asked q ≡ true → fin.get t.entries q ≡ fin.get s.entries q

-- the messages have the same sender, ask for the same names, and agree at these dots
pub record MessageAlike (asked : Dot → Bool) (m k : Message) : Type 0 where
  pub sender : k.sender ≡ m.sender
  pub asks : k.asked ≡ m.asked
  pub store : StoreAlike asked (store_of m) (store_of k)

-- both are there and R holds of them, or neither is there
abbrev pub BothAre : {X : Type 0} → (X → X → Type 0) → Option X → Option X → Type 0
BothAre R None None = Unit {0}
BothAre R None (Some y) = ⊥
BothAre R (Some x) None = ⊥
BothAre R (Some x) (Some y) = R x y

-- two outboxes have messages at the same numbers, and two messages of one number are alike in the dots that matter in
-- them
abbrev pub SentAlike : (ℕ → Dot → Bool) → List Message → List Message → Type 0
SentAlike of xs ys = (i : ℕ) → BothAre (MessageAlike (of i)) (numbered xs i) (numbered ys i)

-- the replicas are the same, but for dots of the store that neither matter nor are the replica's own
pub record ReplicaAlike (at : Dot → Bool) (r s : Replica) : Type 0 where
  pub store : Store
  pub is : s ≡ record r { store = store }
  pub alike : StoreAlike (is_compared at r.own) r.store store

-- the nodes' replicas are alike, and so are the messages that they sent
pub record NodeAlike (at : Dot → Bool) (of : ℕ → Dot → Bool) (x y : Node) : Type 0 where
  pub replica : ReplicaAlike at x.replica y.replica
  pub long : length y.outbox ≡ length x.outbox
  pub sent : SentAlike of x.outbox y.outbox

-- the clusters have as many nodes, and each node is alike in both
pub record ClusterAlike (t : Cares) (c d : Cluster) : Type 0 where
  pub long : length d ≡ length c
  pub each : (n : ℕ) → BothAre (NodeAlike (t.at n) (t.of n)) (slice_get c n) (slice_get d n)

-- what matters before a step and after it

-- the names that a message asks for; `None` if there is no message, or it is no request
abbrev pub asked_of : Option Message → Option Names
asked_of None = None
asked_of (Some m) = m.asked

-- the names of which a step sends what its node has: those of an extract, or those that are asked for by the message
-- that an answer delivers; `None` if there are no such names
abbrev pub sends_of : Cluster → Operation → Option Names
sends_of c (Extract names) = Some names
sends_of c (Answer sender number) = asked_of (message_at c (Some (sender, number)))
sends_of c _ = None

-- whether a step is a permanently down of name n
abbrev pub forgets : Operation → ℕ → Bool
forgets (Permdown name) n = n == name
forgets _ n = false

-- what matters after step k (u) comes from what matters in cluster c before it (t)
pub record Narrows (c : Cluster) (k : Kept) (t u : Cares) : Type 0 where
  -- what matters in a store after the step mattered there before, unless the step forgets the dot's name there
  pub at : (n : ℕ) (d : Dot) → ((n == k.node) && forgets k.step d.name) ≡ false → u.at n d ≡ true → t.at n d ≡ true
  -- of a message that cluster c has, each dot that matters after the step mattered before it, too
  pub of : (n i : ℕ) (m : Message) → message_at c (Some (n, i)) ≡ Some m → (d : Dot) → u.of n i d ≡ true → t.of n i d ≡ true
  -- what matters to the node after a delivery mattered in the message
  pub read : (sender number : ℕ) → k.step ≡ Deliver sender number → (d : Dot) → u.at k.node d ≡ true → t.of sender number d ≡ true
  -- a dot that matters in the message of an extract or an answer, and has a name of which the step sends what its node
  -- has, mattered to the node before the step, or is the node's own
  pub sent : (x : Node) (names : Names) → slice_get c k.node ≡ Some x → sends_of c k.step ≡ Some names → (d : Dot) →
      u.of k.node (suc (length x.outbox)) d ≡ true → set.contains names d.name ≡ true → is_compared (t.at k.node) x.replica.own d ≡ true

-- from cluster c on, as long as the steps are accepted, what matters after each of them comes from what matters before
-- it; t tells what matters before the first step, and `end` what matters after the last
pub data Follows : Cluster → Cares → List Kept → Cares → Type 0 where
  Ends : (c : Cluster) (t : Cares) → Follows c t [] t
  Goes : (c : Cluster) (t : Cares) (k : Kept) (ks : List Kept) (u end : Cares) → Narrows c k t u →
      ((d : Cluster) → step c k.node k.step ≡ Ok d → Follows d u ks end) → Follows c t (k ∷ ks) end
