-- The laws of runs (Danos and Krivine: the loop, and the undo of a step whose consequences are gone).
use Rattle.std.specs.Prelude.{◌≡◌, ◌≢◌, ◌↔◌, ℕ, List, [], ◌∷◌, ◌++◌, Option, Some, None, Result, Ok, Err, slice_get, slice_set}
use Rattle.std.specs.Option.{option_map, unwrap_or}
use Rattle.std.specs.FinMap as fin
use Rattle.dots_core.specs.declared.dot.Dot.{Dot}
use Rattle.payload_core.specs.Presences.{Presence}
use Rattle.payload_core.specs.Messages.{Message, numbered}
use Rattle.node_core.specs.declared.step_fault.StepFault.{StepFault}
use Rattle.replica_core.specs.declared.node_limits.NodeLimits.{NodeLimits}
use Rattle.node_core.specs.Operations.{Operation, Join, Update, Deliver}
use Rattle.node_core.specs.Nodes.{Node, opening_node, take}
use Rattle.bench_core.specs.declared.fault.Fault.TheVariants.{EntriesFull}
use Rattle.bench_core.specs.Clusters.{Cluster, opening_of, message_for, step}
use Rattle.journal_core.specs.Journals.{Kept, NumbersRise, own_steps, find_number, first_consequence, without, steps_before}
use Rattle.bench_core.specs.Runs.{runs}
use Rattle.journal_core.specs.Holdings.{Held, kepts}
use Rattle.bench_core.specs.Chains.{Chain, OwnChains}
use Rattle.bench_core.specs.Swaps.{AreEquivalent, all_swapped, unnumbered}

-- the journal with one more step at its end
abbrev pub added : List Kept → ℕ → ℕ → Operation → List Kept
added ks number node s = ks ++ record { number = number; node = node; step = s } ∷ []

-- a step at the end has no direct consequence, and taking it out gives the journal before
abbrev pub LoopLaw : Type 0
LoopLaw = (l : NodeLimits) (count number node : ℕ) (ks : List Kept) (s : Operation) (c d : Cluster) →
    NumbersRise 0 (added ks number node s) → runs l count ks ≡ Ok c → step c node s ≡ Ok d →
    record {
      held : first_consequence (added ks number node s) number ≡ None;
      out : without (added ks number node s) number ≡ ks;
    }

-- one node taken through its own steps; each delivery gets its message from this one cluster
abbrev pub own_run : Cluster → Result Node StepFault → List Kept → Result Node StepFault
own_run c (Err e) ks = Err e
own_run c (Ok node) [] = Ok node
own_run c (Ok node) (k ∷ ks) = own_run c (take node k.step (message_for c k.step)) ks

-- at each moment of a run, a node is what its own run has made of it by then
abbrev pub OwnRunLaw : Type 0
OwnRunLaw = (l : NodeLimits) (count n : ℕ) (first rest : List Kept) (old c : Cluster) (node : Node) →
    runs l count (first ++ rest) ≡ Ok c → runs l count first ≡ Ok old → slice_get old n ≡ Some node →
    own_run c (Ok (opening_node n l)) (own_steps first n) ≡ Ok node

-- the cluster with node n as `old` has it, if `old` has it
abbrev pub with_node_of : ℕ → Cluster → Cluster → Cluster
with_node_of n old c = unwrap_or (option_map (slice_set c n) (slice_get old n)) c

-- a step without consequences can be left out. Only its node changes, to what it was just before the step
abbrev pub MiddleLaw : Type 0
MiddleLaw = (l : NodeLimits) (count n : ℕ) (ks : List Kept) (k : Kept) (c : Cluster) →
    NumbersRise 0 ks → runs l count ks ≡ Ok c → find_number ks n ≡ Some k → first_consequence ks n ≡ None →
    (old : Cluster) × (runs l count (steps_before ks n) ≡ Ok old) × (runs l count (without ks n) ≡ Ok (with_node_of k.node old c))

-- if the inverses lead back along the run, each node's inverses, newest first, lead from its present state, through those that it
-- had in the run, back to its opening
abbrev pub ChainLaw : Type 0
ChainLaw =
    (l : NodeLimits) (count : ℕ) (hs : List Held) (c : Cluster) → Chain (Ok (opening_of l count)) hs → runs l count (kepts hs) ≡ Ok c →
    OwnChains l count c hs

-- of two equivalent journals either both run, to the same cluster, or neither does
abbrev pub SwapLaw : Type 0
SwapLaw = (l : NodeLimits) (count : ℕ) (ks js : List Kept) → AreEquivalent ks js → (c : Cluster) → (runs l count ks ≡ Ok c) ↔ (runs l count js ≡ Ok c)

-- swaps by place lead to an equivalent journal
abbrev pub PlacesLaw : Type 0
PlacesLaw = (ks js other : List Kept) (places : List ℕ) → all_swapped ks places ≡ Ok js → unnumbered js ≡ unnumbered other → AreEquivalent ks other

-- the presence that a join or an update tracks; other steps have none
abbrev pub presence_made : Operation → Option Presence
presence_made (Join presence) = Some presence
presence_made (Update presence) = Some presence
presence_made _ = None

-- an entry with this dot and presence stands in the cluster: at a node, in a node's delta, or in a message that a node sent
pub data Stands (c : Cluster) (d : Dot) (p : Presence) : Type 0 where
  AtNode : (n : ℕ) (node : Node) → slice_get c n ≡ Some node → fin.get node.replica.store.entries d ≡ Some p → Stands c d p
  InDelta : (n : ℕ) (node : Node) → slice_get c n ≡ Some node → fin.get node.replica.delta.entries d ≡ Some p → Stands c d p
  IsSent : (n number : ℕ) (node : Node) (m : Message) → slice_get c n ≡ Some node → numbered node.outbox number ≡ Some m →
      fin.get m.entries d ≡ Some p → Stands c d p

-- in what a journal gives, entries of one dot are equal, wherever they stand
abbrev pub OneEntryLaw : Type 0
OneEntryLaw =
    (l : NodeLimits) (count : ℕ) (ks : List Kept) (c : Cluster) (d : Dot) (p q : Presence) → runs l count ks ≡ Ok c → Stands c d p → Stands c d q → p ≡ q

-- a delivery at this node of a message of the sender
abbrev pub delivery : ℕ → ℕ → ℕ → ℕ → Kept
delivery number node sender message = record { number = number; node = node; step = Deliver sender message }

-- two adjacent deliveries at one node may be exchanged if neither order meets `EntriesFull`
abbrev pub ExchangeLaw : Type 0
ExchangeLaw =
    (l : NodeLimits) (count node : ℕ) (first rest : List Kept) (i j sender message other second : ℕ) →
    runs l count (first ++ delivery i node sender message ∷ delivery j node other second ∷ []) ≢ Err EntriesFull →
    runs l count (first ++ delivery j node other second ∷ delivery i node sender message ∷ []) ≢ Err EntriesFull → (c : Cluster) →
    (runs l count (first ++ delivery i node sender message ∷ delivery j node other second ∷ rest) ≡ Ok c) ↔
    (runs l count (first ++ delivery j node other second ∷ delivery i node sender message ∷ rest) ≡ Ok c)

-- a delivery repeated at once is accepted, and changes nothing
abbrev pub RepeatLaw : Type 0
RepeatLaw = (c d : Cluster) (node sender message : ℕ) → step c node (Deliver sender message) ≡ Ok d → step d node (Deliver sender message) ≡ Ok d
