-- What the network could have made of a run: each node takes the same steps, deliveries apart, and the deliveries come
-- at other times, get lost or come again.
use Rattle.std.specs.Prelude.{◌≡◌, ℕ, ◌≤◌, ◌==◌, ◌&&◌, not, Bool, true, false, List, ◌++◌, filter, length}
use Rattle.node_core.specs.Operations.{Operation, Deliver}
use Rattle.journal_core.specs.Journals.{Kept}

-- whether a step is a delivery; an answer is none
abbrev pub is_delivery : Operation → Bool
is_delivery (Deliver sender number) = true
is_delivery _ = false

-- whether a step is one of this node other than a delivery: a run of the network keeps the order of these
abbrev pub is_ordered : ℕ → Kept → Bool
is_ordered n k = (k.node == n) && not (is_delivery k.step)

-- a node's steps other than deliveries, in their order
abbrev pub ordered : List Kept → ℕ → List Kept
ordered ks n = filter (is_ordered n) ks

-- the deliveries among these steps
abbrev pub deliveries : List Kept → List Kept
deliveries ks = filter (λ k. is_delivery k.step) ks

-- how many of the steps pass a test of the node and the operation
abbrev pub how_many : (ℕ → Operation → Bool) → List Kept → ℕ
how_many p ks = length (filter (λ k. p k.node k.step) ks)

-- whether a step of node n is a delivery, at `node`, of the sender's message of this number
abbrev pub is_of_kind : ℕ → ℕ → ℕ → ℕ → Operation → Bool
is_of_kind node sender number n (Deliver s i) = (n == node) && ((s == sender) && (i == number))
is_of_kind node sender number n _ = false

-- the lists have the same steps of the same nodes, each as often, in any order and with any numbers: as many of both
-- pass each test
abbrev pub HaveSame : List Kept → List Kept → Type 0
HaveSame ks js = (p : ℕ → Operation → Bool) → how_many p ks ≡ how_many p js

-- r is a run of the network, where j is the recorded run: each node takes its steps of j other than deliveries, in
-- their order, and its deliveries of j at any places; of all deliveries up to `lost` are missing, and up to `again`
-- come a second time. Whether r is possible is said apart, by `runs`: if it runs, no delivery comes before the send of
-- its message
pub record IsNetworkRun (j : List Kept) (lost again : ℕ) (r : List Kept) : Type 0 where
  pub own : (n : ℕ) → ordered r n ≡ ordered j n
  pub missing : List Kept
  pub repeated : List Kept
  pub once : List Kept
  pub few_missing : length missing ≤ lost
  pub few_repeated : length repeated ≤ again
  -- `repeated`, which come a second time, and `once`, which don't, are together the recorded deliveries
  pub of_these : HaveSame (repeated ++ once) (deliveries j)
  -- the run's deliveries and the missing ones are together the recorded ones and the repeated ones
  pub delivered : HaveSame (deliveries r ++ missing) (deliveries j ++ repeated)
