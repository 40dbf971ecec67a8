-- What each node keeps, whatever steps it took and took back.
use Rattle.std.specs.Prelude.{◌≡◌, ℕ, ◌≤◌, List, length}
use Rattle.std.specs.List.{AllByRecursion}
use Rattle.dots_core.specs.Dots.{AreValid}
use Rattle.payload_core.specs.Messages.{Message, AreSeen}
use Rattle.replica_core.specs.Invariant.{IsReplica}
use Rattle.node_core.specs.Nodes.{Node}

-- the message is this sender's, of valid dots, and its entries' dots are among them
pub record IsMessageOf (sender : ℕ) (m : Message) : Type 0 where
  pub from : m.sender ≡ sender
  pub valid : AreValid m.seen
  pub live : AreSeen m.seen m.entries

abbrev pub AreMessagesOf : ℕ → List Message → Type 0
AreMessagesOf sender ms = AllByRecursion (IsMessageOf sender) ms

pub record IsNode (n : Node) : Type 0 where
  pub replica : IsReplica n.replica
  pub few : length n.outbox ≤ n.replica.limits.messages
  pub messages : AreMessagesOf n.replica.own n.outbox
