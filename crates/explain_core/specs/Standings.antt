-- How a dot stands: at a node, and in a message.
use Rattle.std.specs.Prelude.{ℕ, Bool, true, false, length, Option, Some, None}
use Rattle.std.specs.FinMap as fin
use Rattle.std.specs.FinSet as set
use Rattle.dots_core.specs.declared.dot.Dot.{Dot}
use Rattle.dots_core.specs.Dots.{Dots}
use Rattle.payload_core.specs.Presences.{Entries, Presence}
use Rattle.payload_core.specs.Messages.{Message, numbered}
use Rattle.node_core.specs.Nodes.{Node}
use Rattle.bench_core.specs.Machine.{Machine}
use Rattle.report_core.specs.Shown.{node_of}
use Rattle.explain_core.specs.declared.standing.Standing.{Standing}
use Rattle.explain_core.specs.declared.standing.Standing.TheVariants.{Unseen, Live, Gone}

-- how a dot stands, by its entry and whether it was seen
abbrev pub standing_by : Option Presence → Bool → Standing
standing_by (Some presence) seen = Live
standing_by None true = Gone
standing_by None false = Unseen

-- how a dot stands among these dots and entries
abbrev pub standing_in : Dots → Entries → Dot → Standing
standing_in seen entries d = standing_by (fin.get entries d) (set.contains seen d)

abbrev pub standing_of : Option Node → Dot → Standing
standing_of None d = Unseen
standing_of (Some node) d = standing_in node.replica.store.seen node.replica.store.entries d

-- how a dot stands at a node, as the remaining steps give it
unfoldable pub standing_at : Machine → ℕ → Dot → Standing
standing_at m node d = standing_of (node_of m node) d

abbrev pub standing_told : Option Message → Dot → Standing
standing_told None d = Unseen
standing_told (Some message) d = standing_in message.seen message.entries d

abbrev pub outbox_of : Option Node → ℕ → Option Message
outbox_of None number = None
outbox_of (Some node) number = numbered node.outbox number

-- how a dot stands in a message of a node
unfoldable pub standing_sent : Machine → ℕ → ℕ → Dot → Standing
standing_sent m node number d = standing_told (outbox_of (node_of m node) number) d

abbrev pub last_in : Option Node → ℕ
last_in None = 0
last_in (Some node) = length node.outbox

-- the number of the last message of a node, 0 where it has none
unfoldable pub last_message : Machine → ℕ → ℕ
last_message m node = last_in (node_of m node)

-- whether a delivery puts the first standing in place of the other
abbrev pub is_above : Standing → Standing → Bool
is_above Live Unseen = true
is_above Gone Unseen = true
is_above Gone Live = true
is_above _ _ = false

abbrev pub is_same : Standing → Standing → Bool
is_same Unseen Unseen = true
is_same Live Live = true
is_same Gone Gone = true
is_same _ _ = false
