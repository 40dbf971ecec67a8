-- What a node has sent: its messages by number, the step that sent each, and the rows of its entries.
use Rattle.std.specs.Prelude.{ℕ, ◌+◌, List, [], ◌∷◌, ◌++◌, length, map, codes, decimal, Option, Some, None}
use Rattle.std.specs.FinMap as fin
use Rattle.payload_core.specs.Presences.{Entries}
use Rattle.payload_core.specs.Messages.{Message}
use Rattle.node_core.specs.Nodes.{Node}
use Rattle.journal_core.specs.Journals.{Kept, sent_by}
use Rattle.bench_core.specs.Machine.{Machine}
use Rattle.bench_core.specs.NameList.{Texts}
use Rattle.diff_core.specs.Rows.{Row, row_of}
use Rattle.report_core.specs.Rows.{name_at, row_lines}
use Rattle.report_core.specs.Shown.{node_of}
use Rattle.report_core.specs.StepText.{act_line}

-- the rows of entries, by rising dot
abbrev pub rows_of : Entries → List Row
rows_of entries = map row_of (fin.entries entries)

-- `message NUMBER by STEP NODE VERB ..`
unfoldable pub message_line : Texts → ℕ → Kept → List ℕ
message_line names number k =
    codes "message " ++ decimal number ++ codes " by " ++ decimal k.number ++ codes " " ++ act_line names k.node k.step ++ codes "\n"

-- a message line, and the rows that the message holds
abbrev pub message_text : Texts → ℕ → Kept → Message → List ℕ
message_text names number k message = message_line names number k ++ row_lines (codes "= ") names (rows_of message.entries)

-- messages from this number on, and the steps that sent them, in order
unfoldable pub messages_text : Texts → ℕ → List Message → List Kept → List ℕ
messages_text names number [] ks = []
messages_text names number (message ∷ messages) [] = []
messages_text names number (message ∷ messages) (k ∷ ks) = message_text names number k message ++ messages_text names (number + 1) messages ks

-- the messages of a node
abbrev pub messages_in : Option Node → List Message
messages_in None = []
messages_in (Some node) = node.outbox

-- `sent NODE COUNT`
unfoldable pub sent_line : Texts → ℕ → ℕ → List ℕ
sent_line names node count = codes "sent " ++ name_at names node ++ codes " " ++ decimal count ++ codes "\n"

-- all that a node has sent
unfoldable pub sent_text : Machine → ℕ → List ℕ
sent_text m node =
    sent_line m.names node (length (messages_in (node_of m node)))
    ++ messages_text m.names 1 (messages_in (node_of m node)) (sent_by m.state.remaining node)
