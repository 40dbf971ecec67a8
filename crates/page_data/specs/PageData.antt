-- The data of a page: for each recorded call what it asked, what was answered, and what it changed, as JSON.
use Rattle.std.specs.Prelude.{◌≡◌, ℕ, ◌+◌, Bool, true, false, if◌then◌else◌, List, [], ◌∷◌, ◌++◌, length, codes, decimal, Option, Some, None}
use Rattle.std.specs.List.{flat_map}
use Rattle.bench_core.specs.declared.fault.Fault.{Fault}
use Rattle.bench_core.specs.declared.fault.Fault.TheVariants.{HasConsequence}
use Rattle.bench_core.specs.declared.reply.Reply.{Reply}
use Rattle.bench_core.specs.declared.reply.Reply.TheVariants.{Taken, Undone, Refused}
use Rattle.bench_core.specs.Acts.{Action, Do}
use Rattle.bench_core.specs.FaultText.{fault_text}
use Rattle.bench_core.specs.Laws.{presence_made}
use Rattle.bench_core.specs.Machine.{Event, Machine, opening_machine}
use Rattle.bench_core.specs.NameList.{Texts}
use Rattle.diff_core.specs.Diffs.{alone}
use Rattle.diff_core.specs.Rows.{Row}
use Rattle.grammar_core.specs.Casts.{Cast}
use Rattle.journal_core.specs.Journals.{last_of, source_of}
use Rattle.node_core.specs.Nodes.{Node}
use Rattle.node_core.specs.Operations.{Operation, Join, Leave, LeaveAll, Update, Broadcast, Deliver, sends}
use Rattle.payload_core.specs.Messages.{Message, numbered}
use Rattle.payload_core.specs.Presences.{Presence}
use Rattle.replica_core.specs.Replicas.{last}
use Rattle.report_core.specs.ActTexts.{after_act, reply_of}
use Rattle.report_core.specs.Shown.{node_of, node_of_step, rows_at, rows_of}
use Rattle.report_core.specs.StepDiffs.{TellsStep}
use Rattle.transcript_core.specs.Scripts.{call_line, cast_of}
use Rattle.page_data.specs.Asked.{node_if}
use Rattle.page_data.specs.Carried.{clocks_standing, hops_at, message_in, missed_at, names_in}
use Rattle.page_data.specs.Json.{comma_at, number_key, number_key_if, numbers_key, string_text, text_key}
use Rattle.page_data.specs.Seen.{changes_in, seen_in}
use Rattle.page_data.specs.declared.seen.Seen.{Seen}

-- rows of online lists

-- `NAME,CLOCK` for each
unfoldable pub row_dots : List Row → List ℕ
row_dots rows = flat_map (λ row. row.name ∷ row.clock ∷ []) rows

-- `NAME,CLOCK,STANDING` for each
unfoldable pub row_hops : ℕ → List Row → List ℕ
row_hops standing rows = flat_map (λ row. row.name ∷ row.clock ∷ standing ∷ []) rows

-- the rows that left the list, and those that joined it
unfoldable pub rows_keys : List Row → List Row → List ℕ
rows_keys left joined = numbers_key (codes "minus") (row_dots left) ++ numbers_key (codes "plus") (row_dots joined)

-- whether a step is a join, a leave, a leave all or an update
abbrev pub is_own : Operation → Bool
is_own (Join presence) = true
is_own (Leave pid topic key) = true
is_own (LeaveAll pid) = true
is_own (Update presence) = true
is_own _ = false

-- the hops of a join, a leave, a leave all or an update: the rows that left as gone, and those that joined as live; nothing for other steps
unfoldable pub own_keys : Operation → List Row → List Row → List ℕ
own_keys operation left joined = if is_own operation then numbers_key (codes "hops") (row_hops 2 left ++ row_hops 1 joined) else []

-- what a step reads

-- what a delivery of a message changes at the node, and what the message has of names that the node doesn't know
unfoldable pub delivery_keys : Option Node → Option Message → ℕ → List ℕ
delivery_keys node message count =
    numbers_key (codes "missed") (missed_at node message count) ++ numbers_key (codes "hops") (hops_at node message count)

abbrev pub arrival_keys : Machine → ℕ → Operation → List ℕ
arrival_keys m node (Deliver sender number) = delivery_keys (node_of m node) (message_in (node_of m sender) number) (length m.names)
arrival_keys m node _ = []

-- for a step of the node, before it is taken: the last remaining step of the node, the step that sent what it delivers, and, if it is a
-- delivery, `delivery_keys`
unfoldable pub reads_keys : Machine → ℕ → Operation → List ℕ
reads_keys m node operation =
    number_key_if (codes "prev") (last_of m.state.remaining node) ++ number_key_if (codes "from") (source_of m.state.remaining operation) ++
    arrival_keys m node operation

abbrev pub act_reads : Machine → ℕ → Action → List ℕ
act_reads m actor (Do operation) = reads_keys m actor operation
act_reads m actor _ = []

-- what a step sends and makes

-- for a broadcast, the clocks of the node's own dots in the message, those with an entry and those without; for another send, the names of
-- which the message has dots
abbrev pub carried_keys : Operation → Message → ℕ → ℕ → List ℕ
carried_keys Broadcast m node count =
    numbers_key (codes "live") (clocks_standing m node 1) ++ numbers_key (codes "gone") (clocks_standing m node 2)
carried_keys _ m node count = numbers_key (codes "of") (names_in m count)

abbrev pub message_keys : Operation → Option Message → ℕ → ℕ → List ℕ
message_keys operation None node count = []
message_keys operation (Some m) node count = carried_keys operation m node count

-- the number of the last message of the node, and what it carries
abbrev pub outbox_keys : Operation → Option Node → ℕ → ℕ → List ℕ
outbox_keys operation None node count = []
outbox_keys operation (Some n) node count =
    number_key (codes "sends") (length n.outbox) ++ message_keys operation (numbered n.outbox (length n.outbox)) node count

abbrev pub sent_keys : Machine → ℕ → Operation → List ℕ
sent_keys after node operation = if sends operation then outbox_keys operation (node_of after node) node (length after.names) else []

-- `,"made":[CLOCK,"PID"`
unfoldable pub made_head : ℕ → ℕ → List ℕ
made_head clock pid = codes ",\"made\":[" ++ decimal clock ++ codes ",\"" ++ decimal pid ++ codes "\""

-- `,"WORD"`
unfoldable pub word_text : List ℕ → List ℕ
word_text word = codes "," ++ string_text word

-- `,"made":[CLOCK,"PID","TOPIC","KEY","META"]`
unfoldable pub made_text : ℕ → Presence → List ℕ
made_text clock p = made_head clock p.pid ++ word_text p.topic ++ word_text p.key ++ word_text p.metadata ++ codes "]"

abbrev pub made_at : Option Node → Presence → List ℕ
made_at None p = []
made_at (Some node) p = made_text (last node.replica).clock p

abbrev pub made_keys : Machine → ℕ → Option Presence → List ℕ
made_keys after node None = []
made_keys after node (Some p) = made_at (node_of after node) p

-- for a step of the node, after it was taken: what it sent, the presence that it made, and `own_keys`; `left` and `joined` are the rows
-- that it took from the node's online list and gave it
unfoldable pub gives_keys : Machine → ℕ → Operation → List Row → List Row → List ℕ
gives_keys after node operation left joined =
    sent_keys after node operation ++ made_keys after node (presence_made operation) ++ own_keys operation left joined

abbrev pub act_gives : Machine → ℕ → Action → List Row → List Row → List ℕ
act_gives after actor (Do operation) left joined = gives_keys after actor operation left joined
act_gives after actor _ left joined = []

-- what a call changed

-- the rows that left and joined the online list of a node, and what changed in what the node has seen; `before` is what it had seen
unfoldable pub changed_text : List Row → List Row → List Seen → Option Node → ℕ → List ℕ
changed_text left joined before node count = rows_keys left joined ++ numbers_key (codes "dots") (changes_in before node count)

-- the head of a step of the node that was taken, with what the step read
unfoldable pub taken_head : ℕ → ℕ → List ℕ → List ℕ
taken_head node number reads = number_key (codes "step") number ++ number_key (codes "node") node ++ reads

-- a step of the node that was taken, and what it changed
unfoldable pub taken_text : Machine → ℕ → Action → ℕ → List ℕ → List Row → List Row → List Seen → List ℕ
taken_text after actor act number reads left joined before =
    taken_head actor number reads ++ act_gives after actor act left joined ++
    changed_text left joined before (node_of after actor) (length after.names)

-- the new text is the old one and the text of step `number`, which took some rows from its node's online list and gave it others
pub record Tells (after : Machine) (actor : ℕ) (act : Action) (number : ℕ) (reads : List ℕ) (before : List Seen) (old new : List ℕ) : Type 0 where
  pub left : List Row
  pub joined : List Row
  pub tells : TellsStep after number left joined
  pub text : new ≡ old ++ taken_text after actor act number reads left joined before

-- the text of a step that was taken, by the machines before and after it
unfoldable pub taken_keys : Machine → Machine → ℕ → Action → ℕ → List ℕ
taken_keys m after actor act number =
    taken_text after actor act number (act_reads m actor act) (alone (rows_at m actor) (rows_at after actor))
    (alone (rows_at after actor) (rows_at m actor)) (seen_in (node_of m actor) (length m.names))

abbrev pub undone_at : Machine → Option ℕ → List Row → List Row → List Seen → List ℕ
undone_at after None left joined before = []
undone_at after (Some node) left joined before =
    number_key (codes "node") node ++ changed_text left joined before (node_of after node) (length after.names)

-- a step of the node that was taken back, and what that changed
unfoldable pub undone_text : Machine → ℕ → Option ℕ → List Row → List Row → List Seen → List ℕ
undone_text after number node left joined before = number_key (codes "undoes") number ++ undone_at after node left joined before

-- the text of a step that was taken back, by the machines before and after it
abbrev pub undone_of : Machine → Machine → ℕ → Option ℕ → List ℕ
undone_of m after number node =
    undone_text after number node (alone (rows_of m node) (rows_of after node)) (alone (rows_of after node) (rows_of m node))
    (seen_in (node_if m node) (length m.names))

unfoldable pub undone_keys : Machine → Machine → ℕ → List ℕ
undone_keys m after number = undone_of m after number (node_of_step m.state.remaining number)

-- the step whose undo is refused and the one that holds it, if that is the fault; else nothing
abbrev pub held_keys : Fault → List ℕ
held_keys (HasConsequence step held_by) = numbers_key (codes "held") (step ∷ held_by ∷ [])
held_keys _ = []

-- why the call is refused
unfoldable pub refused_keys : Fault → List ℕ
refused_keys fault = text_key (codes "no") (fault_text fault) ++ held_keys fault

-- what a call with this reply changed, or why it was refused
abbrev pub outcome_keys : Machine → Machine → ℕ → Action → Reply → List ℕ
outcome_keys m after actor act (Taken number) = taken_keys m after actor act number
outcome_keys m after actor act (Undone number) = undone_keys m after number
outcome_keys m after actor act (Refused fault) = refused_keys fault

-- who asked, and the call as a line of a script
unfoldable pub asked_text : Cast → ℕ → Action → List ℕ
asked_text cast actor act = codes "{\"by\":" ++ decimal actor ++ text_key (codes "line") (call_line cast actor act)

unfoldable pub call_text : Cast → Machine → ℕ → Action → List ℕ
call_text cast m actor act =
    asked_text cast actor act ++ outcome_keys m (after_act m actor act) actor act (reply_of m actor act) ++ codes "}"

-- the calls from this place on, each asked of the machine that the calls before it led to
unfoldable pub calls_text : Cast → Machine → ℕ → List Event → List ℕ
calls_text cast m place [] = []
calls_text cast m place (e ∷ events) =
    comma_at place ++ call_text cast m e.actor e.act ++ calls_text cast (after_act m e.actor e.act) (place + 1) events

-- the texts from this place on, separated by commas
unfoldable pub texts_text : ℕ → Texts → List ℕ
texts_text place [] = []
texts_text place (text ∷ texts) = comma_at place ++ string_text text ++ texts_text (place + 1) texts

-- the beginning of the data: its version, and the names of the nodes
unfoldable pub nodes_text : Texts → List ℕ
nodes_text nodes = codes "{\"version\":1,\"nodes\":[" ++ texts_text 0 nodes ++ codes "]"

unfoldable pub consoles_text : Texts → List ℕ
consoles_text consoles = codes ",\"consoles\":[" ++ texts_text 0 consoles ++ codes "],\"calls\":["

-- the data up to the last call, with these names of the consoles
unfoldable pub run_text : Machine → Texts → List ℕ
run_text m consoles =
    nodes_text m.names ++ consoles_text consoles ++ calls_text (cast_of m consoles) (opening_machine m.names m.limits) 0 m.state.history

-- the whole data
unfoldable pub page_data : Machine → Texts → List ℕ
page_data m consoles = run_text m consoles ++ codes "]}"

-- the whole data, with further keys after the calls
unfoldable pub data_with : Machine → Texts → List ℕ → List ℕ
data_with m consoles keys = run_text m consoles ++ codes "]" ++ keys ++ codes "}"
