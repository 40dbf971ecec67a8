-- A script, or its first fault: the lines in order, each by its checks in turn.
use Rattle.std.specs.Prelude.{ℕ, ◌+◌, Bool, true, false, List, [], ◌∷◌, ◌++◌, length, map, not, nat_lt, ◌==◌, ◌&&◌, ◌||◌, Option, Some, None, is_some}
use Rattle.std.specs.Prelude.{Result, Ok, Err, slice_index, codes, if◌then◌else◌}
use Rattle.std.specs.List.{list_any}
use Rattle.std.specs.Str.{bytes_eq}
use Rattle.std.specs.FinSet as set
use Rattle.dots_core.specs.Names.{most_names, Names}
use Rattle.payload_core.specs.Words.{longest_word}
use Rattle.payload_core.specs.Results.{◌>>=◌}
use Rattle.payload_core.specs.Presences.{Presence}
use Rattle.node_core.specs.Operations.{Operation, Join, Leave, LeaveAll, Update, Broadcast, Extract, Deliver, Request, Answer, Up, Down, Permdown}
use Rattle.bench_core.specs.declared.names_fault.NamesFault.{NamesFault}
use Rattle.bench_core.specs.declared.names_fault.NamesFault.TheVariants as names_faults
use Rattle.bench_core.specs.NameText.{is_name}
use Rattle.bench_core.specs.NameList.{Texts, names_of, number_in}
use Rattle.bench_core.specs.Acts.{Action, Do, Undo, Back}
use Rattle.grammar_core.specs.Words.{lines_of, words_of, is_text, number_of}
use Rattle.grammar_core.specs.Casts.{most_consoles, Cast, actor_in}
use Rattle.grammar_core.specs.Scripts.{Command, Call, Unwind, Show, Dots, Why, Journal, Line, Script}
use Rattle.grammar_core.specs.declared.fault.FaultKind.{FaultKind}
use Rattle.grammar_core.specs.declared.fault.FaultKind.TheVariants.{NotText, TooLong, NoNodes, Twice, UnknownWord, WrongCount, NotAllowed, BadNumber}
use Rattle.grammar_core.specs.declared.fault.FaultKind.TheVariants.{BadName, OutOfMemory}
use Rattle.grammar_core.specs.declared.fault.ScriptFault.{ScriptFault}
use Rattle.grammar_core.specs.declared.keyword.Keyword.{Keyword}
use Rattle.grammar_core.specs.declared.keyword.Keyword.TheVariants as keywords
use Rattle.grammar_core.specs.declared.keyword.Verb.{Verb}
use Rattle.grammar_core.specs.declared.keyword.Verb.TheVariants as verbs

-- words with a meaning of their own

-- the keyword that a word is, if it is one: keywords begin lines, and are no names of actors
unfoldable pub keyword_of : List ℕ → Option Keyword
keyword_of word =
    if bytes_eq word (codes "nodes") then Some keywords.Nodes
    else (if bytes_eq word (codes "consoles") then Some keywords.Consoles
    else (if bytes_eq word (codes "show") then Some keywords.Show
    else (if bytes_eq word (codes "dots") then Some keywords.Dots
    else (if bytes_eq word (codes "why") then Some keywords.Why
    else (if bytes_eq word (codes "journal") then Some keywords.Journal
    else None)))))

-- the verb that a word is, if it is one: the second word of an actor's line
unfoldable pub verb_of : List ℕ → Option Verb
verb_of word =
    if bytes_eq word (codes "join") then Some verbs.Join
    else (if bytes_eq word (codes "leave") then Some verbs.Leave
    else (if bytes_eq word (codes "leaveall") then Some verbs.LeaveAll
    else (if bytes_eq word (codes "update") then Some verbs.Update
    else (if bytes_eq word (codes "broadcast") then Some verbs.Broadcast
    else (if bytes_eq word (codes "extract") then Some verbs.Extract
    else (if bytes_eq word (codes "deliver") then Some verbs.Deliver
    else (if bytes_eq word (codes "request") then Some verbs.Request
    else (if bytes_eq word (codes "answer") then Some verbs.Answer
    else (if bytes_eq word (codes "up") then Some verbs.Up
    else (if bytes_eq word (codes "down") then Some verbs.Down
    else (if bytes_eq word (codes "permdown") then Some verbs.Permdown
    else (if bytes_eq word (codes "undo") then Some verbs.Undo
    else (if bytes_eq word (codes "back") then Some verbs.Back
    else (if bytes_eq word (codes "unwind") then Some verbs.Unwind
    else None))))))))))))))

-- whether a console may use the verb, as nodes may
abbrev pub is_for_consoles : Verb → Bool
is_for_consoles verbs.Undo = true
is_for_consoles verbs.Back = true
is_for_consoles verbs.Unwind = true
is_for_consoles _ = false

-- a fault in place of a value that isn't there
abbrev pub or_fault : {A : Type 0} → FaultKind → Option A → Result A FaultKind
or_fault kind None = Err kind
or_fault kind (Some value) = Ok value

-- who may act

-- a fault of names, as a fault of the line that gives them
abbrev pub kind_of : NamesFault → FaultKind
kind_of names_faults.WrongCount = WrongCount
kind_of (names_faults.BadName at) = BadName
kind_of (names_faults.Twice at) = Twice
kind_of names_faults.OutOfMemory = OutOfMemory

abbrev pub of_names : Result Texts NamesFault → Result Texts FaultKind
of_names (Ok names) = Ok names
of_names (Err fault) = Err (kind_of fault)

-- the word; or, if it is a keyword, the empty text, which is no name
unfoldable pub unreserved : List ℕ → List ℕ
unreserved word = if is_some (keyword_of word) then [] else word

-- the names of a `nodes` line, 1 to 32, of which none stands twice and none is a keyword; or their fault
unfoldable pub node_names : Texts → Result Texts FaultKind
node_names words = of_names (names_of (map unreserved words))

-- who may act after the first significant line, which is `nodes NAME ..`; or the line's fault
unfoldable pub opening : List ℕ → Texts → Result Cast FaultKind
opening first names =
    if not (bytes_eq first (codes "nodes")) then Err NoNodes
    else (node_names names >>= λ nodes. Ok (record { nodes = nodes; consoles = [] }))

-- the consoles with one more, whose name is no keyword and no node's or console's; or the fault of that name
unfoldable pub with_console : Texts → Texts → List ℕ → Result Texts FaultKind
with_console nodes consoles name =
    if not (is_name name) || is_some (keyword_of name) then Err BadName
    else (if is_some (number_in nodes name) || list_any (bytes_eq name) consoles then Err Twice
    else Ok (consoles ++ name ∷ []))

unfoldable pub with_each : Texts → Texts → Texts → Result Texts FaultKind
with_each nodes consoles [] = Ok consoles
with_each nodes consoles (name ∷ names) = do
  more ← with_console nodes consoles name
  with_each nodes more names

-- who may act after `consoles NAME ..` with 1 to `most_consoles` names, if no console was named before; or the line's fault
unfoldable pub with_consoles : Cast → Texts → Result Cast FaultKind
with_consoles cast names =
    if not (length cast.consoles == 0) then Err Twice
    else (if (length names == 0) || nat_lt most_consoles (length names) then Err WrongCount
    else (with_each cast.nodes cast.consoles names >>= λ consoles. Ok (record { nodes = cast.nodes; consoles = consoles })))

-- the arguments, from left to right

unfoldable pub node_at : Texts → List ℕ → Result ℕ FaultKind
node_at nodes name = or_fault BadName (number_in nodes name)

unfoldable pub number_at : List ℕ → Result ℕ FaultKind
number_at digits = or_fault BadNumber (number_of digits)

unfoldable pub word_at : List ℕ → Result (List ℕ) FaultKind
word_at word = if nat_lt longest_word (length word) then Err TooLong else Ok word

-- `PID TOPIC KEY META`
unfoldable pub presence_with : List ℕ → List ℕ → List ℕ → List ℕ → Result Presence FaultKind
presence_with pid topic key metadata = do
  pid ← number_at pid
  topic ← word_at topic
  key ← word_at key
  metadata ← word_at metadata
  Ok (record { pid = pid; topic = topic; key = key; metadata = metadata })

unfoldable pub presence_of : Texts → Result Presence FaultKind
presence_of (pid ∷ topic ∷ key ∷ metadata ∷ []) = presence_with pid topic key metadata
presence_of _ = Err WrongCount

unfoldable pub join_of : Texts → Result Operation FaultKind
join_of args = presence_of args >>= λ presence. Ok (Join presence)

unfoldable pub update_of : Texts → Result Operation FaultKind
update_of args = presence_of args >>= λ presence. Ok (Update presence)

-- `PID TOPIC KEY`
unfoldable pub leave_with : List ℕ → List ℕ → List ℕ → Result Operation FaultKind
leave_with pid topic key = do
  pid ← number_at pid
  topic ← word_at topic
  key ← word_at key
  Ok (Leave pid topic key)

unfoldable pub leave_of : Texts → Result Operation FaultKind
leave_of (pid ∷ topic ∷ key ∷ []) = leave_with pid topic key
leave_of _ = Err WrongCount

-- the number that the only word is
unfoldable pub one_number : Texts → Result ℕ FaultKind
one_number (number ∷ []) = number_at number
one_number _ = Err WrongCount

-- the node that the only word names
unfoldable pub one_node : Texts → Texts → Result ℕ FaultKind
one_node nodes (name ∷ []) = node_at nodes name
one_node nodes _ = Err WrongCount

unfoldable pub leave_all_of : Texts → Result Operation FaultKind
leave_all_of args = one_number args >>= λ pid. Ok (LeaveAll pid)

unfoldable pub up_of : Texts → Texts → Result Operation FaultKind
up_of nodes args = one_node nodes args >>= λ name. Ok (Up name)

unfoldable pub down_of : Texts → Texts → Result Operation FaultKind
down_of nodes args = one_node nodes args >>= λ name. Ok (Down name)

unfoldable pub permdown_of : Texts → Texts → Result Operation FaultKind
permdown_of nodes args = one_node nodes args >>= λ name. Ok (Permdown name)

-- a broadcast, which has no arguments
unfoldable pub broadcast_of : Texts → Result Operation FaultKind
broadcast_of [] = Ok Broadcast
broadcast_of (word ∷ words) = Err WrongCount

-- a request, which has no arguments
unfoldable pub request_of : Texts → Result Operation FaultKind
request_of [] = Ok Request
request_of (word ∷ words) = Err WrongCount

-- the nodes of an `extract` with the one of this name, which is not among them; or the fault of that name
unfoldable pub with_node : Texts → Names → List ℕ → Result Names FaultKind
with_node nodes chosen name = do
  node ← node_at nodes name
  if set.contains chosen node then Err Twice else Ok (set.insert chosen node)

unfoldable pub with_nodes : Texts → Names → Texts → Result Names FaultKind
with_nodes nodes chosen [] = Ok chosen
with_nodes nodes chosen (name ∷ names) = do
  more ← with_node nodes chosen name
  with_nodes nodes more names

unfoldable pub extract_of : Texts → Texts → Result Operation FaultKind
extract_of nodes names =
    if (length names == 0) || nat_lt most_names (length names) then Err WrongCount
    else (with_nodes nodes set.empty names >>= λ chosen. Ok (Extract chosen))

-- `NAME NUMBER`, a message of a node
unfoldable pub message_with : Texts → List ℕ → List ℕ → Result (ℕ × ℕ) FaultKind
message_with nodes name number = do
  sender ← node_at nodes name
  number ← number_at number
  Ok (sender, number)

unfoldable pub one_message : Texts → Texts → Result (ℕ × ℕ) FaultKind
one_message nodes (name ∷ number ∷ []) = message_with nodes name number
one_message nodes _ = Err WrongCount

unfoldable pub deliver_of : Texts → Texts → Result Operation FaultKind
deliver_of nodes args = one_message nodes args >>= λ message. Ok (Deliver message.0 message.1)

unfoldable pub answer_of : Texts → Texts → Result Operation FaultKind
answer_of nodes args = one_message nodes args >>= λ message. Ok (Answer message.0 message.1)

-- commands

-- the call by which a node asks for the step; or the fault
abbrev pub does : ℕ → Result Operation FaultKind → Result Command FaultKind
does node step = step >>= λ step. Ok (Call node (Do step))

unfoldable pub verb_line : Texts → ℕ → Verb → Texts → Result Command FaultKind
verb_line nodes actor verbs.Join args = does actor (join_of args)
verb_line nodes actor verbs.Leave args = does actor (leave_of args)
verb_line nodes actor verbs.LeaveAll args = does actor (leave_all_of args)
verb_line nodes actor verbs.Update args = does actor (update_of args)
verb_line nodes actor verbs.Broadcast args = does actor (broadcast_of args)
verb_line nodes actor verbs.Extract args = does actor (extract_of nodes args)
verb_line nodes actor verbs.Deliver args = does actor (deliver_of nodes args)
verb_line nodes actor verbs.Request args = does actor (request_of args)
verb_line nodes actor verbs.Answer args = does actor (answer_of nodes args)
verb_line nodes actor verbs.Up args = does actor (up_of nodes args)
verb_line nodes actor verbs.Down args = does actor (down_of nodes args)
verb_line nodes actor verbs.Permdown args = does actor (permdown_of nodes args)
verb_line nodes actor verbs.Undo args = one_number args >>= λ number. Ok (Call actor (Undo number))
verb_line nodes actor verbs.Back args = one_node nodes args >>= λ node. Ok (Call actor (Back node))
verb_line nodes actor verbs.Unwind args = one_number args >>= λ number. Ok (Unwind actor number)

-- the command of an actor's line, by what stands behind its first word; or the line's fault
unfoldable pub actor_line : Cast → ℕ → Texts → Result Command FaultKind
actor_line cast actor [] = Err WrongCount
actor_line cast actor (verb ∷ args) = do
  verb ← or_fault UnknownWord (verb_of verb)
  if not (nat_lt actor (length cast.nodes)) && not (is_for_consoles verb) then Err NotAllowed else verb_line cast.nodes actor verb args

unfoldable pub journal_of : Texts → Result Command FaultKind
journal_of [] = Ok Journal
journal_of (word ∷ words) = Err WrongCount

-- the command of a line behind the first significant one, other than a `consoles` line; or the line's fault
unfoldable pub command_by : Option Keyword → Cast → List ℕ → Texts → Result Command FaultKind
command_by (Some keywords.Nodes) cast first rest = Err Twice
command_by (Some keywords.Consoles) cast first rest = Err Twice
command_by (Some keywords.Show) cast first rest = one_node cast.nodes rest >>= λ node. Ok (Show node)
command_by (Some keywords.Dots) cast first rest = one_node cast.nodes rest >>= λ node. Ok (Dots node)
command_by (Some keywords.Why) cast first rest = one_number rest >>= λ number. Ok (Why number)
command_by (Some keywords.Journal) cast first rest = journal_of rest
command_by None cast first rest = do
  actor ← or_fault UnknownWord (actor_in cast first)
  actor_line cast actor rest

-- the lines

-- what has been read so far
pub record Reading : Type 0 where
  pub cast : Option Cast
  pub lines : List Line

-- what has been read after one more significant line; or the line's fault
unfoldable pub with_words_by : Option Cast → List Line → ℕ → List ℕ → Texts → Result Reading FaultKind
with_words_by None lines number first rest = opening first rest >>= λ cast. Ok (record { cast = Some cast; lines = lines })
with_words_by (Some cast) lines number first rest =
    if bytes_eq first (codes "consoles") then (with_consoles cast rest >>= λ cast. Ok (record { cast = Some cast; lines = lines }))
    else (command_by (keyword_of first) cast first rest >>=
    λ command. Ok (record { cast = Some cast; lines = lines ++ record { number = number; command = command } ∷ [] }))

-- a line without words changes nothing, and neither does a comment, which begins with `#`; all other lines are significant
unfoldable pub with_words : Reading → ℕ → Texts → Result Reading FaultKind
with_words reading number [] = Ok reading
with_words reading number (first ∷ rest) =
    if slice_index first 0 == 35 then Ok reading else with_words_by reading.cast reading.lines number first rest

-- the words of a line, if the line is text
abbrev pub text_words : List ℕ → Result Texts FaultKind
text_words line = if not (is_text line) then Err NotText else Ok (words_of line)

-- the most bytes that a line may have, without its line feed
abbrev pub longest_line : ℕ
longest_line = 4096

-- the most bytes that a script may have
abbrev pub longest_script : ℕ
longest_script = 1048576

unfoldable pub with_line : Reading → ℕ → List ℕ → Result Reading FaultKind
with_line reading number line =
    if nat_lt longest_line (length line) then Err TooLong
    else (if not (is_text line) then Err NotText
    else with_words reading number (words_of line))

-- a fault with its line's number
abbrev pub at_line : {A : Type 0} → ℕ → Result A FaultKind → Result A ScriptFault
at_line number (Ok value) = Ok value
at_line number (Err kind) = Err (record { line = number; kind = kind })

unfoldable pub with_lines : Reading → ℕ → List (List ℕ) → Result Reading ScriptFault
with_lines reading number [] = Ok reading
with_lines reading number (line ∷ lines) = do
  next ← at_line number (with_line reading number line)
  with_lines next (number + 1) lines

abbrev pub finished : Option Cast → List Line → Result Script ScriptFault
finished None lines = Err (record { line = 0; kind = NoNodes })
finished (Some cast) lines = Ok (record { cast = cast; lines = lines })

-- the script that is read from the bytes, or its first fault
unfoldable pub script_of : List ℕ → Result Script ScriptFault
script_of bytes =
    if nat_lt longest_script (length bytes) then Err (record { line = 0; kind = TooLong })
    else (with_lines (record { cast = None; lines = [] }) 1 (lines_of bytes) >>= λ reading. finished reading.cast reading.lines)

-- the act lines of a script

-- the actor and the act of a line; `NotAllowed` at the line if it asks no act
abbrev pub call_of : Line → Result (ℕ × Action) ScriptFault
call_of line = by line.number line.command
  where
    by : ℕ → Command → Result (ℕ × Action) ScriptFault
    by number (Call actor act) = Ok (actor, act)
    by number _ = Err (record { line = number; kind = NotAllowed })

-- these calls, and after them those of the lines; or the fault at the first line that asks no act
unfoldable pub with_calls : List (ℕ × Action) → List Line → Result (List (ℕ × Action)) ScriptFault
with_calls calls [] = Ok calls
with_calls calls (line ∷ lines) = do
  call ← call_of line
  with_calls (calls ++ call ∷ []) lines
