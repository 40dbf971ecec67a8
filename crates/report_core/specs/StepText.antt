-- A kept step as a line of a script, and the list of kept steps.
use Rattle.std.specs.Prelude.{ℕ, ◌+◌, List, [], ◌∷◌, ◌++◌, length, codes, decimal, if◌then◌else◌}
use Rattle.std.specs.List.{flat_map}
use Rattle.std.specs.FinSet as set
use Rattle.dots_core.specs.Names.{Names}
use Rattle.payload_core.specs.Presences.{Presence}
use Rattle.node_core.specs.Operations.{Operation, Join, Leave, LeaveAll, Update, Broadcast, Extract, Deliver, Request, Answer, Up, Down, Permdown}
use Rattle.journal_core.specs.Journals.{Kept}
use Rattle.bench_core.specs.NameList.{Texts}
use Rattle.report_core.specs.Rows.{name_at}

-- `PID TOPIC KEY META`
unfoldable pub presence_text : Presence → List ℕ
presence_text p = decimal p.pid ++ codes " " ++ p.topic ++ codes " " ++ p.key ++ codes " " ++ p.metadata

-- a name after a space, if its number is in the set
abbrev pub chosen_text : Names → ℕ → List ℕ → List ℕ
chosen_text chosen n name = if set.contains chosen n then codes " " ++ name else []

-- the names from number n on that are in the set, each after a space
unfoldable pub extract_from : Names → ℕ → Texts → List ℕ
extract_from chosen n [] = []
extract_from chosen n (name ∷ names) = chosen_text chosen n name ++ extract_from chosen (n + 1) names

-- the step as a script has it, after its node
unfoldable pub step_text : Texts → Operation → List ℕ
step_text names (Join p) = codes "join " ++ presence_text p
step_text names (Leave pid topic key) = codes "leave " ++ decimal pid ++ codes " " ++ topic ++ codes " " ++ key
step_text names (LeaveAll pid) = codes "leaveall " ++ decimal pid
step_text names (Update p) = codes "update " ++ presence_text p
step_text names Broadcast = codes "broadcast"
step_text names (Extract chosen) = codes "extract" ++ extract_from chosen 0 names
step_text names (Deliver sender number) = codes "deliver " ++ name_at names sender ++ codes " " ++ decimal number
step_text names Request = codes "request"
step_text names (Answer sender number) = codes "answer " ++ name_at names sender ++ codes " " ++ decimal number
step_text names (Up name) = codes "up " ++ name_at names name
step_text names (Down name) = codes "down " ++ name_at names name
step_text names (Permdown name) = codes "permdown " ++ name_at names name

-- `NODE VERB ..`, a line of a script
unfoldable pub act_line : Texts → ℕ → Operation → List ℕ
act_line names node operation = name_at names node ++ codes " " ++ step_text names operation

-- `NUMBER`, and the step as a line of a script
unfoldable pub kept_line : Texts → Kept → List ℕ
kept_line names kept = decimal kept.number ++ codes " " ++ act_line names kept.node kept.step ++ codes "\n"

-- each kept step on a line
unfoldable pub kept_lines : Texts → List Kept → List ℕ
kept_lines names kept = flat_map (kept_line names) kept

-- `journal COUNT`, and each kept step on a line
unfoldable pub journal_text : Texts → List Kept → List ℕ
journal_text names kept = codes "journal " ++ decimal (length kept) ++ codes "\n" ++ kept_lines names kept
