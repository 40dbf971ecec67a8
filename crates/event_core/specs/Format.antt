-- The JSON value of a recorded call.
use Rattle.std.specs.Prelude.{ℕ, ◌+◌, zero, suc, List, [], ◌∷◌, map, codes, if◌then◌else◌}
use Rattle.std.specs.FinSet as set
use Rattle.serde_json.specs.Data.{Data, number, unsigned, string, array}
use Rattle.serde_json.specs.View.{items_of}
use Rattle.dots_core.specs.Names.{most_names, Names}
use Rattle.node_core.specs.Operations.{Operation, Join, Leave, LeaveAll, Update, Broadcast, Extract, Deliver, Request, Answer, Up, Down, Permdown}
use Rattle.bench_core.specs.declared.reply.Reply.{Reply}
use Rattle.bench_core.specs.declared.reply.Reply.TheVariants.{Taken, Undone, Refused}
use Rattle.bench_core.specs.declared.fault.Fault.{Fault}
use Rattle.bench_core.specs.declared.fault.Fault.TheVariants as faults
use Rattle.bench_core.specs.Acts.{Action, Do, Undo, Back}
pub use Rattle.bench_core.specs.FaultText.{code_of}
use Rattle.bench_core.specs.Machine.{Event}

-- a JSON array
abbrev pub list : List Data → Data
list ds = array (items_of ds)

abbrev pub whole : ℕ → Data
whole n = number (unsigned n)

-- those of the next `count` numbers, from `first` on, that are in the set
unfoldable pub numbers_from : Names → ℕ → ℕ → List ℕ
numbers_from names first zero = []
numbers_from names first (suc count) =
    if set.contains names first then first ∷ numbers_from names (first + 1) count else numbers_from names (first + 1) count

-- the numbers of a set of names, rising
abbrev pub numbers_of : Names → List ℕ
numbers_of names = numbers_from names 0 most_names

-- what a step asks, after the word `do`
abbrev pub step_data : Operation → List Data
step_data (Join p) = string (codes "join") ∷ whole p.pid ∷ string p.topic ∷ string p.key ∷ string p.metadata ∷ []
step_data (Leave pid topic key) = string (codes "leave") ∷ whole pid ∷ string topic ∷ string key ∷ []
step_data (LeaveAll pid) = string (codes "leaveall") ∷ whole pid ∷ []
step_data (Update p) = string (codes "update") ∷ whole p.pid ∷ string p.topic ∷ string p.key ∷ string p.metadata ∷ []
step_data Broadcast = string (codes "broadcast") ∷ []
step_data (Extract names) = string (codes "extract") ∷ list (map whole (numbers_of names)) ∷ []
step_data (Deliver sender k) = string (codes "deliver") ∷ whole sender ∷ whole k ∷ []
step_data Request = string (codes "request") ∷ []
step_data (Answer sender k) = string (codes "answer") ∷ whole sender ∷ whole k ∷ []
step_data (Up name) = string (codes "up") ∷ whole name ∷ []
step_data (Down name) = string (codes "down") ∷ whole name ∷ []
step_data (Permdown name) = string (codes "permdown") ∷ whole name ∷ []

abbrev pub act_json : Action → Data
act_json (Do operation) = list (string (codes "do") ∷ step_data operation)
act_json (Undo k) = list (string (codes "undo") ∷ whole k ∷ [])
act_json (Back node) = list (string (codes "back") ∷ whole node ∷ [])

-- what comes after a fault's number: for HasConsequence, the step and what holds it
abbrev pub fault_rest : Fault → List Data
fault_rest (faults.HasConsequence step held_by) = whole step ∷ whole held_by ∷ []
fault_rest _ = []

abbrev pub reply_json : Reply → Data
reply_json (Taken n) = list (string (codes "ok") ∷ whole n ∷ [])
reply_json (Undone n) = list (string (codes "undone") ∷ whole n ∷ [])
reply_json (Refused fault) = list (string (codes "no") ∷ whole (code_of fault) ∷ fault_rest fault)

abbrev pub event_json : Event → Data
event_json e = list (whole e.actor ∷ act_json e.act ∷ reply_json e.reply ∷ [])
