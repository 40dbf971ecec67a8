-- Which recorded calls their JSON can give back.
use Rattle.std.specs.Prelude.{◌≡◌, nat_lt, true}
use Rattle.payload_core.specs.Words.{is_word}
use Rattle.payload_core.specs.Presences.{Presence}
use Rattle.node_core.specs.Operations.{Operation, Join, Leave, LeaveAll, Update, Broadcast, Extract, Deliver, Request, Answer, Up, Down, Permdown}
use Rattle.dots_core.specs.Names.{most_names, AreNamesBelow}
use Rattle.bench_core.specs.declared.reply.Reply.{Reply}
use Rattle.bench_core.specs.declared.reply.Reply.TheVariants.{Refused}
use Rattle.bench_core.specs.declared.fault.Fault.{Fault}
use Rattle.bench_core.specs.declared.fault.Fault.TheVariants as faults
use Rattle.bench_core.specs.Acts.{Action, Do, Undo, Back}
use Rattle.bench_core.specs.Machine.{Event}

-- what the parts of a bench keep by their types

abbrev pub IsPresence : Presence → Type 0
IsPresence p = (is_word p.topic ≡ true) × (is_word p.key ≡ true) × (is_word p.metadata ≡ true)

abbrev pub IsOperation : Operation → Type 0
IsOperation (Join p) = IsPresence p
IsOperation (Leave pid topic key) = (is_word topic ≡ true) × (is_word key ≡ true)
IsOperation (LeaveAll pid) = Unit {0}
IsOperation (Update p) = IsPresence p
IsOperation Broadcast = Unit {0}
IsOperation (Extract names) = AreNamesBelow most_names names
IsOperation (Deliver sender number) = nat_lt sender 65536 ≡ true
IsOperation Request = Unit {0}
IsOperation (Answer sender number) = nat_lt sender 65536 ≡ true
IsOperation (Up name) = nat_lt name 65536 ≡ true
IsOperation (Down name) = nat_lt name 65536 ≡ true
IsOperation (Permdown name) = nat_lt name 65536 ≡ true

abbrev pub IsAction : Action → Type 0
IsAction (Do operation) = IsOperation operation
IsAction (Undo k) = Unit {0}
IsAction (Back node) = nat_lt node 65536 ≡ true

-- the event's actor and the nodes that it names have numbers below 65,536, those of an extract below `most_names`; and its topics, keys
-- and metadata are words
abbrev pub IsEvent : Event → Type 0
IsEvent e = (nat_lt e.actor 65536 ≡ true) × IsAction e.act

-- the faults that a bench records
abbrev pub IsRecordedFault : Fault → Type 0
IsRecordedFault faults.HistoryFull = ⊥
IsRecordedFault faults.OutOfMemory = ⊥
IsRecordedFault _ = Unit {0}

abbrev pub IsRecordedReply : Reply → Type 0
IsRecordedReply (Refused fault) = IsRecordedFault fault
IsRecordedReply _ = Unit {0}

-- the event can be had again from its JSON
abbrev pub IsTold : Event → Type 0
IsTold e = IsEvent e × IsRecordedReply e.reply
