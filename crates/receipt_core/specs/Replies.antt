-- The replies of receipts, compared with the machine's.
use Rattle.std.specs.Prelude.{◌≡◌, ℕ, ◌-◌, List, map, take}
use Rattle.std.specs.List.{AllByRecursion}
use Rattle.bench_core.specs.Acts.{Action}
use Rattle.bench_core.specs.Machine.{Config, State, Event, opening_state, calls, reply_to}
use Rattle.receipt_core.specs.Receipts.{Receipt}
use Rattle.receipt_core.specs.Agree.{named}

-- what an event asked
abbrev pub call_of : Event → ℕ × Action
call_of e = (e.actor, e.act)

-- the machine's state after the calls of these events, from the opening on
abbrev pub state_after : Config → List Event → State
state_after c es = calls c opening_state (map call_of es)

-- the receipt's reply is the one that the machine gives after all that the history has before the receipt's place
abbrev pub IsMachineReply : Config → List Event → Receipt → Type 0
IsMachineReply c h r = r.reply ≡ reply_to c (state_after c (take (named r - 1) h)) r.actor r.act

-- the replies of all receipts in the lists are the machine's
abbrev pub AreMachineReplies : Config → List Event → List (List Receipt) → Type 0
AreMachineReplies c h lists = AllByRecursion (λ rs. AllByRecursion (IsMachineReply c h) rs) lists
