-- Recorded calls asked again of a bench just opened.
use Rattle.std.specs.Prelude.{◌≡◌, ◌≢◌, ℕ, true, List, [], ◌∷◌}
use Rattle.bench_core.specs.declared.reply.Reply.TheVariants.{Refused}
use Rattle.bench_core.specs.declared.fault.Fault.TheVariants.{OutOfMemory}
use Rattle.bench_core.specs.Acts.{Action}
use Rattle.bench_core.specs.Machine.{Config, State, Event, opening_state, reply_to, is_recorded, after}
use Rattle.bench_core.specs.Headline.{IsReached}

-- the machine, asked the event's call, gives its reply and records it
abbrev pub Records : Config → State → Event → Type 0
Records c s e = (reply_to c s e.actor e.act ≡ e.reply) × (is_recorded c s e.reply ≡ true)

-- asked the calls of these events in turn, the machine records each of them, and comes to this state
abbrev pub Replays : Config → State → List Event → State → Type 0
Replays c old [] new = new ≡ old
Replays c old (e ∷ es) new = Records c old e × Replays c (after c old e.actor e.act e.reply) es new

-- a reached state comes back if its recorded calls are asked again from the opening on: calls that weren't recorded changed nothing
abbrev pub ReplayLaw : Type 0
ReplayLaw = (c : Config) (s : State) → IsReached c s → Replays c opening_state s.history s

-- the machine's reply is never want of memory
abbrev pub NoMemoryLaw : Type 0
NoMemoryLaw = (c : Config) (s : State) (actor : ℕ) (act : Action) → reply_to c s actor act ≢ Refused OutOfMemory
