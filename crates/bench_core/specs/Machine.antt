-- The machine: a history of calls, and the journal of the steps that remain. It knows no inverse and no index.
use Rattle.std.specs.Prelude.{◌≡◌, ℕ, ◌+◌, ◌-◌, ◌==◌, ◌&&◌, ◌||◌, not, nat_lt, Bool, true, false, if◌then◌else◌, List, [], ◌∷◌, ◌++◌, length, count_by}
use Rattle.std.specs.Prelude.{Option, Some, None, Result, Ok, Err, refl}
use Rattle.std.specs.Coded.{Coded, code_by, coded×, coded_ℕ, coded_list}
use Rattle.std.specs.List.{list_all}
use Rattle.payload_core.specs.Results.{◌>>=◌}
use Rattle.bench_core.specs.declared.reply.Reply.{Reply}
use Rattle.bench_core.specs.declared.reply.Reply.TheVariants.{Taken, Undone, Refused}
use Rattle.bench_core.specs.declared.fault.Fault.{Fault}
use Rattle.bench_core.specs.declared.fault.Fault.TheVariants.{UnknownNode, NoSuchStep, AlreadyUndone, NothingToUndo, HasConsequence, HistoryFull}
use Rattle.bench_core.specs.declared.fault.Fault.TheVariants.{OutOfMemory}
use Rattle.bench_core.specs.NameList.{Texts}
use Rattle.bench_core.specs.Limits.{Limits, node_limits}
use Rattle.node_core.specs.Operations.{Operation, named_in}
use Rattle.bench_core.specs.Acts.{Action, Do, Undo, Back, action_code}
use Rattle.journal_core.specs.Journals.{Kept, kept_code, find_number, first_consequence, last_of, without}
use Rattle.bench_core.specs.Clusters.{Cluster, step}
use Rattle.bench_core.specs.Runs.{runs}

-- a call with its reply
pub record Event : Type 0 where
  pub actor : ℕ
  pub act : Action
  pub reply : Reply

abbrev pub event_code : Coded Reply → Coded Event
event_code reply_code =
    code_by (ℕ × (Action × Reply)) (coded× coded_ℕ (coded× action_code reply_code)) (λ e. (e.actor, (e.act, e.reply)))
    (λ t. record { actor = t.0; act = t.1.0; reply = t.1.1 }) (λ _. refl)

-- what no call changes: how many nodes there are, and the limits
pub record Config : Type 0 where
  pub nodes : ℕ
  pub limits : Limits

-- the recorded calls, and the steps that remain
pub record State : Type 0 where
  pub history : List Event
  pub remaining : List Kept

abbrev pub opening_state : State
opening_state = record { history = []; remaining = [] }

abbrev pub is_taken : Reply → Bool
is_taken (Taken n) = true
is_taken _ = false

-- how many steps were ever taken
abbrev pub given : List Event → ℕ
given h = count_by (λ e. is_taken e.reply) h

-- the places that are left of the bound on history and remaining steps together
abbrev pub free_places : Config → State → ℕ
free_places c s = c.limits.acts - (length s.history + length s.remaining)

-- the cluster that the remaining steps give
abbrev pub now : Config → State → Result Cluster Fault
now c s = runs (node_limits c.limits) c.nodes s.remaining

-- the reply to the undo of a step that remains: undone, if nothing holds it, else refused
abbrev pub unheld : ℕ → Option ℕ → Reply
unheld k None = Undone k
unheld k (Some j) = Refused (HasConsequence k j)

abbrev pub undo_found : List Kept → ℕ → Option Kept → Reply
undo_found ks k None = Refused AlreadyUndone
undo_found ks k (Some _) = unheld k (first_consequence ks k)

abbrev pub undo_reply : State → ℕ → Reply
undo_reply s k = if (k == 0) || nat_lt (given s.history) k then Refused NoSuchStep else undo_found s.remaining k (find_number s.remaining k)

abbrev pub back_reply : State → Option ℕ → Reply
back_reply s None = Refused NothingToUndo
back_reply s (Some k) = undo_reply s k

abbrev pub step_reply : ℕ → Result Cluster Fault → Reply
step_reply n (Ok c) = Taken n
step_reply n (Err e) = Refused e

-- whether the actor and the nodes that the step names are nodes
abbrev pub knows : Config → ℕ → Operation → Bool
knows c actor operation = nat_lt actor c.nodes && list_all (λ n. nat_lt n c.nodes) (named_in operation)

abbrev pub do_reply : Config → State → ℕ → Operation → Reply
do_reply c s actor operation =
    if not (knows c actor operation) then Refused UnknownNode
    else if nat_lt (free_places c s) 2 then Refused HistoryFull
    else step_reply (given s.history + 1) (now c s >>= λ cluster. step cluster actor operation)

-- the reply to a call
abbrev pub reply_to : Config → State → ℕ → Action → Reply
reply_to c s actor (Do operation) = do_reply c s actor operation
reply_to c s actor (Undo k) = undo_reply s k
reply_to c s actor (Back node) = if nat_lt node c.nodes then back_reply s (last_of s.remaining node) else Refused UnknownNode

abbrev pub with_step : List Kept → ℕ → ℕ → Action → List Kept
with_step ks number actor (Do operation) = ks ++ record { number = number; node = actor; step = operation } ∷ []
with_step ks number actor _ = ks

-- the journal after a call with this reply
abbrev pub remaining_after : List Kept → ℕ → Action → Reply → List Kept
remaining_after ks actor act (Taken n) = with_step ks n actor act
remaining_after ks actor act (Undone k) = without ks k
remaining_after ks actor act (Refused r) = ks

-- whether the reply is recorded: a refusal is recorded only while a place is free, and HistoryFull never; every other reply is
abbrev pub is_recorded : Config → State → Reply → Bool
is_recorded c s (Refused HistoryFull) = false
is_recorded c s (Refused r) = not (free_places c s == 0)
is_recorded c s _ = true

-- the state after a call with this reply
abbrev pub after : Config → State → ℕ → Action → Reply → State
after c s actor act reply = record {
  history = if is_recorded c s reply then s.history ++ record { actor = actor; act = act; reply = reply } ∷ [] else s.history;
  remaining = remaining_after s.remaining actor act reply;
}

-- the state after a call
abbrev pub call : Config → State → ℕ → Action → State
call c s actor act = after c s actor act (reply_to c s actor act)

-- the state after the calls, in order
abbrev pub calls : Config → State → List (ℕ × Action) → State
calls c s [] = s
calls c s (a ∷ asked) = calls c (call c s a.0 a.1) asked

-- the replies to the calls, in order
abbrev pub replies_of : Config → State → List (ℕ × Action) → List Reply
replies_of c s [] = []
replies_of c s (a ∷ asked) = reply_to c s a.0 a.1 ∷ replies_of c (call c s a.0 a.1) asked

-- what a contract sees of a bench: its names and limits, which no call changes, and its state
pub record Machine : Type 0 where
  pub names : Texts
  pub limits : Limits
  pub state : State

abbrev limits_code : Coded Limits
limits_code = code_by (ℕ × (ℕ × (ℕ × ℕ))) (coded× coded_ℕ (coded× coded_ℕ (coded× coded_ℕ coded_ℕ)))
    (λ l. (l.acts, (l.entries, (l.clock, l.messages)))) (λ t. record { acts = t.0; entries = t.1.0; clock = t.1.1.0; messages = t.1.1.1 })
    (λ _. refl)

abbrev state_code : Coded Reply → Coded State
state_code reply_code =
    code_by (List Event × List Kept) (coded× (coded_list (event_code reply_code)) (coded_list kept_code)) (λ s. (s.history, s.remaining))
    (λ t. record { history = t.0; remaining = t.1 }) (λ _. refl)

abbrev pub machine_code : Coded Reply → Coded Machine
machine_code reply_code =
    code_by (Texts × (Limits × State)) (coded× (coded_list (coded_list coded_ℕ)) (coded× limits_code (state_code reply_code)))
    (λ m. (m.names, (m.limits, m.state))) (λ t. record { names = t.0; limits = t.1.0; state = t.1.1 }) (λ _. refl)

-- the machine with its names and limits, in another state
abbrev pub with_state : Machine → State → Machine
with_state m s = record { names = m.names; limits = m.limits; state = s }

abbrev pub config_of : Machine → Config
config_of m = record { nodes = length m.names; limits = m.limits }

abbrev pub opening_machine : Texts → Limits → Machine
opening_machine names limits = record { names = names; limits = limits; state = opening_state }

-- the cluster that the remaining steps give
abbrev pub cluster_of : Machine → Result Cluster Fault
cluster_of m = now (config_of m) m.state

-- a call gets the machine's reply; or memory was refused, where that reply would be recorded, and nothing changed
pub data AnswersAs (old : Machine) (actor : ℕ) (act : Action) (reply : Reply) (new : Machine) : Type 0 where
  Answered : reply ≡ reply_to (config_of old) old.state actor act → new ≡ with_state old (after (config_of old) old.state actor act reply) →
      AnswersAs old actor act reply new
  Unmade : is_recorded (config_of old) old.state (reply_to (config_of old) old.state actor act) ≡ true → reply ≡ Refused OutOfMemory →
      new ≡ old → AnswersAs old actor act reply new

-- one reply for each call, in order, each as a call is answered
abbrev pub AllAnswered : Machine → List (ℕ × Action) → List Reply → Machine → Type 0
AllAnswered old [] [] new = new ≡ old
AllAnswered old [] (r ∷ rs) new = ⊥
AllAnswered old (a ∷ asked) [] new = ⊥
AllAnswered old (a ∷ asked) (r ∷ rs) new = (mid : Machine) × (AnswersAs old a.0 a.1 r mid × AllAnswered mid asked rs new)
