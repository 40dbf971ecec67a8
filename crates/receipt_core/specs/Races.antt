-- What refuses a race before it begins, and what ends one.
use Rattle.std.specs.Prelude.{◌≡◌, ◌≢◌, ℕ, ◌*◌, Bool, false, true, ⊤, nat_lt, not, if◌then◌else◌, List, length, Option, Some, None}
use Rattle.std.specs.List.{list_all, list_any}
use Rattle.bench_core.specs.Acts.{Action}
use Rattle.bench_core.specs.Limits.{Limits}
use Rattle.bench_core.specs.Machine.{Event, Machine, config_of, free_places}
use Rattle.bench_core.specs.NameList.{Texts}
use Rattle.bench_core.specs.declared.fault.Fault.TheVariants as faults
use Rattle.bench_core.specs.declared.reply.Reply.{Reply}
use Rattle.bench_core.specs.declared.reply.Reply.TheVariants as replies
use Rattle.receipt_core.specs.Agree.{Agrees}
use Rattle.receipt_core.specs.Receipts.{Receipt}
use Rattle.receipt_core.specs.declared.race_fault.WorkersFault.{WorkersFault}
use Rattle.receipt_core.specs.declared.race_fault.WorkersFault.TheVariants as workers_faults
use Rattle.receipt_core.specs.declared.race_fault.RaceFault.{RaceFault}
use Rattle.receipt_core.specs.declared.race_fault.RaceFault.TheVariants.{UnknownActor, NoRoom, WorkerRefused, OutOfMemory, LogsDisagree}

-- whether each line's actor is one of `actors`
abbrev pub are_known : ℕ → List (ℕ × Action) → Bool
are_known actors lines = list_all (λ l. nat_lt l.0 actors) lines

-- whether the bench has twice as many free places as there are lines: each may be a step
abbrev pub has_room : Machine → List (ℕ × Action) → Bool
has_room m lines = not (nat_lt (free_places (config_of m) m.state) (2 * length lines))

-- what refuses a race before it begins
abbrev pub refusal_of : Machine → ℕ → List (ℕ × Action) → Option RaceFault
refusal_of m actors lines = if not (are_known actors lines) then Some UnknownActor else if not (has_room m lines) then Some NoRoom else None

-- a fault that comes once a race has begun
abbrev pub IsLate : RaceFault → Type 0
IsLate fault = (fault ≢ UnknownActor) × (fault ≢ NoRoom)

abbrev pub fault_of_workers : WorkersFault → RaceFault
fault_of_workers workers_faults.WorkerRefused = WorkerRefused
fault_of_workers workers_faults.OutOfMemory = OutOfMemory

-- whether a call was refused memory

abbrev pub is_out_of_memory : Reply → Bool
is_out_of_memory (replies.Refused faults.OutOfMemory) = true
is_out_of_memory _ = false

abbrev pub met_out_of_memory : List (List Receipt) → Bool
met_out_of_memory lists = list_any (λ receipts. list_any (λ r. is_out_of_memory r.reply) receipts) lists

-- a race is vouched for: the receipts account for what was added to this history, there is a list for each actor, and the bench
-- has the names and limits that the race was given
pub record IsVouched (history : List Event) (names : Texts) (limits : Limits) (m : Machine) (actors : ℕ) (lines : List (ℕ × Action))
    (receipts : List (List Receipt)) : Type 0 where
  pub agrees : Agrees history m.state.history lines receipts
  pub names_are : m.names ≡ names
  pub limits_are : m.limits ≡ limits
  pub lists : length receipts ≡ actors

-- why a race can't be vouched for once its workers have told: want of memory; or no call was refused memory, and `vouched`
-- doesn't hold
abbrev pub IsUnvouched : Type 0 → List (List Receipt) → RaceFault → Type 0
IsUnvouched vouched receipts OutOfMemory = ⊤
IsUnvouched vouched receipts LogsDisagree = (met_out_of_memory receipts ≡ false) × ¬ vouched
IsUnvouched vouched receipts UnknownActor = ⊥
IsUnvouched vouched receipts NoRoom = ⊥
IsUnvouched vouched receipts WorkerRefused = ⊥
