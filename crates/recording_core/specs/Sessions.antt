-- What a load gives, and what a saved text is.
use Rattle.std.specs.Prelude.{◌≡◌, ◌⊎◌, ℕ, ◌+◌, Bool, true, false, List, [], ◌∷◌, Some, None, Result, Ok, Err, IsUtf8}
use Rattle.std.specs.List.{AllByRecursion}
use Rattle.serde_json.specs.Data.{Data, Items, no_items, item}
use Rattle.serde_json.specs.Read.{read}
use Rattle.serde_json.specs.Written.{compact_text}
use Rattle.bench_core.specs.Limits.{AreLimits}
use Rattle.bench_core.specs.Machine.{Event, Machine, opening_state, opening_machine, config_of, with_state, after}
use Rattle.bench_core.specs.NameList.{names_of}
use Rattle.bench_core.specs.Replays.{Records, Replays}
use Rattle.recording_core.specs.declared.session_fault.SessionFault.{SessionFault}
use Rattle.recording_core.specs.declared.session_fault.SessionFault.TheVariants.{NotJson, BadShape, BadVersion, Disagrees, OutOfMemory}
use Rattle.event_core.specs.Told.{IsTold}
use Rattle.recording_core.specs.Format.{session}
use Rattle.recording_core.specs.Decoding.{Parts, version_of, parts_at, acts_of}
use Rattle.recording_core.specs.Versions.{IsVersion, tells, event_in}

-- a bench after it recorded the event
abbrev pub with_event : Machine → Event → Machine
with_event m e = with_state m (after (config_of m) m.state e.actor e.act e.reply)

-- asked the event's call, the bench gives the event's reply and records it
abbrev pub RecordsNext : Machine → Event → Type 0
RecordsNext m e = Records (config_of m) m.state e

-- from `old` on, the bench records the events that these values stand for, in a text of this version, and comes to `new`
abbrev pub Reads : ℕ → Machine → List Data → Machine → Type 0
Reads v old [] new = new ≡ old
Reads v old (d ∷ ds) new = (e : Event) × (event_in v d ≡ Some e) × RecordsNext old e × Reads v (with_event old e) ds new

-- whether the bench, asked the event's call, gave the event's reply and recorded it
abbrev pub Asked : Event → Machine → Machine → Bool → Type 0
Asked e old new true = RecordsNext old e × (new ≡ with_event old e)
Asked e old new false = ¬ RecordsNext old e

-- what the value d of act n comes to at a bench: the event that it stands for is recorded; or the fault is that it stands for none, that
-- the bench doesn't record that event so, or want of memory
abbrev pub Steps : ℕ → ℕ → Machine → Data → Result (Unit {0}) SessionFault → Machine → Type 0
Steps v n old d (Ok u) new = (e : Event) × (event_in v d ≡ Some e) × RecordsNext old e × (new ≡ with_event old e)
Steps v n old d (Err (BadShape k)) new = (k ≡ n) × (event_in v d ≡ None)
Steps v n old d (Err (Disagrees k)) new = (k ≡ n) × ((e : Event) × (event_in v d ≡ Some e) × ¬ RecordsNext old e)
Steps v n old d (Err OutOfMemory) new = Unit {0}
Steps v n old d (Err NotJson) new = ⊥
Steps v n old d (Err BadVersion) new = ⊥

-- the fault of the first bad value, of values numbered from n; or want of memory
abbrev pub Faults : ℕ → ℕ → Machine → List Data → SessionFault → Type 0
Faults v n m ds OutOfMemory = Unit {0}
Faults v n m ds NotJson = ⊥
Faults v n m ds BadVersion = ⊥
Faults v n m [] fault = ⊥
Faults v n m (d ∷ ds) fault =
    Steps v n m d (Err fault) m ⊎ ((e : Event) × (event_in v d ≡ Some e) × RecordsNext m e × Faults v (n + 1) (with_event m e) ds fault)

abbrev pub data_of : Items → List Data
data_of no_items = []
data_of (item d ds) = d ∷ data_of ds

-- the bytes are the JSON text of this value
abbrev pub IsJson : List ℕ → Data → Type 0
IsJson bytes d = IsUtf8 bytes × (read bytes ≡ Some d)

-- the bench with which a session begins
abbrev pub first_bench : Parts → Machine
first_bench p = opening_machine p.names p.limits

-- the head of the value is that of a session of this version, with these parts
pub record HasHead (d : Data) (v : ℕ) (p : Parts) : Type 0 where
  pub version : version_of d ≡ Some v
  pub known : IsVersion v
  pub parts : parts_at d ≡ Some p

-- the value is a session, and its calls lead from its first bench to this one
abbrev pub LeadsTo : Data → Machine → Type 0
LeadsTo d m = (v : ℕ) × (p : Parts) × HasHead d v p × Reads v (first_bench p) (data_of (acts_of d)) m

-- the value is no session, whatever its acts are
abbrev pub IsMisshapen : Data → Type 0
IsMisshapen d = (version_of d ≡ None) ⊎ ((v : ℕ) × (version_of d ≡ Some v) × IsVersion v × (parts_at d ≡ None))

-- an act of the value has this fault
abbrev pub HasFault : Data → SessionFault → Type 0
HasFault d fault = (v : ℕ) × (p : Parts) × HasHead d v p × Faults v 1 (first_bench p) (data_of (acts_of d)) fault

-- what each fault says of a value: for want of memory, nothing
abbrev pub IsRefused : Data → SessionFault → Type 0
IsRefused d NotJson = ⊥
IsRefused d BadVersion = (v : ℕ) × (version_of d ≡ Some v) × ¬ IsVersion v
IsRefused d (BadShape k) = ((k ≡ 0) × IsMisshapen d) ⊎ HasFault d (BadShape k)
IsRefused d (Disagrees k) = HasFault d (Disagrees k)
IsRefused d OutOfMemory = Unit {0}

-- what a load may give for a value: a machine to which the value leads, or one of its faults
abbrev pub LoadsAs : Data → Result Machine SessionFault → Type 0
LoadsAs d (Ok m) = LeadsTo d m
LoadsAs d (Err fault) = IsRefused d fault

-- what each fault says of the text: `NotJson`, that it is no JSON; `OutOfMemory`, nothing; any other fault, that it is the JSON of a value
-- which is refused with that fault
abbrev pub Refuses : List ℕ → SessionFault → Type 0
Refuses bytes NotJson = IsUtf8 bytes → read bytes ≡ None
Refuses bytes OutOfMemory = Unit {0}
Refuses bytes fault = (d : Data) × IsJson bytes d × IsRefused d fault

-- the text is the session of this bench, in the form of this version: its names, limits and history. Opened with these names and
-- limits and asked these calls, the machine records each of them and ends in the bench's state
pub record IsSessionIn (version : ℕ) (bytes : List ℕ) (m : Machine) : Type 0 where
  pub utf8 : IsUtf8 bytes
  pub reads : read bytes ≡ Some (session version m.names m.limits m.state.history)
  -- a text of this version can have the history
  pub told : AllByRecursion (λ e. tells version e ≡ true) m.state.history
  pub replays : Replays (config_of m) opening_state m.state.history m.state

-- the text is the session of this bench, in the form of a version
abbrev pub IsSession : List ℕ → Machine → Type 0
IsSession bytes m = (version : ℕ) × IsVersion version × IsSessionIn version bytes m

-- the text is the session of this bench as it is saved: in the form of version 2, with names, limits and calls that are those of a
-- bench
pub record IsSaved (bytes : List ℕ) (m : Machine) : Type 0 where
  pub session : IsSessionIn 2 bytes m
  pub names : names_of m.names ≡ Ok m.names
  pub limits : AreLimits m.limits
  pub events : AllByRecursion IsTold m.state.history

-- a saved bench comes back as it was, unless memory was refused
abbrev pub ComesBack : Machine → Result Machine SessionFault → Type 0
ComesBack m (Ok loaded) = loaded ≡ m
ComesBack m (Err fault) = fault ≡ OutOfMemory

-- the new text is the session of the old text's bench, in the form of the second version
abbrev pub IsCarried : List ℕ → List ℕ → Type 0
IsCarried old new = (m : Machine) × IsSession old m × (new ≡ compact_text (session 2 m.names m.limits m.state.history)) × IsSaved new m
