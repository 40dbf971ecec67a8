-- What is kept of a change to take it back (Danos and Krivine, as an inverse record).
use Rattle.std.specs.Prelude.{◌≡◌, ◌<◌, ℕ, Bool, true, false, List, [], ◌∷◌, Option, None}
use Rattle.std.specs.FinMap as fin
use Rattle.dots_core.specs.Names.{most_names}
use Rattle.dots_core.specs.declared.dot.Dot.{Dot}
use Rattle.dots_core.specs.Dots.{IsValid}
use Rattle.payload_core.specs.Presences.{Presence}
use Rattle.store_core.specs.Stores.{without}
use Rattle.store_core.specs.Delivered.{Delivered}
use Rattle.store_core.specs.ForgottenNames.{Forgotten, Holds, remembered}
use Rattle.store_core.specs.LeftEntries.{HasPlace, Left, Stood, restored, restored_delta}
use Rattle.replica_core.specs.declared.change.Change as declared
use Rattle.replica_core.specs.declared.change.Change.TheVariants as variants
use Rattle.replica_core.specs.declared.status.Status.{Status}
use Rattle.replica_core.specs.declared.status.Status.TheVariants.{Up, Down}
use Rattle.replica_core.specs.Views.{with_old}
use Rattle.replica_core.specs.Replicas.{Replica, last, own_clock, tracked_dots, joined, dropped, left, with_status, forgotten}
use Rattle.replica_core.specs.Refusals.{join_refusal, leave_refusal, up_refusal, down_refusal, permdown_refusal}
use Rattle.replica_core.specs.Delivered.{IsDelivery, with_undelivered}
use Rattle.replica_core.specs.Invariant.{IsReplica}
use Rattle.replica_core.specs.ProcessLeaves.{IsLeaveAll, with_lefts}

-- what a call destroyed
pub data Change : Type 0 where
  -- nothing: the dot of the join is the last own one
  OfJoin : Change
  -- what stood at the dot of the entry that left
  OfLeave : Left → Change
  OfUpdate : Left → Change
  -- what stood at the dots of the entries that left, by rising dot
  OfLeaveAll : List Left → Change
  -- the name, and its status before, if it was known
  OfUp : ℕ → Option Status → Change
  OfDown : ℕ → Option Status → Change
  -- the name, and what was held of it
  OfPermdown : ℕ → Forgotten → Change
  -- the dots that joined, the entries that left, and the old parts of the names whose dots changed
  OfDeliver : Delivered → Change

abbrev pub plain_change : {X : Type 0} → declared.Change X → Change
plain_change variants.Join = OfJoin
plain_change (variants.Leave left) = OfLeave left.value
plain_change (variants.LeaveAll lefts) = OfLeaveAll lefts.items
plain_change (variants.Update left) = OfUpdate left.value
plain_change (variants.Up name before) = OfUp name before
plain_change (variants.Down name before) = OfDown name before
plain_change (variants.Permdown name forgotten) = OfPermdown name forgotten.value
plain_change (variants.Deliver delivered) = OfDeliver delivered.value

-- whether the change is taken back without memory, as that of a join, an up and a down is
abbrev pub needs_no_memory : Change → Bool
needs_no_memory OfJoin = true
needs_no_memory (OfLeave l) = false
needs_no_memory (OfLeaveAll ls) = false
needs_no_memory (OfUpdate l) = false
needs_no_memory (OfUp name before) = true
needs_no_memory (OfDown name before) = true
needs_no_memory (OfPermdown name f) = false
needs_no_memory (OfDeliver d) = false

-- the replica without its last own dot, and without the entry there
abbrev pub without_last : Replica → Replica
without_last r = record r { store = without (last r) r.store; delta = without (last r) r.delta }

-- the replica with what left put back, in the store and in the delta
abbrev pub with_left : Left → Replica → Replica
with_left l r = record r { store = restored l r.store; delta = restored_delta l r.delta }

-- the name has its old status, or is not known if none is given
abbrev pub with_old_status : ℕ → Option Status → Replica → Replica
with_old_status name before r = record r { view = with_old name before r.view }

-- what was held of the name is held again, and the name is down
abbrev pub with_remembered : ℕ → Forgotten → Replica → Replica
with_remembered name f r = record r { store = remembered name f r.store; view = fin.insert r.view name Down }

-- the replica that a change leads back to
abbrev pub back : Change → Replica → Replica
back OfJoin r = without_last r
back (OfLeave l) r = with_left l (without_last r)
back (OfLeaveAll ls) r = with_lefts ls r
back (OfUpdate l) r = with_left l (without_last r)
back (OfUp name before) r = with_old_status name before r
back (OfDown name before) r = with_old_status name before r
back (OfPermdown name f) r = with_remembered name f r
back (OfDeliver d) r = with_undelivered d r

-- one accepted call of each kind takes replica a to replica b, and the change names what that call destroyed of a

pub record IsJoin (a b : Replica) : Type 0 where
  pub presence : Presence
  pub accepted : join_refusal a presence.pid presence.topic presence.key ≡ None
  pub gives : b ≡ joined presence a

pub record IsLeave (l : Left) (a b : Replica) : Type 0 where
  pub pid : ℕ
  pub topic : List ℕ
  pub key : List ℕ
  pub dot : Dot
  pub accepted : leave_refusal a pid topic key ≡ None
  pub tracked : tracked_dots a pid topic key ≡ dot ∷ []
  pub stood : Stood l dot a.store a.delta
  pub gives : b ≡ left dot a

pub record IsUpdate (l : Left) (a b : Replica) : Type 0 where
  pub presence : Presence
  pub dot : Dot
  pub accepted : leave_refusal a presence.pid presence.topic presence.key ≡ None
  pub tracked : tracked_dots a presence.pid presence.topic presence.key ≡ dot ∷ []
  pub stood : Stood l dot a.store a.delta
  pub gives : b ≡ joined presence (dropped dot a)

pub record IsUp (name : ℕ) (before : Option Status) (a b : Replica) : Type 0 where
  pub number : name < most_names
  pub accepted : up_refusal a name ≡ None
  pub stood : before ≡ fin.get a.view name
  pub gives : b ≡ with_status name Up a

pub record IsDown (name : ℕ) (before : Option Status) (a b : Replica) : Type 0 where
  pub number : name < most_names
  pub accepted : down_refusal a name ≡ None
  pub stood : before ≡ fin.get a.view name
  pub gives : b ≡ with_status name Down a

pub record IsPermdown (name : ℕ) (f : Forgotten) (a b : Replica) : Type 0 where
  pub number : name < most_names
  pub accepted : permdown_refusal a name ≡ None
  pub holds : Holds name a.store f
  pub gives : b ≡ forgotten name a

abbrev pub IsCallOf : Change → Replica → Replica → Type 0
IsCallOf OfJoin a b = IsJoin a b
IsCallOf (OfLeave l) a b = IsLeave l a b
IsCallOf (OfLeaveAll ls) a b = IsLeaveAll ls a b
IsCallOf (OfUpdate l) a b = IsUpdate l a b
IsCallOf (OfUp name before) a b = IsUp name before a b
IsCallOf (OfDown name before) a b = IsDown name before a b
IsCallOf (OfPermdown name f) a b = IsPermdown name f a b
IsCallOf (OfDeliver d) a b = IsDelivery d a b

-- the change leads from replica b back to replica a, which keeps what each replica keeps
pub record ChangeLeadsBack (change : Change) (b a : Replica) : Type 0 where
  pub call : IsCallOf change a b
  pub earlier : IsReplica a

-- what left can be put back into replica b, once its last own dot is out, which gives replica a
pub record Restorable (l : Left) (b a : Replica) : Type 0 where
  pub earlier : IsReplica a
  pub back : with_left l (without_last b) ≡ a
  pub some : 0 < own_clock b
  pub valid : IsValid l.entry.dot
  pub place : HasPlace l b.store b.delta

-- the change leads back to some replica
abbrev pub ChangeLeadsSomewhere : Change → Replica → Type 0
ChangeLeadsSomewhere change b = (a : Replica) × ChangeLeadsBack change b a

-- whichever replica the change leads back to is the new one
abbrev pub ChangeGivesBack : Change → Replica → Replica → Type 0
ChangeGivesBack change b new = (a : Replica) → ChangeLeadsBack change b a → new ≡ a

-- a change leads from a replica back to at most one: the one that `back` makes
abbrev pub BackLaw : Type 0
BackLaw = (change : Change) (b a : Replica) → ChangeLeadsBack change b a → back change b ≡ a
