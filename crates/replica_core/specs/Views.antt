-- Which names a replica knows, and the status of each (Phoenix.Tracker.State: the statuses of its replicas).
use Rattle.std.specs.Prelude.{◌≡◌, ℕ, Bool, true, false, List, [], ◌∷◌, Option, None, Some, refl}
use Rattle.std.specs.Coded.{Coded, code_by, coded_ℕ, coded_bool}
use Rattle.std.specs.Ordering.{nat_cmp}
use Rattle.std.specs.FinMap as fin
use Rattle.std.specs.FinSet as set
use Rattle.dots_core.specs.Names.{Names}
use Rattle.replica_core.specs.declared.status.Status.{Status}
use Rattle.replica_core.specs.declared.status.Status.TheVariants.{Up, Down}

-- a map from names to statuses; a name in it is known
abbrev pub View : Type 0
View = fin.FinMap nat_cmp Status

-- whether a status is up
abbrev pub is_up : Status → Bool
is_up Up = true
is_up Down = false

-- up or down, by a test
abbrev pub status_by : Bool → Status
status_by true = Up
status_by false = Down

-- whether a name is known and up
abbrev pub is_some_up : Option Status → Bool
is_some_up None = false
is_some_up (Some s) = is_up s

-- the names that the view has
abbrev pub known_of : View → Names
known_of view = set.from_list (fin.keys view)

-- these are the names that the view has
abbrev pub AreKnown : View → Names → Type 0
AreKnown view names = (n : ℕ) → set.contains names n ≡ fin.contains_key view n

-- the view that knows the names of the list: as up those among `up`, and as down the others
abbrev pub view_of : List ℕ → Names → View
view_of [] up = fin.empty
view_of (n ∷ ns) up = fin.insert (view_of ns up) n (status_by (set.contains up n))

-- each name that is up is known
abbrev pub AreUpKnown : Names → Names → Type 0
AreUpKnown known up = (n : ℕ) → set.contains up n ≡ true → set.contains known n ≡ true

-- a status comes back from whether it is up
pub by_up : (s : Status) → status_by (is_up s) ≡ s
by_up Up = refl
by_up Down = refl

-- a status is stored as whether it is up
abbrev pub status_code : Coded Status
status_code = code_by Bool coded_bool is_up status_by by_up

-- a view is stored as the list of its pairs
abbrev pub view_code : Coded View
view_code = fin.code coded_ℕ status_code

-- the name has this status, or is not known if none is given
abbrev pub with_old : ℕ → Option Status → View → View
with_old name None view = fin.remove view name
with_old name (Some s) view = fin.insert view name s
