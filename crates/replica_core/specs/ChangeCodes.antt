-- How a change is stored.
use mathlib.Core.Logic.{inl, inr}
use Rattle.std.specs.Prelude.{◌≡◌, ◌⊎◌, ℕ, Bool, true, false, List, Option, None, Some, refl}
use Rattle.std.specs.Coded.{Coded, code_by, coded×, coded⊎, coded_list, coded_option, coded_bool, coded_ℕ}
use Rattle.store_core.specs.StoreCodes.{delivered_code, forgotten_code, left_code}
use Rattle.store_core.specs.Delivered.{Delivered}
use Rattle.store_core.specs.ForgottenNames.{Forgotten}
use Rattle.store_core.specs.LeftEntries.{Left}
use Rattle.replica_core.specs.declared.status.Status.{Status}
use Rattle.replica_core.specs.Views.{status_code}
use Rattle.replica_core.specs.Changes.{Change, OfJoin, OfLeave, OfLeaveAll, OfUpdate, OfDeliver, OfUp, OfDown, OfPermdown}

-- what left: nothing, of a join; one entry, and whether by a leave or else by an update; or a list, of a leave all
abbrev Lefts : Type 0
Lefts = Option (Bool × Left) ⊎ List Left

-- a name with its old status, and whether by an up or else by a down; or a name with what was held of it, of a permanently down
abbrev Names : Type 0
Names = (Bool × (ℕ × Option Status)) ⊎ (ℕ × Forgotten)

abbrev Stored : Type 0
Stored = Lefts ⊎ (Names ⊎ Delivered)

abbrev stored : Change → Stored
stored OfJoin = inl (inl None)
stored (OfLeave l) = inl (inl (Some (true, l)))
stored (OfUpdate l) = inl (inl (Some (false, l)))
stored (OfLeaveAll ls) = inl (inr ls)
stored (OfUp name before) = inr (inl (inl (true, (name, before))))
stored (OfDown name before) = inr (inl (inl (false, (name, before))))
stored (OfPermdown name f) = inr (inl (inr (name, f)))
stored (OfDeliver d) = inr (inr d)

abbrev of_left : Bool → Left → Change
of_left true l = OfLeave l
of_left false l = OfUpdate l

abbrev of_status : Bool → ℕ → Option Status → Change
of_status true name before = OfUp name before
of_status false name before = OfDown name before

abbrev from_stored : Stored → Change
from_stored (inl (inl None)) = OfJoin
from_stored (inl (inl (Some t))) = of_left t.0 t.1
from_stored (inl (inr ls)) = OfLeaveAll ls
from_stored (inr (inl (inl t))) = of_status t.0 t.1.0 t.1.1
from_stored (inr (inl (inr t))) = OfPermdown t.0 t.1
from_stored (inr (inr d)) = OfDeliver d

abbrev from_stored-stored : (c : Change) → from_stored (stored c) ≡ c
from_stored-stored OfJoin = refl
from_stored-stored (OfLeave l) = refl
from_stored-stored (OfUpdate l) = refl
from_stored-stored (OfLeaveAll ls) = refl
from_stored-stored (OfUp name before) = refl
from_stored-stored (OfDown name before) = refl
from_stored-stored (OfPermdown name f) = refl
from_stored-stored (OfDeliver d) = refl

-- a change is stored by its kind
abbrev pub change_code : Coded Change
change_code =
    code_by Stored
    (coded⊎ (coded⊎ (coded_option (coded× coded_bool left_code)) (coded_list left_code))
    (coded⊎ (coded⊎ (coded× coded_bool (coded× coded_ℕ (coded_option status_code))) (coded× coded_ℕ forgotten_code)) delivered_code))
    stored from_stored from_stored-stored
