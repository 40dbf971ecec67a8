-- The JSON value of a session.
use Rattle.std.specs.Prelude.{ℕ, List, [], ◌∷◌, map, codes}
use Rattle.serde_json.specs.Data.{Data, string, object, no_members, member}
use Rattle.bench_core.specs.Limits.{Limits}
use Rattle.bench_core.specs.Machine.{Event}
use Rattle.bench_core.specs.NameList.{Texts}
use Rattle.event_core.specs.Format.{list, whole, event_json}

abbrev pub limits_json : Limits → Data
limits_json l = list (whole l.acts ∷ whole l.entries ∷ whole l.clock ∷ whole l.messages ∷ [])

-- the session of these names, limits and events, in the form of this version
abbrev pub session : ℕ → Texts → Limits → List Event → Data
session version names limits events = object (
    member (codes "acts") (list (map event_json events)) (
    member (codes "limits") (limits_json limits) (
    member (codes "nodes") (list (map string names)) (
    member (codes "version") (whole version) no_members))))
