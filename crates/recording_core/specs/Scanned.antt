-- What a session's compact text says, part by part.
use Rattle.std.specs.Prelude.{◌≡◌, ℕ, ◌++◌, List, ◌∷◌, map, codes, true, Ok}
use Rattle.serde_json.specs.Data.{Members, no_members, member, string}
use Rattle.std.specs.List.{AllByRecursion}
use Rattle.json.specs.Print.{quoted}
use Rattle.serde_json.specs.Written.{compact_text, members_text}
use Rattle.json_core.specs.Compact.{IsWhole}
use Rattle.bench_core.specs.Limits.{Limits, AreLimits}
use Rattle.bench_core.specs.NameList.{Texts, names_of}
use Rattle.bench_core.specs.Machine.{Event}
use Rattle.event_core.specs.Format.{event_json, list, whole}
use Rattle.event_core.specs.Told.{IsTold}
use Rattle.recording_core.specs.Decoding.{Parts}
use Rattle.recording_core.specs.Format.{limits_json, session}

-- a session's members behind its limits
abbrev pub last_members : Texts → ℕ → Members
last_members texts version = member (codes "nodes") (list (map string texts)) (member (codes "version") (whole version) no_members)

-- the text is that of the texts of these names and of the version, and of the brace that closes the session
pub record HasNames (text : List ℕ) (names : Texts) (version : ℕ) : Type 0 where
  pub texts : Texts
  pub names_are : names_of texts ≡ Ok names
  pub text_is : text ≡ members_text true (last_members texts version)
  pub names_whole : IsWhole (list (map string texts))
  pub version_whole : IsWhole (whole version)

-- the text is that of all members behind the acts, with these limits, names and version, and of the brace that closes the session
pub record IsEnd (text : List ℕ) (limits : Limits) (names : Texts) (version : ℕ) : Type 0 where
  pub rest : List ℕ
  pub has_names : HasNames rest names version
  pub limits_are : AreLimits limits
  pub text_is : text ≡ 44 ∷ (quoted (codes "limits") ++ 58 ∷ (compact_text (limits_json limits) ++ rest))
  pub limits_whole : IsWhole (limits_json limits)

-- the text is the compact text of a session, which tells these parts and events
pub record IsCompact (text : List ℕ) (version : ℕ) (p : Parts) (events : List Event) : Type 0 where
  pub texts : Texts
  pub text_is : text ≡ compact_text (session version texts p.limits events)
  pub names_are : names_of texts ≡ Ok p.names
  pub limits_are : AreLimits p.limits
  pub told : AllByRecursion IsTold events
  pub acts_whole : IsWhole (list (map event_json events))
  pub limits_whole : IsWhole (limits_json p.limits)
  pub names_whole : IsWhole (list (map string texts))
  pub version_whole : IsWhole (whole version)
