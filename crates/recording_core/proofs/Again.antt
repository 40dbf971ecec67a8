-- A session's value, by its parts.
use Rattle.std.proofs.Common.{◌≡◌, ℕ, List, [], ◌∷◌, map, true, Some, Ok, refl, ap, ◌∙◌}
use Rattle.std.specs.Prelude.{option_and_then}
use Rattle.std.proofs.lemmas.Bool.{le-leb}
use Rattle.serde_json.specs.Data.{string}
use Rattle.serde_json.specs.View.{items_of}
use Rattle.bench_core.specs.Limits.{Limits, AreLimits}
use Rattle.bench_core.specs.Machine.{Event}
use Rattle.bench_core.specs.NameList.{Texts, names_of}
use Rattle.event_core.specs.Decoding.{◌>>=◌}
use Rattle.recording_core.specs.Format.{limits_json, session}
use Rattle.recording_core.specs.Decoding.{Parts, are_limits, if_ok, limits_at, names_at, parts_at, texts_of, values_at}

texts_again : (texts : Texts) → texts_of (items_of (map string texts)) ≡ Some texts
texts_again [] = refl
texts_again (text ∷ texts) = ap (λ o. o >>= λ rest. Some (text ∷ rest)) (texts_again texts)

names_at_again : (texts names : Texts) → names_of texts ≡ Ok names → names_at (items_of (map string texts)) ≡ Some names
names_at_again texts names is = ap (option_and_then (λ texts. if_ok (names_of texts))) (texts_again texts) ∙ ap if_ok is

are_in_range : (l : Limits) → AreLimits l → are_limits l ≡ true
are_in_range l r = rw (
  le-leb 1 l.acts r.acts_some,
  le-leb l.acts 1000000 r.acts_few,
  le-leb 1 l.entries r.entries_some,
  le-leb l.entries 100000 r.entries_few,
  le-leb 1 l.clock r.clock_some,
  le-leb l.clock 1000000000 r.clock_few,
  le-leb 1 l.messages r.messages_some,
  le-leb l.messages 100000 r.messages_few,
) refl

limits_again : (l : Limits) → AreLimits l → limits_at (limits_json l) ≡ Some l
unfolding limits_at
limits_again l r = rw (are_in_range l r) refl

abbrev pub parts : Texts → Limits → Parts
parts names limits = record { limits = limits; names = names }

pub parts_again : (version : ℕ) (texts names : Texts) (limits : Limits) (events : List Event) → names_of texts ≡ Ok names → AreLimits limits →
    parts_at (session version texts limits events) ≡ Some (parts names limits)
unfolding parts_at values_at
parts_again version texts names limits events is within = rw (names_at_again texts names is, limits_again limits within) refl
