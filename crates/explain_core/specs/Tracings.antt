-- Presences with the tracks of their dots.
use Rattle.std.specs.Prelude.{◌≡◌, ℕ, false, List}
use Rattle.std.specs.List.{All}
use Rattle.journal_core.specs.Journals.{Kept}
use Rattle.bench_core.specs.Machine.{Machine}
use Rattle.explain_core.specs.Tracks.{Track, followed, no_track, reaches, track_from, track_of}
use Rattle.explain_core.specs.declared.making.Making.{Making}

-- a presence that a step made, and the track of its dot, as far as the steps were followed
pub record Traced : Type 0 where
  pub making : Making
  pub track : Track

-- the presence before the first step
abbrev pub untraced : ℕ → Making → Traced
untraced nodes making = record { making = making; track = no_track nodes }

-- the presence after a step, on the machine after it
abbrev pub traced_on : Machine → Kept → Traced → Traced
traced_on asked k t = record { making = t.making; track = followed t.making.dot asked k t.track }

-- the presence after these steps, which the machine takes
abbrev pub traced_from : Machine → List Kept → Traced → Traced
traced_from asked ks t = record { making = t.making; track = track_from t.making.dot asked ks t.track }

-- the presence after all steps
abbrev pub traced_of : Machine → Making → Traced
traced_of m making = record { making = making; track = track_of m making.dot }

-- a step that doesn't reach the dot leaves the presence as it is
abbrev pub IsLeft : Machine → Kept → Traced → Type 0
IsLeft asked k t = reaches asked k t.making.dot ≡ false → traced_on asked k t ≡ t

abbrev pub AreLeft : Machine → Kept → List Traced → Type 0
AreLeft asked k ts = All (IsLeft asked k) ts
