-- The time of an event: what its line has under `time`, if that is a string or a number.
use Rattle.std.specs.Prelude.{◌≡◌, ◌⊎◌, ℕ, List, codes, Option, Some, None}
use Rattle.serde_json.specs.Data.{Data, Num}
use Rattle.serde_json.specs.Find.{as_number, as_str, get}
use Rattle.log_core.specs.Lines.{IsValueOf}
use Rattle.import_core.specs.Tables.{IsTextOf}

-- the time of a value: a string's own bytes, or a text of a number; other values give no time
abbrev pub IsTimeBy : Option (List ℕ) → Option Num → Data → Option (List ℕ) → Type 0
IsTimeBy (Some bytes) number d time = time ≡ Some bytes
IsTimeBy None (Some number) d time = (text : List ℕ) × IsTextOf d text × (time ≡ Some text)
IsTimeBy None None d time = time ≡ None

abbrev pub IsTimeIn : Option Data → Option (List ℕ) → Type 0
IsTimeIn None time = time ≡ None
IsTimeIn (Some d) time = IsTimeBy (as_str d) (as_number d) d time

-- the time that the value of a line has, under `time`
abbrev pub IsTimeOf : Data → Option (List ℕ) → Type 0
IsTimeOf d time = IsTimeIn (get (codes "time") d) time

-- the time that a line has; a line without a value has none
abbrev pub IsTimeOn : List ℕ → Option (List ℕ) → Type 0
IsTimeOn line time = ((d : Data) × IsValueOf line (Some d) × IsTimeOf d time) ⊎ (((d : Data) → ¬ IsValueOf line (Some d)) × (time ≡ None))
