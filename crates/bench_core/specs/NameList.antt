-- The names of the nodes, as the list of their texts.
use Rattle.std.specs.Prelude.{ℕ, ◌+◌, List, [], ◌∷◌, ◌++◌, length, position, Option, Result, Ok, Err, not, nat_lt, ◌==◌, ◌||◌, if◌then◌else◌}
use Rattle.std.specs.List.{list_any}
use Rattle.std.specs.Str.{bytes_eq}
use Rattle.dots_core.specs.Names.{most_names}
use Rattle.payload_core.specs.Results.{◌>>=◌}
use Rattle.bench_core.specs.NameText.{is_name}
use Rattle.bench_core.specs.declared.names_fault.NamesFault.{NamesFault}
use Rattle.bench_core.specs.declared.names_fault.NamesFault.TheVariants.{WrongCount, BadName, Twice}

abbrev pub Texts : Type 0
Texts = List (List ℕ)

-- the names with one more at the end, or its fault
abbrev pub with_name : Texts → List ℕ → Result Texts NamesFault
with_name before text =
    if not (is_name text) then Err (BadName (length before + 1))
    else (if list_any (bytes_eq text) before then Err (Twice (length before + 1))
    else Ok (before ++ text ∷ []))

-- the names with each of these at the end, or the first fault
abbrev pub with_names : Texts → Texts → Result Texts NamesFault
with_names before [] = Ok before
with_names before (text ∷ texts) = do
  next ← with_name before text
  with_names next texts

-- 1 to 32 names, or their first fault
abbrev pub names_of : Texts → Result Texts NamesFault
names_of texts = if (length texts == 0) || nat_lt most_names (length texts) then Err WrongCount else with_names [] texts

-- the number of a name: its place, from 0
abbrev pub number_in : Texts → List ℕ → Option ℕ
number_in texts text = position (bytes_eq text) texts
