-- What stands at a place of a JSON list.
use Rattle.std.specs.Prelude.{ℕ, List, Bool, Option, option_and_then, is_none}
use Rattle.serde_json.specs.Data.{Data}
use Rattle.serde_json.specs.Find.{at, as_str, as_number, as_u64}

abbrev pub number_in : ℕ → Data → Option ℕ
number_in i d = option_and_then as_u64 (option_and_then as_number (at i d))

abbrev pub text_in : ℕ → Data → Option (List ℕ)
text_in i d = option_and_then as_str (at i d)

-- whether nothing stands at this place, so a list has no more items
abbrev pub ends_at : ℕ → Data → Bool
ends_at i d = is_none (at i d)
