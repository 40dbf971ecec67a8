-- Words that are short enough to be stored inline, and entries whose words all are; lists may share such entries.
use Rattle.std.specs.Prelude.{ℕ, ◌≤◌, List, length}
use Rattle.entry_core.specs.Presences.{Entry}

-- the text has at most 14 bytes, and so is stored inline
abbrev pub IsShortText : List ℕ → Type 0
IsShortText text = length text ≤ 14

-- each word of the entry has at most 14 bytes, and so is stored inline
pub record IsShort (e : Entry) : Type 0 where
  pub topic : length e.topic ≤ 14
  pub key : length e.key ≤ 14
  pub metadata : length e.metadata ≤ 14
