-- Where a word keeps its text. No contract of a public function cites this module.
use Rattle.std.specs.Prelude.{◌≡◌, ℕ, ◌<◌, ◌≤◌, List, length, take}
use Rattle.std.specs.Arc.{arc_str_bytes}
use Rattle.entry_core.specs.declared.word.Text.{Text}
use Rattle.entry_core.specs.declared.word.Text.TheVariants.{Short, Long}

module _ {Z : Type 0} where
  abbrev pub text_bytes : Text Z → List ℕ
  text_bytes (Short s) = take s.len s.bytes
  text_bytes (Long t) = arc_str_bytes t

  -- a text of at most 14 bytes is stored inline, in a field of 14 bytes; a longer one isn't stored inline
  abbrev pub IsPlaced : Text Z → Type 0
  IsPlaced (Short s) = (s.len ≤ 14) × (length s.bytes ≡ 14)
  IsPlaced (Long t) = 14 < length (arc_str_bytes t)
