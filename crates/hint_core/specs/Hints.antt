-- A hint, and how it is printed as a line.
use Rattle.std.specs.Prelude.{ℕ, nat_le, List, ◌++◌, length, take, codes, decimal, if◌then◌else◌}
use Rattle.hint_core.specs.declared.hint.Hint.{Hint as CodeHint}
use Rattle.hint_core.specs.declared.hint.Hint.TheVariants as hints

-- a text alone; a hint about a word of the line, which stands between two texts; one about a byte of the line, by its place from
-- 1; one about a byte that can't be in a name, by its word and its place there
pub data Hint : Type 0 where
  Plain : (text : List ℕ) → Hint
  About : (before word after : List ℕ) → Hint
  Byte : (place byte : ℕ) (after : List ℕ) → Hint
  Letter : (word : List ℕ) (place : ℕ) → Hint

abbrev pub plain_hint : CodeHint → Hint
plain_hint (hints.Plain text) = Plain text.now
plain_hint (hints.About before word after) = About before.now word.now after.now
plain_hint (hints.Byte place byte after) = Byte place byte after.now
plain_hint (hints.Letter word place) = Letter word.now place

-- the most bytes that are shown of a word
abbrev pub longest_shown : ℕ
longest_shown = 32

-- a word as it is shown: in quotes, and only the beginning of a long one
abbrev pub shown : List ℕ → List ℕ
shown word = if nat_le (length word) longest_shown then codes "`" ++ word ++ codes "`" else codes "`" ++ take longest_shown word ++ codes "..`"

abbrev pub byte_body : ℕ → ℕ → List ℕ → List ℕ
byte_body place byte after = (codes "byte " ++ decimal place ++ codes " of the line is ") ++ (decimal byte ++ after)

abbrev pub letter_tail : ℕ → List ℕ
letter_tail place = codes " is no name: byte " ++ decimal place ++ codes " of it is none of a-z, 0-9 and _"

abbrev pub body : Hint → List ℕ
body (Plain text) = text
body (About before word after) = before ++ shown word ++ after
body (Byte place byte after) = byte_body place byte after
body (Letter word place) = shown word ++ letter_tail place

-- the line of a hint, with its line feed
unfoldable pub line_of : Hint → List ℕ
line_of hint = codes "hint: " ++ body hint ++ codes "\n"
