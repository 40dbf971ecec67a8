-- JSON in ASCII, where each character that is neither a visible byte nor a space is escaped.
use Rattle.std.specs.Prelude.{ℕ, ◌+◌, ◌-◌, ◌/◌, ◌%◌, nat_le, nat_lt, ◌==◌, ◌&&◌, ◌||◌, if◌then◌else◌, List, [], ◌∷◌, ◌++◌, chars}
use Rattle.std.specs.List.{flat_map}
use Rattle.std.specs.Char.{digit_char}

-- a unit of UTF-16, as in `\u00e9`
unfoldable pub escaped_unit : ℕ → List ℕ
escaped_unit unit =
    92 ∷ 117 ∷ digit_char (unit / 4096 % 16) ∷ digit_char (unit / 256 % 16) ∷ digit_char (unit / 16 % 16) ∷ digit_char (unit % 16) ∷ []

-- the units of a character: one, or two if it has more than 16 bits
unfoldable pub escaped_char : ℕ → List ℕ
escaped_char c =
    if nat_lt c 65536 then escaped_unit c else escaped_unit (55296 + (c - 65536) / 1024) ++ escaped_unit (56320 + (c - 65536) % 1024)

unfoldable pub ascii_char : ℕ → List ℕ
ascii_char c = if nat_le 32 c && nat_le c 126 then c ∷ [] else escaped_char c

-- in a string a backslash stands before `"` and before another backslash
unfoldable pub string_char : ℕ → List ℕ
string_char c = if (c == 34) || (c == 92) then 92 ∷ c ∷ [] else ascii_char c

-- the text of a value
abbrev pub ascii_text : List ℕ → List ℕ
ascii_text text = flat_map ascii_char (chars text)

-- what stands between the quotation marks of a string
abbrev pub string_text : List ℕ → List ℕ
string_text text = flat_map string_char (chars text)
