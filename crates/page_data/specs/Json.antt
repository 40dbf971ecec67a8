-- JSON text in which no `<` stands.
use Rattle.std.specs.Prelude.{ℕ, ◌/◌, ◌%◌, nat_lt, ◌==◌, ◌||◌, if◌then◌else◌, List, [], ◌∷◌, ◌++◌, length, chars, codes, decimal, encode_utf8, Option, Some, None}
use Rattle.std.specs.List.{flat_map}
use Rattle.std.specs.Char.{digit_char}

-- a byte by its number, as in `\u003c`
unfoldable pub escaped_byte : ℕ → List ℕ
escaped_byte b = codes "\\u00" ++ digit_char (b / 16 % 16) ∷ digit_char (b % 16) ∷ []

-- a character of a string: `"` and a backslash get a backslash before them; `<`, and each character below a space, becomes a number; each
-- other one stays
unfoldable pub string_char : ℕ → List ℕ
string_char c =
    if c == 34 then codes "\\\"" else (if c == 92 then codes "\\\\" else (if (c == 60) || nat_lt c 32 then escaped_byte c else encode_utf8 c))

-- what stands between the quotation marks of a string
unfoldable pub string_chars : List ℕ → List ℕ
string_chars text = flat_map string_char (chars text)

unfoldable pub string_text : List ℕ → List ℕ
string_text text = codes "\"" ++ string_chars text ++ codes "\""

-- a comma, except before the first
abbrev pub comma_at : ℕ → List ℕ
comma_at place = if place == 0 then [] else codes ","

-- each number after a comma
unfoldable pub more_numbers : List ℕ → List ℕ
more_numbers numbers = flat_map (λ n. codes "," ++ decimal n) numbers

-- the numbers, separated by commas
unfoldable pub numbers_text : List ℕ → List ℕ
numbers_text [] = []
numbers_text (n ∷ numbers) = decimal n ++ more_numbers numbers

-- `,"KEY":NUMBER`
unfoldable pub number_key : List ℕ → ℕ → List ℕ
number_key key number = codes ",\"" ++ key ++ codes "\":" ++ decimal number

-- `,"KEY":NUMBER`, if there is a number
abbrev pub number_key_if : List ℕ → Option ℕ → List ℕ
number_key_if key None = []
number_key_if key (Some number) = number_key key number

-- `,"KEY":[NUMBER,..]`, if there are any
unfoldable pub numbers_key : List ℕ → List ℕ → List ℕ
numbers_key key numbers = if length numbers == 0 then [] else codes ",\"" ++ key ++ codes "\":[" ++ numbers_text numbers ++ codes "]"

-- `,"KEY":"TEXT"`
unfoldable pub text_key : List ℕ → List ℕ → List ℕ
text_key key text = codes ",\"" ++ key ++ codes "\":" ++ string_text text
