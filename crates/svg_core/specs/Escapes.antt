-- Texts as they stand in XML.
use Rattle.std.specs.Prelude.{ℕ, Bool, List, [], ◌∷◌, codes, not, nat_le, ◌==◌, ◌&&◌, ◌||◌, if◌then◌else◌}
use Rattle.std.specs.List.{flat_map}

-- a space or a visible character of ASCII
abbrev pub is_printed : ℕ → Bool
is_printed c = nat_le 32 c && nat_le c 126

-- a character with a meaning of its own: ", &, ', < or >
abbrev pub is_special : ℕ → Bool
is_special c = (c == 34) || (c == 38) || (c == 39) || (c == 60) || (c == 62)

-- a character that stands for itself, line feeds among them
abbrev pub is_plain : ℕ → Bool
is_plain c = ((c == 10) || is_printed c) && not (is_special c)

-- what stands for any other byte: the name of its character, or `?` if it has none
abbrev pub stand_in : ℕ → List ℕ
stand_in c =
    if c == 34 then codes "&quot;"
    else (if c == 38 then codes "&amp;"
    else (if c == 39 then codes "&apos;"
    else (if c == 60 then codes "&lt;"
    else (if c == 62 then codes "&gt;"
    else codes "?"))))

abbrev pub escape : ℕ → List ℕ
escape c = if is_plain c then c ∷ [] else stand_in c

-- the text as it stands in XML, byte by byte
unfoldable pub escaped : List ℕ → List ℕ
escaped text = flat_map escape text
