-- Trees of elements, and their text.
use Rattle.std.specs.Prelude.{ℕ, Bool, true, false, List, [], ◌∷◌, ◌++◌, map, codes, not, nat_le, ◌&&◌, ◌||◌, ◌==◌}
use Rattle.std.specs.List.{flat_map, list_all, list_any}
use Rattle.std.specs.Str.{bytes_eq}
use Rattle.svg_core.specs.Escapes.{escaped}

pub record Attribute : Type 0 where
  pub name : List ℕ
  pub value : List ℕ

-- what stands side by side: texts, and elements with what they hold
pub data Tree : Type 0 where
  Nothing : Tree
  Text : (text : List ℕ) (more : Tree) → Tree
  Element : (tag : List ℕ) (attributes : List Attribute) (children more : Tree) → Tree

-- one tree, and then another
abbrev pub beside : Tree → Tree → Tree
beside Nothing next = next
beside (Text text more) next = Text text (beside more next)
beside (Element tag attributes children more) next = Element tag attributes children (beside more next)

abbrev pub element : List ℕ → List Attribute → Tree → Tree
element tag attributes children = Element tag attributes children Nothing

-- an element that holds a text
abbrev pub leaf : List ℕ → List Attribute → List ℕ → Tree
leaf tag attributes text = element tag attributes (Text text Nothing)

-- ` NAME="VALUE"`
abbrev pub attribute_text : Attribute → List ℕ
attribute_text a = codes " " ++ a.name ++ codes "=\"" ++ a.value ++ codes "\""

unfoldable pub attributes_text : List Attribute → List ℕ
attributes_text attributes = flat_map attribute_text attributes

-- `<TAG NAME="VALUE" ..>`
unfoldable pub start_text : List ℕ → List Attribute → List ℕ
start_text tag attributes = codes "<" ++ tag ++ attributes_text attributes ++ codes ">"

-- `</TAG>`
unfoldable pub end_text : List ℕ → List ℕ
end_text tag = codes "</" ++ tag ++ codes ">"

-- the attribute, with its value as it stands in XML
abbrev pub escaped_attribute : Attribute → Attribute
escaped_attribute a = record { name = a.name; value = escaped a.value }

unfoldable pub opening_text : List ℕ → List Attribute → List ℕ
opening_text tag attributes = start_text tag (map escaped_attribute attributes)

unfoldable pub text_of : Tree → List ℕ
text_of Nothing = []
text_of (Text text more) = escaped text ++ text_of more
text_of (Element tag attributes children more) = opening_text tag attributes ++ text_of children ++ end_text tag ++ text_of more

-- a letter of ASCII
abbrev pub is_letter : ℕ → Bool
is_letter c = (nat_le 65 c && nat_le c 90) || (nat_le 97 c && nat_le c 122)

-- a letter, a digit or a dash
abbrev pub is_name_byte : ℕ → Bool
is_name_byte c = is_letter c || (nat_le 48 c && nat_le c 57) || (c == 45)

-- a letter, and then bytes of a name
abbrev pub is_name : List ℕ → Bool
is_name [] = false
is_name (c ∷ cs) = is_letter c && list_all is_name_byte cs

-- whether no two of these are equal
abbrev pub are_different : List (List ℕ) → Bool
are_different [] = true
are_different (x ∷ xs) = not (list_any (bytes_eq x) xs) && are_different xs

-- whether these are names, and no two of them are the same
abbrev pub are_names : List (List ℕ) → Bool
are_names names = list_all is_name names && are_different names

abbrev pub have_names : List Attribute → Bool
have_names attributes = are_names (map (λ a. a.name) attributes)

-- whether each tag is a name, and the attributes of each element have names, no two of them the same
unfoldable pub is_named : Tree → Bool
is_named Nothing = true
is_named (Text text more) = is_named more
is_named (Element tag attributes children more) = is_name tag && have_names attributes && is_named children && is_named more
