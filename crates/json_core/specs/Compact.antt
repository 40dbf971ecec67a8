-- Compact JSON, the text of a value with no space in it, from its front on.
use Rattle.std.specs.Prelude.{◌≡◌, ℕ, ◌<◌, ◌^◌, ◌==◌, ◌&&◌, ◌++◌, Bool, true, false, not, nat_le, List, [], ◌∷◌, length, ⊤}
use Rattle.json.specs.Print.{escape}
use Rattle.serde_json.specs.Data.{Data, null, boolean, number, unsigned, negative, float, string, array, object, Items, no_items, item}
use Rattle.serde_json.specs.View.{items_of}
use Rattle.serde_json.specs.Written.{comma_if, compact_text, items_text}

-- whether the byte stands in a JSON string without an escape: it is no control character, no quote and no backslash
abbrev pub is_plain : ℕ → Bool
is_plain byte = nat_le 32 byte && not (byte == 34) && not (byte == 92)

-- what is read of a string grows by a run, of which the text is the beginning, with its escapes
pub record IsRun (text old new rest : List ℕ) : Type 0 where
  pub run : List ℕ
  pub some : 0 < length run
  pub text_is : text ≡ escape run ++ rest
  pub new_is : new ≡ old ++ run

-- a value of lists, strings and whole numbers below 2^64, with no object in it
abbrev mutual
  pub IsWhole : Data → Type 0
  IsWhole null = ⊥
  IsWhole (boolean b) = ⊥
  IsWhole (number (unsigned n)) = n < 2 ^ 64
  IsWhole (number (negative z)) = ⊥
  IsWhole (number (float x)) = ⊥
  IsWhole (string s) = ⊤
  IsWhole (array ds) = AreWhole ds
  IsWhole (object ms) = ⊥

  pub AreWhole : Items → Type 0
  AreWhole no_items = ⊤
  AreWhole (item d ds) = IsWhole d × AreWhole ds

-- the text is that of the value, and then rest
abbrev pub IsFront : List ℕ → Data → List ℕ → Type 0
IsFront text d rest = (text ≡ compact_text d ++ rest) × IsWhole d

-- the text is a comma, then that of the value, and then rest
abbrev pub IsNext : List ℕ → Data → List ℕ → Type 0
IsNext text d rest = (text ≡ 44 ∷ (compact_text d ++ rest)) × IsWhole d

-- the text is that of a list's last items, each behind a comma, and of the bracket that closes the list, and then rest
abbrev pub AreLast : List ℕ → List Data → List ℕ → Type 0
AreLast text ds rest = (text ≡ items_text true (items_of ds) ++ rest) × AreWhole (items_of ds)

-- the text of these items of a list, each behind a comma, but, if they are its first, not the first of them
abbrev pub listed : Bool → List Data → List ℕ
listed later [] = []
listed later (d ∷ ds) = comma_if later ++ (compact_text d ++ listed true ds)

-- what stands before the next item of a list, behind these
abbrev pub comma_behind : List Data → List ℕ
comma_behind [] = []
comma_behind (d ∷ ds) = 44 ∷ []

-- the text is that of a list's first items, and then rest; `comma` stands before the next item
pub record AreFirst (text : List ℕ) (ds : List Data) (comma rest : List ℕ) : Type 0 where
  pub text_is : text ≡ listed false ds ++ rest
  pub comma_is : comma ≡ comma_behind ds
  pub whole : AreWhole (items_of ds)
