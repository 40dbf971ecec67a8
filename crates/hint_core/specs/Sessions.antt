-- What the first bytes of an input tell, and the hint of a session that is no JSON.
use Rattle.std.specs.Prelude.{ℕ, ◌==◌, ◌&&◌, ◌||◌, Bool, true, false, List, [], ◌∷◌, codes, if◌then◌else◌}
use Rattle.hint_core.specs.Hints.{Hint, Plain}

-- a space, a tab, a line feed or a carriage return
abbrev pub is_space : ℕ → Bool
is_space byte = (byte == 32) || (byte == 9) || (byte == 10) || (byte == 13)

-- whether all bytes are white space
abbrev pub is_blank : List ℕ → Bool
is_blank [] = true
is_blank (byte ∷ bytes) = if is_space byte then is_blank bytes else false

-- whether the first byte that isn't white space is `{`
abbrev pub begins_object : List ℕ → Bool
begins_object [] = false
begins_object (byte ∷ bytes) = if is_space byte then begins_object bytes else byte == 123

-- whether the bytes begin with a byte order mark, which has three bytes
abbrev pub is_marked : List ℕ → Bool
is_marked (a ∷ b ∷ c ∷ rest) = (a == 239) && (b == 187) && (c == 191)
is_marked _ = false

-- the hint of a session that is no JSON, by how it begins
unfoldable pub session_hint : List ℕ → Hint
session_hint bytes =
    if is_blank bytes then Plain (codes "the input is empty; `play --as session` prints a session")
    else (if is_marked bytes then Plain (codes "the input begins with a byte order mark; save it without one")
    else (if begins_object bytes then Plain (codes "a session is one object, as `play --as session` prints it; `import` takes events")
    else Plain (codes "a session begins with `{`, and this input doesn't; `play` takes scripts")))
