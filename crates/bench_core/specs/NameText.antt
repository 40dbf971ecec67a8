-- What may be the name of a node.
use Rattle.std.specs.Prelude.{ℕ, Bool, List, length, nat_le, nat_lt, false, if◌then◌else◌, ◌==◌, ◌&&◌, ◌||◌}
use Rattle.std.specs.List.{list_all}

-- a-z, 0-9 or _
abbrev pub is_name_byte : ℕ → Bool
is_name_byte b = (nat_le 97 b && nat_le b 122) || (nat_le 48 b && nat_le b 57) || (b == 95)

-- the length of the longest names, in bytes
abbrev pub longest_name : ℕ
longest_name = 16

-- 1 to `longest_name` bytes of `a-z0-9_`
abbrev pub is_name : List ℕ → Bool
is_name text = if (length text == 0) || nat_lt longest_name (length text) then false else list_all is_name_byte text
