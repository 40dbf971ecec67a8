use Rattle.std.proofs.Common.{◌≡◌, ◌++◌, flat_map, string_bytes}
use Rattle.page_data.specs.Json.{string_char}
use Rattle.page_data.proofs.json.put_chars.Given as goal

-- the characters so far
abbrev pub invariant-loop-c : goal.invariant-loop-c
invariant-loop-c g l = string_bytes l.text ≡ string_bytes l.fn.text ++ flat_map string_char l.yielded
