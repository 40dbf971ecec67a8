use Rattle.std.proofs.Common.{◌≡◌, ◌++◌, take, string_bytes}
use Rattle.page_data.specs.Json.{more_numbers}
use Rattle.page_data.proofs.json.put_more.Given as goal

-- the numbers so far
abbrev pub invariant-loop-number : goal.invariant-loop-number
invariant-loop-number g l = string_bytes l.text ≡ string_bytes l.fn.text ++ more_numbers (take l.number-index l.numbers)
