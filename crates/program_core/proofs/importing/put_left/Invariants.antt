use Rattle.std.proofs.Common.{◌≡◌, ◌++◌, take, string_bytes}
use Rattle.program_core.specs.Imported.{left_lines}
use Rattle.program_core.proofs.importing.put_left.Given as goal

-- the lines so far
abbrev pub invariant-loop-line : goal.invariant-loop-line
invariant-loop-line g l = string_bytes l.text ≡ string_bytes l.fn.text ++ left_lines (take l.line-index l.left_out)
