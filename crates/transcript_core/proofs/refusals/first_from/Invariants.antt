use Rattle.std.proofs.Common.{◌≡◌, drop}
use Rattle.grammar_core.specs.Scripts.{plain_lines}
use Rattle.transcript_core.specs.Refusals.{first_from}
use Rattle.transcript_core.proofs.refusals.first_from.Given as goal

-- none was refused so far: the first is that of the lines that are left
abbrev pub invariant-loop-line : goal.invariant-loop-line
invariant-loop-line g l = first_from l.bench (plain_lines (drop l.line-index l.lines)) ≡ first_from l.fn.bench (plain_lines l.lines)
