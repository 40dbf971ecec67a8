use Rattle.std.proofs.Common.{◌≡◌, ◌++◌, true, drop}
use Rattle.transcript_core.specs.Steps.{indented}
use Rattle.transcript_core.proofs.steps.put_indented.Given as goal

-- the bytes so far, and then those that are left
abbrev pub invariant-loop-byte : goal.invariant-loop-byte
invariant-loop-byte g l = l.out.items ++ indented l.begins (drop l.byte-index l.text) ≡ l.fn.out.items ++ indented true l.text
