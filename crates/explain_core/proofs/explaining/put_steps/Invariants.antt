use Rattle.std.proofs.Common.{◌≡◌, ◌++◌, take, string_bytes}
use Rattle.explain_core.specs.Explanations.{step_lines}
use Rattle.explain_core.proofs.explaining.put_steps.Given as goal

-- the steps so far
abbrev pub invariant-loop-number : goal.invariant-loop-number
invariant-loop-number g l = string_bytes l.text ≡ string_bytes l.fn.text ++ step_lines l.bench l.label (take l.number-index l.numbers)
