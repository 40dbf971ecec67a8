use Rattle.std.proofs.Common.{◌≡◌, ◌++◌, length, string_bytes}
use Rattle.explain_core.specs.Explanations.{making_texts}
use Rattle.explain_core.proofs.explaining.put_makings.Given as goal

-- the presences so far, and then those that are left
abbrev pub invariant-loop-left : goal.invariant-loop-left
invariant-loop-left g l = string_bytes l.text ++ making_texts l.bench l.node l.left ≡ string_bytes l.fn.text ++ making_texts l.bench l.node l.makings

abbrev pub decreases-loop-left : goal.decreases-loop-left
decreases-loop-left g l = length l.left
