use Rattle.std.proofs.Common.{◌≡◌, take}
use Rattle.receipt_core.proofs.agreeing.begins.Given as goal

abbrev pub invariant-loop-i : goal.invariant-loop-i
invariant-loop-i g l = take l.i l.after ≡ take l.i l.before
