use Rattle.std.proofs.Common.{◌≡◌, drop}
use Rattle.picture_core.specs.Pictures.{longest_name}
use Rattle.picture_core.proofs.Lanes.{longest_of}
use Rattle.picture_core.proofs.picture.longest_name.Given as goal

-- the longest so far, and then those that are left
abbrev pub invariant-loop-number : goal.invariant-loop-number
invariant-loop-number g l = longest_of l.longest (drop l.number l.names) ≡ longest_name l.names
