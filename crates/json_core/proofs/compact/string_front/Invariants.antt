use Rattle.std.proofs.Common.{◌≡◌, ◌++◌, length}
use Rattle.std.specs.Prelude.{IsUtf8, string_bytes}
use Rattle.json.specs.Print.{escape}
use Rattle.json_core.proofs.compact.string_front.Given as goal

-- what was read so far, with its escapes, and then the rest
abbrev pub invariant-runs : goal.invariant-runs
invariant-runs l = (l.initial.rest ≡ escape (string_bytes l.read) ++ l.rest) × IsUtf8 l.rest

abbrev pub decreases-runs : goal.decreases-runs
decreases-runs l = length l.rest
