use Rattle.std.proofs.Common.{◌≡◌, drop}
use Rattle.hint_core.specs.Sessions.{begins_object}
use Rattle.hint_core.proofs.first_bytes.begins_object.Given as goal

-- what is left tells the same
abbrev pub invariant-loop-byte : goal.invariant-loop-byte
invariant-loop-byte l = begins_object (drop l.byte-index l.bytes) ≡ begins_object l.bytes
