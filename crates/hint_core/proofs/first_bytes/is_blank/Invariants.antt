use Rattle.std.proofs.Common.{◌≡◌, drop}
use Rattle.hint_core.specs.Sessions.{is_blank}
use Rattle.hint_core.proofs.first_bytes.is_blank.Given as goal

-- what is left tells the same
abbrev pub invariant-loop-byte : goal.invariant-loop-byte
invariant-loop-byte l = is_blank (drop l.byte-index l.bytes) ≡ is_blank l.bytes
