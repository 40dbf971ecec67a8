use Rattle.std.proofs.Common.{◌≡◌, drop}
use Rattle.payload_core.specs.Hashes.{mixed_all}
use Rattle.payload_core.proofs.hash.mix_all.Given as goal

-- the bytes that are left lead to the whole
abbrev pub invariant-loop-byte : goal.invariant-loop-byte
invariant-loop-byte l = mixed_all l.hash (drop l.byte-index l.bytes) ≡ mixed_all l.start l.bytes
