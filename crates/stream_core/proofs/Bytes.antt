-- Known bytes over several reads and writes.
use Rattle.std.proofs.Common.{◌≡◌, ℕ, ◌+◌, ◌≤◌, List, ◌++◌, ◌-◌, length, take, drop, Option, arith}
use Rattle.std.proofs.Math.Seq.{take-add}
use Rattle.std.proofs.KnownBytes.{Appends-trans, Consumes-trans}
use Rattle.std.proofs.lemmas.Grind.{common_steps}
use Rattle.std.specs.Io.KnownBytes.{Appends, Consumes}
use Rattle.stream_core.specs.Inputs.{TakesAtMost}

-- the first w bytes went out, and then the first n of the others
pub sent_more : (old mid new : Option (List ℕ)) (bytes : List ℕ) (w n : ℕ) → Appends old mid (take w bytes) →
    Appends mid new (take n (take (length bytes - w) (drop w bytes))) → Appends old new (take (w + n) bytes)
sent_more old mid new bytes w n a b =
    let rest : take (length bytes - w) (drop w bytes) ≡ drop w bytes = grind (arith, common_steps) in
    rw (take-add w n bytes) (Appends-trans old mid new (take w bytes) (take n (drop w bytes)) a (rw rest at b))

-- what was taken so far, and then a part of a buffer
pub taken_more : (a b c : Option (List ℕ)) (bytes buf : List ℕ) (n most : ℕ) → Consumes a b bytes → Consumes b c (take n buf) →
    length bytes + length buf ≤ most → TakesAtMost a c most
taken_more a b c bytes buf n most before then few =
    (bytes ++ take n buf, Consumes-trans a b c bytes (take n buf) before then, grind (arith, common_steps))
