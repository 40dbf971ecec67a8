use Rattle.std.proofs.Common.{◌≡◌, ◌+◌, drop, get_or, sym, ap, ◌∙◌}
use Rattle.std.proofs.lemmas.List.{at_drop_more, at_drop_all}
use Rattle.payload_core.specs.Hashes.{mixed, mixed_all}
use Rattle.payload_core.proofs.hash.mix_all.Goals as goal

pub loop-byte-preserved : goal.loop-byte-preserved
loop-byte-preserved c =
    let next : c.mix-hash.result ≡ mixed c.loop-byte.hash (get_or c.args.bytes.now c.loop-byte.byte-index 0) =
    c.mix-hash.ensures ∙ ap (mixed c.loop-byte.hash) c.from.ensures in
    ap (λ k. mixed_all k (drop (c.loop-byte.byte-index + 1) c.args.bytes.now)) next
    ∙ sym (at_drop_more (mixed_all c.loop-byte.hash) c.args.bytes.now c.loop-byte.byte-index 0 c.loop-byte-test.true)
    ∙ c.loop-byte.invariant

pub returns : goal.returns
returns c = sym (at_drop_all (mixed_all c.loop-byte.hash) c.args.bytes.now c.loop-byte.byte-index c.loop-byte-test.false) ∙ c.loop-byte.invariant
