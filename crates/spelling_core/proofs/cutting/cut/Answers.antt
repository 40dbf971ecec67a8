use Rattle.std.proofs.Common.{◌≡◌, ◌++◌, length, string_bytes, ◌∙◌, ap, arith}
use Rattle.spelling_core.specs.WordText.{mark}
use Rattle.spelling_core.proofs.Spellings.{mark_short}
use Rattle.spelling_core.proofs.cutting.cut.Goals as goal

pub overflow_sub-len : goal.overflow_sub-len
overflow_sub-len g c =
    let tail : string_bytes c.write.new.self ≡ mark c.args.number = c.in_ok-write.ensures.bytes ∙ ap (λ bytes. bytes ++ mark c.args.number) c.new-tail.ensures.bytes in
    let short = mark_short c.args.number c.ranges.number.fits in
    omega (arith, ap length tail, c.len.ensures, short)
