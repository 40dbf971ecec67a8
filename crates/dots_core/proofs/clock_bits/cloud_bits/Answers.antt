use Rattle.std.proofs.Common.{◌≡◌, ◌+◌, ◌-◌, ◌∙◌, ap, arith, drop, length, subst, sym, take, take_all}
use Rattle.std.proofs.lemmas.List.{length-drop}
use Rattle.dots_core.specs.Clocks.{is_among, RisesAbove}
use Rattle.dots_core.proofs.CloudBits.{rest_told, rises_drop}
use Rattle.dots_core.proofs.clock_bits.cloud_bits.Goals as goal

pub bits_among-requires-clause-rises : goal.bits_among-requires-clause-rises
bits_among-requires-clause-rises c =
    let all : take (length c.args.cloud.now - c.place_from-first.result) (drop c.place_from-first.result c.args.cloud.now) ≡
    drop c.place_from-first.result c.args.cloud.now =
    (let len = length-drop c.place_from-first.result c.args.cloud.now in
    take_all (length c.args.cloud.now - c.place_from-first.result) (drop c.place_from-first.result c.args.cloud.now) (omega (arith, len))) in
    subst (RisesAbove 0) (sym all) (rises_drop 0 c.args.cloud.now c.place_from-first.result c.requires.rises)

pub returns : goal.returns
returns c = λ k within.
    let all : take (length c.args.cloud.now - c.place_from-first.result) (drop c.place_from-first.result c.args.cloud.now) ≡
    drop c.place_from-first.result c.args.cloud.now =
    (let len = length-drop c.place_from-first.result c.args.cloud.now in
    take_all (length c.args.cloud.now - c.place_from-first.result) (drop c.place_from-first.result c.args.cloud.now) (omega (arith, len))) in
    c.bits_among.ensures k within ∙ ap (is_among (c.args.low + k)) all
    ∙ rest_told (c.args.low + k) c.args.cloud.now c.place_from-first.result (c.place_from-first.ensures.below k)
