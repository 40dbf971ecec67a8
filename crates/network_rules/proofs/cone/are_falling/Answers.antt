use Rattle.std.proofs.Common.{ℕ, suc, List, Some, map, below_more, refl, subst, arith}
use Rattle.std.proofs.lemmas.List.{length-map}
use Rattle.dots_core.specs.Names.{Names}
use Rattle.network_rules.specs.Tables.{in_row, Within}
use Rattle.network_rules.proofs.FallingRows.{all_fall, falls_at, Falls}
use Rattle.network_rules.proofs.Lookups.{get_map, read_at}
use Rattle.network_rules.proofs.cone.are_falling.Goals as goal

pub loop-place-preserved : goal.loop-place-preserved
loop-place-preserved g c = λ n p lt.
    let rows : List (List Names) = map (λ row. row.items) c.args.rows.now in
    below_more (Falls rows) c.loop-place.place (λ n lt p. c.loop-place.invariant n p lt)
    (falls_at rows c.loop-place.place c.index-rows-place.result.items (get_map (λ row. row.items) c.args.rows.now c.loop-place.place c.index-rows-place.result
    (read_at c.args.rows.now c.loop-place.place c.index-rows-place.result c.loop-place-test.true c.index-rows-place.is))
    (subst (λ row. (p : ℕ) → Within (in_row (Some row) (suc p)) (in_row (Some row) p)) c.as_slice.ensures.value (c.if-not-is_falling.ensures refl))) n lt p

pub returns : goal.returns
returns g c = λ h n p. all_fall (map (λ row. row.items) c.args.rows.now) c.loop-place.place c.loop-place.invariant
    (let long = length-map c.args.rows.now (λ row. row.items) in let end = c.loop-place-test.false in omega (arith, long, end)) n p
