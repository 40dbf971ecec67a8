use Rattle.std.proofs.Common.{◌≡◌, Some, arith, length, rules, sym, ◌∙◌}
use Rattle.std.specs.Prelude.{slice_get}
use Rattle.picture_core.proofs.Counts.{before_all, before_found, before_passed}
use Rattle.picture_core.proofs.range.calls_before.Goals as goal

pub returns-then-is_from-clause-is : goal.returns-then-is_from-clause-is
returns-then-is_from-clause-is g c =
    let events = c.args.history.now in
    let event = c.unwrap-event.result.now in
    let at : slice_get events c.loop-place.place ≡ Some event = search rules in
    before_found _ _ events c.loop-place.place event (omega arith) at (search rules) c.loop-place.invariant

pub loop-place-preserved : goal.loop-place-preserved
loop-place-preserved g c =
    let events = c.args.history.now in
    let event = c.unwrap-event.result.now in
    let at : slice_get events c.loop-place.place ≡ Some event = search rules in
    before_passed _ _ events c.loop-place.place event (omega arith) at (search rules) c.loop-place.invariant

pub returns-clause-is : goal.returns-clause-is
returns-clause-is g c =
    let all : c.loop-place.place ≡ length c.args.history.now = omega arith in
    c.len.ensures ∙ sym all ∙ before_all _ _ c.args.history.now c.loop-place.place all c.loop-place.invariant
