use Rattle.std.proofs.Common.{◌∙◌, ◌+◌, sym, arith}
use Rattle.transcript_core.proofs.FirstRefused.{first_here, first_later, first_none}
use Rattle.transcript_core.proofs.refusals.first_recorded.Goals as goal

pub returns-in-Some : goal.returns-in-Some
returns-in-Some g c =
    sym (first_here c.args.history.now c.loop-place.place (c.loop-place.place + 1) _ (omega arith) (sym c.in-Some.ensures)) ∙ c.loop-place.invariant

pub loop-place-preserved : goal.loop-place-preserved
loop-place-preserved g c =
    sym (first_later c.args.history.now c.loop-place.place (c.loop-place.place + 1) (omega arith) (sym c.in_default.ensures)) ∙ c.loop-place.invariant

pub returns : goal.returns
returns g c = sym (first_none c.args.history.now c.loop-place.place (c.loop-place.place + 1) (omega arith)) ∙ c.loop-place.invariant
