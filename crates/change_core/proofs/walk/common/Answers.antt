use Rattle.std.proofs.Common.{rules, ◌≡◌, ◌<◌, ◌∙◌, Some, length, take, slice_get, sym, ap, subst}
use Rattle.bench_core.proofs.Tried.{met}
use Rattle.change_core.specs.Walks.{places_of, Taken}
use Rattle.change_core.proofs.Played.{read_at, read_or}
use Rattle.change_core.proofs.Walks.{same_more}
use Rattle.change_core.proofs.walk.common.Goals as goal

pub loop-turn-preserved : goal.loop-turn-preserved
loop-turn-preserved g c =
    let lt : c.loop-turn.turn < length c.args.taken.now = search rules in
    let low : c.loop-turn.turn < length c.args.places.now = search rules in
    let at : slice_get c.args.taken.now c.loop-turn.turn ≡ Some c.index-taken-turn.result =
    read_at c.args.taken.now c.loop-turn.turn c.index-taken-turn.result lt c.index-taken-turn.is in
    same_more c.args.taken.now c.args.places.now c.loop-turn.turn c.index-taken-turn.result _ at (read_or c.args.places.now c.loop-turn.turn 0 low)
    (ap (λ (t : Taken). t.place) (sym c.step.view_is) ∙ c.if-step-places.false) c.loop-turn.invariant

pub returns-clause-same : goal.returns-clause-same
returns-clause-same g c =
    subst (λ n. take n (places_of c.args.taken.now) ≡ take n c.args.places.now) (met _ _ c.loop-turn.auto.turn-end c.loop-turn-test.false) c.loop-turn.invariant
