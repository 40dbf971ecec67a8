use Rattle.std.proofs.Common.{◌∙◌, ◌++◌, ◌∷◌, [], List, sym, ap, arith}
use Rattle.journal_core.specs.Journals.{Kept}
use Rattle.order_core.proofs.Places.{up_to}
use Rattle.explore_network.specs.Walks.{steps_at}
use Rattle.explore_network.proofs.CountLoops.{all_taken}
use Rattle.explore_network.proofs.Going.{steps_push}
use Rattle.network_rules.proofs.Lookups.{there}
use Rattle.explore_network.proofs.steps.places.Goals as goal

pub loop-place-preserved : goal.loop-place-preserved
loop-place-preserved g c = λ j long.
    let at = there j c.loop-place.place (let lt = c.loop-place-test.true in omega (arith, lt, long)) in
    ap (steps_at j) c.in_ok-push.ensures.items ∙ steps_push j c.loop-place.places.items c.loop-place.place at.0 at.1
    ∙ ap (λ (l : List Kept). l ++ at.0 ∷ []) (c.loop-place.invariant j long) ∙ sym (up_to j c.loop-place.place at.0 at.1)

pub returns : goal.returns
returns g c = λ j long. c.loop-place.invariant j long ∙ all_taken j c.loop-place.place (let end = c.loop-place-test.false in omega (arith, end, long))
