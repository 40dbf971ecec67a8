use Rattle.std.proofs.Common.{ap, arith, length}
use Rattle.std.specs.Slice.Iter.{iter_rest}
use Rattle.journal_core.specs.Slots.{steps_in}
use Rattle.journal_core.proofs.Filled.{steps_in_most}
use Rattle.journal_core.proofs.Rising.{kepts_length}
use Rattle.journal_core.proofs.steps.StepsIterator.size_hint.Goals as goal

pub returns-clause-upper : goal.returns-clause-upper
returns-clause-upper g c =
    let os = iter_rest c.self.inside.slots in
    let most = steps_in_most os in
    let kept = kepts_length (steps_in os) in
    let seen = ap length c.self.view_is in
    (tt, omega (arith, most, kept, seen, c.len.ensures))
