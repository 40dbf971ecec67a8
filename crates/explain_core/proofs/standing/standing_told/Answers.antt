use Rattle.std.proofs.Common.{◌∙◌, ap, sym}
use Rattle.std.specs.FinSet as set
use Rattle.dots_core.specs.Dots.{Dots}
use Rattle.explain_core.proofs.TracedTogether.{untold}
use Rattle.explain_core.proofs.standing.standing_told.Goals as goal

pub returns-then-not-contains : goal.returns-then-not-contains
returns-then-not-contains g c =
    untold c.args.message.now.seen c.args.message.now.entries c.args.dot c.entries-entries.ensures.are_seen
    (ap (λ (s : Dots). set.contains s c.args.dot) (sym c.seen.ensures) ∙ sym c.if-not-contains.ensures)
