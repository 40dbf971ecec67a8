use Rattle.std.proofs.Common.{◌∙◌, refl, sym, true}
use Rattle.block_core.proofs.Walks.{maps_same}
use Rattle.block_core.proofs.entries_by_dot.EntriesByDot.same.Goals as goal

pub returns-in-None-next : goal.returns-in-None-next
returns-in-None-next g c =
    maps_same true c.args.self.now.map c.args.other.now.map
    (λ held. c.loop-one.invariant.1 (c.in_default.ensures ∙ sym c.in-None-next.ensures), λ same. refl)
