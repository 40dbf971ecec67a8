use Rattle.std.proofs.Common.{sym, subst}
use Rattle.journal_core.specs.Numbers.{Rises}
use Rattle.journal_core.proofs.NumberLists.{rises_take}
use Rattle.journal_core.proofs.causes.Causes.pop.Goals as goal

pub invariant_of-self : goal.invariant_of-self
invariant_of-self g c = (
  subst Rises (sym c.pop.ensures.rest)
      (rises_take 0 _ c.self.inside.own.items c.self.invariant.0),
  c.self.invariant.1,
  c.self.invariant.2,
  c.self.invariant.3,
)
