use Rattle.std.proofs.Common.{◌∙◌, sym, ap, subst, map, Some}
use Rattle.node_core.specs.Inverses.{plain_inverse}
use Rattle.journal_core.specs.Holdings.{kepts, plain_room}
use Rattle.journal_core.specs.Causes.{IsIndexed}
use Rattle.journal_core.specs.Rooms.{ArePromised}
use Rattle.journal_core.proofs.Rising.{kepts_with}
use Rattle.journal_core.proofs.journal.Journal.put_back.Goals as goal

pub invariant_of-self : goal.invariant_of-self
invariant_of-self g c =
    let same = ap kepts c.put_back.ensures.steps ∙ kepts_with c.self.inside.slots.steps c.args.number (Some (plain_inverse c.args.inverse)) in (
      subst (λ ks. IsIndexed ks c.self.inside.causes.items) (sym same) c.self.invariant.0,
      subst (λ n. ArePromised c.self.inside.causes.items n (map plain_room c.self.inside.room.items)) (sym c.put_back.ensures.room)
          c.self.invariant.1,
    )
