use Rattle.std.proofs.Common.{◌∙◌, sym, ap, subst, map, None}
use Rattle.journal_core.specs.Holdings.{Journal, kepts, plain_room, find_held, inverse_of}
use Rattle.journal_core.specs.Causes.{IsIndexed}
use Rattle.journal_core.specs.Rooms.{ArePromised}
use Rattle.journal_core.proofs.Rising.{kepts_with}
use Rattle.journal_core.proofs.journal.Journal.lend.Goals as goal

pub invariant_of-self : goal.invariant_of-self
invariant_of-self g c =
    let same = ap kepts c.lend.ensures.steps ∙ kepts_with c.self.inside.slots.steps c.args.number None in (
      subst (λ ks. IsIndexed ks c.self.inside.causes.items) (sym same) c.self.invariant.0,
      subst (λ n. ArePromised c.self.inside.causes.items n (map plain_room c.self.inside.room.items)) (sym c.lend.ensures.room)
          c.self.invariant.1,
    )

pub returns-clause-value : goal.returns-clause-value
returns-clause-value g c =
    c.lend.ensures.value ∙ ap (λ (j : Journal). inverse_of (find_held j.steps c.args.number)) c.self.view_is
