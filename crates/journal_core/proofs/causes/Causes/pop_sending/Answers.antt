use Rattle.std.proofs.Common.{◌∙◌, ap, ◌-◌, length, arith, vec_len, sym, subst}
use Rattle.std.proofs.lemmas.List.{length-take}
use Rattle.journal_core.specs.Numbers.{Rises}
use Rattle.journal_core.specs.Causes.{AllRise}
use Rattle.journal_core.proofs.NumberLists.{rises_take, all_take}
use Rattle.journal_core.proofs.causes.Causes.pop_sending.Goals as goal

pub invariant_of-self : goal.invariant_of-self
invariant_of-self g c =
    let before = c.self.invariant.3 in
    let sent = ap length c.pop-2.ensures.rest ∙ length-take (vec_len c.self.inside.sent - 1) c.self.inside.sent.items in
    let deliveries = ap length c.pop-3.ensures.rest ∙ length-take (vec_len c.self.inside.deliveries - 1) c.self.inside.deliveries.items in (
      subst Rises (sym c.pop.ensures.rest) (rises_take 0 _ c.self.inside.own.items c.self.invariant.0),
      subst Rises (sym c.pop-2.ensures.rest) (rises_take 0 _ c.self.inside.sent.items c.self.invariant.1),
      subst AllRise (sym c.pop-3.ensures.rest) (all_take _ c.self.inside.deliveries.items c.self.invariant.2),
      omega (arith, sent, deliveries, before, c.self.inside.sent.ok.0, c.self.inside.deliveries.ok.0),
    )
