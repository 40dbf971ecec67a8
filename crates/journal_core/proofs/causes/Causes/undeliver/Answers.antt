use Rattle.std.proofs.Common.{◌≡◌, ◌∙◌, sym, subst, length, ◌<◌, ℕ}
use Rattle.std.proofs.lemmas.List.{get_or_read}
use Rattle.std.proofs.lemmas.List.{length-set}
use Rattle.smallvec.specs.SmallVec.{SmallVec}
use Rattle.journal_core.specs.Numbers.{Rises}
use Rattle.journal_core.specs.Causes.{Causes, deliveries_at, no_deliveries}
use Rattle.journal_core.proofs.NumberLists.{all_set, rises_of, rises_all_but}
use Rattle.journal_core.proofs.causes.Causes.undeliver.Goals as goal

pub invariant_of-self : goal.invariant_of-self
invariant_of-self g c =
    let same = c.self.invariant.3 in
    let within : c.args.place < length c.self.inside.deliveries.items = subst (λ (v : Causes). c.args.place < length v.deliveries)
    (sym c.self.view_is) c.requires in
    let read : c.index_mut.result.now ≡ deliveries_at c.self.inside.deliveries.items c.args.place =
    get_or_read c.self.inside.deliveries.items c.args.place c.index_mut.result.now within c.index_mut.ensures.value no_deliveries in
    let rises : Rises c.index_mut.result.now.items = subst (λ (v : SmallVec ℕ). Rises v.items) (sym read)
    (rises_of c.self.inside.deliveries.items c.args.place no_deliveries c.self.invariant.2 within) in (
      c.self.invariant.0,
      c.self.invariant.1,
      all_set c.self.inside.deliveries.items c.args.place c.remove.new.numbers c.self.invariant.2
          (subst Rises (sym c.remove.ensures.items) (rises_all_but 0 c.args.number c.index_mut.result.now.items rises)),
      same ∙ sym
          (length-set c.self.inside.deliveries.items c.args.place c.remove.new.numbers),
    )
