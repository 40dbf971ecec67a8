use Rattle.std.proofs.Common.{◌≡◌, ◌∙◌, sym, ap, Some, arith, ℕ}
use Rattle.std.proofs.lemmas.List.{get_or_read}
use Rattle.smallvec.specs.SmallVec.{SmallVec}
use Rattle.journal_core.specs.Numbers.{place_of}
use Rattle.journal_core.specs.Causes.{Causes, deliveries_at, no_deliveries, all_at, delivered}
use Rattle.journal_core.proofs.NumberLists.{place_below}
use Rattle.journal_core.proofs.causes.Causes.deliveries_of.Goals as goal

pub index-requires : goal.index-requires
index-requires g c =
    let low = place_below c.args.number c.self.inside.sent.items c.in-Some.place
    (ap (λ l. place_of l c.args.number) (sym c.deref.ensures.value) ∙ sym c.place.ensures ∙ c.in-Some.is) in
    let same = c.self.invariant.3 in
    omega (arith, low, same, c.self.inside.deliveries.ok.0)

pub returns-in-Some : goal.returns-in-Some
returns-in-Some g c =
    let at : place_of c.self.inside.sent.items c.args.number ≡ Some c.in-Some.place = ap (λ l. place_of l c.args.number)
    (sym c.deref.ensures.value) ∙ sym c.place.ensures ∙ c.in-Some.is in
    let low = place_below c.args.number c.self.inside.sent.items c.in-Some.place at in
    let same = c.self.invariant.3 in
    let read : c.index.result.now ≡ deliveries_at c.self.inside.deliveries.items c.in-Some.place =
    get_or_read c.self.inside.deliveries.items c.in-Some.place c.index.result.now (omega arith) c.index.ensures no_deliveries in
    c.as_slice.ensures ∙ ap (λ (v : SmallVec ℕ). v.items) read
    ∙ sym (ap (all_at c.self.inside.deliveries.items) at) ∙ ap (λ (v : Causes). delivered v.sent v.deliveries c.args.number) c.self.view_is
