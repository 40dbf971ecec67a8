use Rattle.std.proofs.Common.{◌≡◌, ◌∙◌, sym, ap, Some, arith, slice_get, List, ℕ}
use Rattle.std.proofs.lemmas.List.{get_or_read}
use Rattle.smallvec.specs.SmallVec.{SmallVec}
use Rattle.journal_core.specs.Numbers.{place_of}
use Rattle.journal_core.specs.Causes.{Causes, deliveries_at, no_deliveries, first_at, first_delivered}
use Rattle.journal_core.proofs.NumberLists.{place_below, head_is}
use Rattle.journal_core.proofs.causes.Causes.first_delivery.Goals as goal

pub index-requires : goal.index-requires
index-requires g c =
    let low = place_below c.args.number c.self.inside.sent.items c.in-Some.place
    (ap (λ l. place_of l c.args.number) (sym c.deref.ensures.value) ∙ sym c.place.ensures ∙ c.in-Some.is) in
    let same = c.self.invariant.3 in
    omega (arith, low, same, c.self.inside.deliveries.ok.0)

pub returns : goal.returns
returns g c =
    let at : place_of c.self.inside.sent.items c.args.number ≡ Some c.in-Some.place = ap (λ l. place_of l c.args.number)
    (sym c.deref.ensures.value) ∙ sym c.place.ensures ∙ c.in-Some.is in
    let low = place_below c.args.number c.self.inside.sent.items c.in-Some.place at in
    let same = c.self.invariant.3 in
    let read : c.index.result.now ≡ deliveries_at c.self.inside.deliveries.items c.in-Some.place =
    get_or_read c.self.inside.deliveries.items c.in-Some.place c.index.result.now (omega arith) c.index.ensures no_deliveries in
    c.copied.ensures ∙ c.first.ensures.value ∙ ap (λ (l : List ℕ). slice_get l 0) (c.deref-2.ensures ∙ ap (λ (v : SmallVec ℕ). v.items) read)
    ∙ head_is (deliveries_at c.self.inside.deliveries.items c.in-Some.place).items
    ∙ sym (ap (first_at c.self.inside.deliveries.items) at) ∙ ap (λ (v : Causes). first_delivered v.sent v.deliveries c.args.number) c.self.view_is
