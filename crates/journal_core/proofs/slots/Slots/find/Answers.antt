use Rattle.std.proofs.Common.{◌≡◌, ◌∙◌, sym, ap, Some, None, arith, get_or}
use Rattle.std.proofs.lemmas.List.{get_or_read}
use Rattle.journal_core.specs.Numbers.{place_of}
use Rattle.journal_core.specs.Holdings.{find_held}
use Rattle.journal_core.specs.Slots.{Slots}
use Rattle.journal_core.proofs.NumberLists.{place_below}
use Rattle.journal_core.proofs.Filled.{aligned_length, found, unfound}
use Rattle.journal_core.proofs.slots.Slots.find.Goals as goal

pub returns-in_default : goal.returns-in_default
returns-in_default g c =
    let ns = c.self.inside.numbers.items in
    let os = c.self.inside.slots.items in
    let n = c.args.number in
    let at : place_of ns n ≡ None = ap (λ l. place_of l n) (sym c.deref.ensures.value) ∙ sym c.place.ensures ∙ c.in_default.is in
    sym (ap (λ (s : Slots). find_held s.steps n) (sym c.self.view_is) ∙ unfound n ns os c.self.invariant.1 at)

pub index-requires : goal.index-requires
index-requires g c =
    let ns = c.self.inside.numbers.items in
    let os = c.self.inside.slots.items in
    let p = c.in-Some.place in
    let n = c.args.number in
    let at : place_of ns n ≡ Some p = ap (λ l. place_of l n) (sym c.deref.ensures.value) ∙ sym c.place.ensures ∙ c.in-Some.is in
    let low = place_below n ns p at in
    omega (arith, low, aligned_length ns os c.self.invariant.1, c.self.inside.slots.ok.0)

pub returns : goal.returns
returns g c =
    let ns = c.self.inside.numbers.items in
    let os = c.self.inside.slots.items in
    let p = c.in-Some.place in
    let n = c.args.number in
    let at : place_of ns n ≡ Some p = ap (λ l. place_of l n) (sym c.deref.ensures.value) ∙ sym c.place.ensures ∙ c.in-Some.is in
    let low = place_below n ns p at in
    let same = aligned_length ns os c.self.invariant.1 in
    let read : c.index.result.now ≡ get_or os p None = get_or_read os p c.index.result.now (omega arith) c.index.ensures None in
    c.as_ref.ensures.value ∙ read ∙ sym (found 0 n ns os p c.self.invariant.0 c.self.invariant.1 at) ∙ ap
    (λ (s : Slots). find_held s.steps n) c.self.view_is
