use Rattle.std.proofs.Common.{◌≡◌, ◌∙◌, ◌-◌, length, get_or, slice_set, sym, ap, subst, Option, Some, None, arith}
use Rattle.std.proofs.lemmas.List.{get_or_read}
use Rattle.journal_core.specs.Numbers.{place_of}
use Rattle.journal_core.specs.Holdings.{Held, find_held, without_held}
use Rattle.journal_core.specs.Slots.{Slots, steps_in, AreAligned, count_in}
use Rattle.journal_core.proofs.NumberLists.{place_below}
use Rattle.journal_core.proofs.Filled.{aligned_length, unfound, none_out, out_at, aligned_out, emptied}
use Rattle.journal_core.proofs.slots.Slots.take_out.Goals as goal

pub returns-in_default-clause-steps : goal.returns-in_default-clause-steps
returns-in_default-clause-steps g c =
    let ns = c.self.inside.numbers.items in
    let os = c.self.inside.slots.items in
    let n = c.args.number in
    let at : place_of ns n ≡ None = ap (λ l. place_of l n) (sym c.deref.ensures.value) ∙ sym c.place.ensures ∙ c.in_default.is in
    sym (none_out n c.args.self.now.steps (ap (λ (s : Slots). find_held s.steps n) (sym c.self.view_is) ∙ unfound n ns os c.self.invariant.1 at))

pub index_mut-requires : goal.index_mut-requires
index_mut-requires g c =
    let ns = c.self.inside.numbers.items in
    let os = c.self.inside.slots.items in
    let p = c.in-Some.place in
    let n = c.args.number in
    let at : place_of ns n ≡ Some p = ap (λ l. place_of l n) (sym c.deref.ensures.value) ∙ sym c.place.ensures ∙ c.in-Some.is in
    let low = place_below n ns p at in
    omega (arith, low, aligned_length ns os c.self.invariant.1, c.self.inside.slots.ok.0)

pub trim-requires-clause-aligned : goal.trim-requires-clause-aligned
trim-requires-clause-aligned g c =
    let ns = c.self.inside.numbers.items in
    let os = c.self.inside.slots.items in
    let p = c.in-Some.place in
    subst (λ (o : Option Held). AreAligned ns (slice_set os p o)) (sym c.take_from.ensures.after) (aligned_out ns os p c.self.invariant.1)

pub returns-clause-steps : goal.returns-clause-steps
returns-clause-steps g c =
    let ns = c.self.inside.numbers.items in
    let os = c.self.inside.slots.items in
    let p = c.in-Some.place in
    let n = c.args.number in
    let at : place_of ns n ≡ Some p = ap (λ l. place_of l n) (sym c.deref.ensures.value) ∙ sym c.place.ensures ∙ c.in-Some.is in
    c.trim.ensures.steps ∙ ap (λ (o : Option Held). steps_in (slice_set os p o)) c.take_from.ensures.after
    ∙ out_at 0 n ns os p c.self.invariant.0 c.self.invariant.1 at ∙ ap (λ (s : Slots). without_held s.steps n) c.self.view_is

pub overflow_sub-self : goal.overflow_sub-self
overflow_sub-self g c =
    let ns = c.self.inside.numbers.items in
    let os = c.self.inside.slots.items in
    let p = c.in-Some.place in
    let n = c.args.number in
    let at : place_of ns n ≡ Some p = ap (λ l. place_of l n) (sym c.deref.ensures.value) ∙ sym c.place.ensures ∙ c.in-Some.is in
    let low = place_below n ns p at in
    let same = aligned_length ns os c.self.invariant.1 in
    let read : c.index_mut.result.now ≡ get_or os p None = get_or_read os p c.index_mut.result.now (omega arith) c.index_mut.ensures.value None in
    let one : c.take_from.result ≡ count_in (get_or os p None) = c.take_from.ensures.count ∙ ap count_in read in
    let whole = emptied os p in
    let count = c.self.invariant.2 in
    omega (arith, one, whole, count)

pub invariant_of-self : goal.invariant_of-self
invariant_of-self g c =
    let ns = c.self.inside.numbers.items in
    let os = c.self.inside.slots.items in
    let p = c.in-Some.place in
    let n = c.args.number in
    let at : place_of ns n ≡ Some p = ap (λ l. place_of l n) (sym c.deref.ensures.value) ∙ sym c.place.ensures ∙ c.in-Some.is in
    let low = place_below n ns p at in
    let same = aligned_length ns os c.self.invariant.1 in
    let read : c.index_mut.result.now ≡ get_or os p None = get_or_read os p c.index_mut.result.now (omega arith) c.index_mut.ensures.value None in
    let one : c.take_from.result ≡ count_in (get_or os p None) = c.take_from.ensures.count ∙ ap count_in read in
    let whole = emptied os p in
    let count = c.self.invariant.2 in
    let same : length (steps_in c.trim.new.slots.items) ≡ length (steps_in (slice_set os p None)) = ap length
    (c.trim.ensures.steps ∙ ap (λ (o : Option Held). steps_in (slice_set os p o)) c.take_from.ensures.after) in
    let counted : c.self.inside.count - c.take_from.result ≡ length (steps_in c.trim.new.slots.items) = omega (arith, one, whole, count, same) in
    (c.trim.ensures.rises, c.trim.ensures.aligned, counted)
