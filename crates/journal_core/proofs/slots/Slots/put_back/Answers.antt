use Rattle.std.proofs.Common.{length, ◌≡◌, ◌∙◌, sym, ap, subst, Option, Some, None, arith, get_or, slice_set}
use Rattle.std.proofs.lemmas.List.{get_or_read}
use Rattle.node_core.specs.Inverses.{plain_inverse}
use Rattle.journal_core.specs.Numbers.{place_of}
use Rattle.journal_core.specs.Holdings.{Held, find_held, with_inverse}
use Rattle.journal_core.specs.Slots.{Slots, steps_in, AreAligned, lent_in}
use Rattle.journal_core.proofs.NumberLists.{place_below}
use Rattle.journal_core.proofs.Filled.{aligned_length, unfound, none_with, lent_at, aligned_lent, with_length}
use Rattle.journal_core.proofs.slots.Slots.put_back.Goals as goal

pub returns-in_default-clause-steps : goal.returns-in_default-clause-steps
returns-in_default-clause-steps g c =
    let ns = c.self.inside.numbers.items in
    let os = c.self.inside.slots.items in
    let n = c.args.number in
    let i = Some (plain_inverse c.args.inverse) in
    let at : place_of ns n ≡ None = ap (λ l. place_of l n) (sym c.deref.ensures.value) ∙ sym c.place.ensures ∙ c.in_default.is in
    sym (none_with n (i) c.args.self.now.steps
    (ap (λ (s : Slots). find_held s.steps n) (sym c.self.view_is) ∙ unfound n ns os c.self.invariant.1 at))

pub index_mut-requires : goal.index_mut-requires
index_mut-requires g c =
    let ns = c.self.inside.numbers.items in
    let os = c.self.inside.slots.items in
    let p = c.in-Some.place in
    let n = c.args.number in
    let at : place_of ns n ≡ Some p = ap (λ l. place_of l n) (sym c.deref.ensures.value) ∙ sym c.place.ensures ∙ c.in-Some.is in
    let low = place_below n ns p at in
    omega (arith, low, aligned_length ns os c.self.invariant.1, c.self.inside.slots.ok.0)

pub invariant_of-self : goal.invariant_of-self
invariant_of-self g c =
    let ns = c.self.inside.numbers.items in
    let os = c.self.inside.slots.items in
    let p = c.in-Some.place in
    let n = c.args.number in
    let i = Some (plain_inverse c.args.inverse) in
    let at : place_of ns n ≡ Some p = ap (λ l. place_of l n) (sym c.deref.ensures.value) ∙ sym c.place.ensures ∙ c.in-Some.is in
    let low = place_below n ns p at in
    let same = aligned_length ns os c.self.invariant.1 in
    let read : c.index_mut.result.now ≡ get_or os p None = get_or_read os p c.index_mut.result.now (omega arith) c.index_mut.ensures.value None in (
      c.self.invariant.0,
      subst (λ (o : Option Held). AreAligned ns (slice_set os p o)) (sym (c.put_in.ensures ∙ ap (lent_in (i)) read))
          (aligned_lent (i) ns os p c.self.invariant.1),
      c.self.invariant.2 ∙ sym
          (ap length (ap (λ (o : Option Held). steps_in (slice_set os p o)) (c.put_in.ensures ∙ ap (lent_in (i)) read) ∙ lent_at 0 n
          (i) ns os p c.self.invariant.0 c.self.invariant.1 at) ∙ with_length (steps_in os) n (i)),
    )

pub returns-clause-steps : goal.returns-clause-steps
returns-clause-steps g c =
    let ns = c.self.inside.numbers.items in
    let os = c.self.inside.slots.items in
    let p = c.in-Some.place in
    let n = c.args.number in
    let i = Some (plain_inverse c.args.inverse) in
    let at : place_of ns n ≡ Some p = ap (λ l. place_of l n) (sym c.deref.ensures.value) ∙ sym c.place.ensures ∙ c.in-Some.is in
    let low = place_below n ns p at in
    let same = aligned_length ns os c.self.invariant.1 in
    let read : c.index_mut.result.now ≡ get_or os p None = get_or_read os p c.index_mut.result.now (omega arith) c.index_mut.ensures.value None in
    ap (λ (o : Option Held). steps_in (slice_set os p o)) (c.put_in.ensures ∙ ap (lent_in (i)) read)
    ∙ lent_at 0 n (i) ns os p c.self.invariant.0 c.self.invariant.1 at ∙ ap (λ (s : Slots). with_inverse s.steps n (i)) c.self.view_is

pub returns-clause-room : goal.returns-clause-room
returns-clause-room g c = ap (λ (s : Slots). s.room) c.self.view_is
