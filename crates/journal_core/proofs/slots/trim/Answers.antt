use Rattle.std.proofs.Common.{◌≡◌, ◌<◌, ◌∙◌, sym, ap, subst, length, Option, ◌++◌, arith, vec_len, option_to_list, true, ℕ, None, Some, MatchOption}
use Rattle.std.proofs.Common.{◌+◌}
use Rattle.journal_core.specs.Numbers.{Rises}
use Rattle.journal_core.specs.Slots.{steps_in, AreAligned, ends_empty}
use Rattle.journal_core.proofs.Filled.{aligned_length, aligned_pop, rises_front, steps_in_pop, empty_some}
use Rattle.journal_core.proofs.slots.trim.Goals as goal

popped_one : {A : Type 0} (m n : ℕ) (o : Option A) → MatchOption o ((n ≡ 0) × (m ≡ 0)) (λ _. m + 1 ≡ n) → 0 < n → m + 1 ≡ n
popped_one m n None h some = absurd (let zero = h.0 in omega arith)
popped_one m n (Some x) h some = h

pub loop-slots-preserved : goal.loop-slots-preserved
loop-slots-preserved g c =
    let old = c.loop-slots.invariant in
    let last : ends_empty c.loop-slots.slots.items ≡ true = ap ends_empty (sym c.as_slice.ensures.value) ∙ sym c.is_last_empty.ensures
    ∙ c.loop-slots-test.true in
    let whole = aligned_length c.loop-slots.numbers.items c.loop-slots.slots.items old.aligned in
    let some = empty_some c.loop-slots.slots.items last in
    let short : vec_len c.pop.new.self + 1 ≡ vec_len c.loop-slots.slots = popped_one _ _ c.pop.result c.pop.ensures.cases
    (omega (arith, some, c.loop-slots.slots.ok.0)) in
    let shorter : vec_len c.pop-in-loop-slots.new.self + 1 ≡ vec_len c.loop-slots.numbers =
    popped_one _ _ c.pop-in-loop-slots.result c.pop-in-loop-slots.ensures.cases
    (omega (arith, some, whole, c.loop-slots.slots.ok.0, c.loop-slots.numbers.ok.0)) in
    let popped : length c.pop-in-loop-slots.new.self.items ≡ length c.pop.new.self.items = omega
    (arith, short, shorter, whole, c.pop.new.self.ok.0, c.pop-in-loop-slots.new.self.ok.0, c.loop-slots.slots.ok.0, c.loop-slots.numbers.ok.0) in
    record {
      rises = rises_front 0 c.pop-in-loop-slots.new.self.items (option_to_list c.pop-in-loop-slots.result)
          (subst Rises c.pop-in-loop-slots.ensures.items old.rises);
      aligned = aligned_pop c.pop-in-loop-slots.new.self.items c.pop.new.self.items c.pop-in-loop-slots.result c.pop.result
          (subst (λ os. AreAligned (c.pop-in-loop-slots.new.self.items ++ option_to_list c.pop-in-loop-slots.result) os) c.pop.ensures.items
          (subst (λ ns. AreAligned ns c.loop-slots.slots.items) c.pop-in-loop-slots.ensures.items old.aligned)) popped;
      steps = steps_in_pop c.pop.new.self.items c.pop.result (ap ends_empty (sym c.pop.ensures.items) ∙ last) ∙ ap steps_in
          (sym c.pop.ensures.items) ∙ old.steps;
      numbers_room = omega arith;
      numbers_capacity = c.pop-in-loop-slots.ensures.capacity ∙ old.numbers_capacity;
      slots_room = omega arith;
      slots_capacity = c.pop.ensures.capacity ∙ old.slots_capacity;
    }

pub loop-slots-smaller : goal.loop-slots-smaller
loop-slots-smaller g c =
    let last : ends_empty c.loop-slots.slots.items ≡ true = ap ends_empty (sym c.as_slice.ensures.value) ∙ sym c.is_last_empty.ensures
    ∙ c.loop-slots-test.true in
    let some = empty_some c.loop-slots.slots.items last in
    let short : vec_len c.pop.new.self + 1 ≡ vec_len c.loop-slots.slots = popped_one _ _ c.pop.result c.pop.ensures.cases
    (omega (arith, some, c.loop-slots.slots.ok.0)) in
    let smaller : vec_len c.pop.new.self < vec_len c.loop-slots.slots = omega arith in
    smaller
