use Rattle.std.proofs.Common.{length, arith, ◌+◌, refl, ◌≡◌, ◌∙◌, sym, ap, subst, List, [], ◌∷◌, ◌++◌, Some}
use Rattle.std.proofs.lemmas.List.{length-append}
use Rattle.journal_core.specs.Numbers.{Rises}
use Rattle.journal_core.specs.Holdings.{Held}
use Rattle.journal_core.specs.Slots.{Slots, steps_in, AreAligned, IsAboveAll}
use Rattle.journal_core.proofs.Filled.{steps_in-append, aligned_push, rises_push, steps_in_most}
use Rattle.journal_core.proofs.slots.Slots.push.Goals as goal

pub invariant_of-self : goal.invariant_of-self
invariant_of-self g c =
    let ns = c.trim.new.numbers.items in
    let os = c.trim.new.slots.items in
    let h = c.args.held in
    let same : steps_in os ≡ c.args.self.now.steps = c.trim.ensures.steps ∙ ap (λ (s : Slots). s.steps) c.self.view_is in
    let low = subst (IsAboveAll h.kept.number) (sym same) c.requires.above in
    let more = ap length (ap steps_in c.push_reserved-2.ensures.items ∙ steps_in-append os (Some h ∷ [])) ∙ length-append (steps_in os) (h ∷ []) in
    let count : c.self.inside.count ≡ length (steps_in os) = c.self.invariant.2 ∙ ap length (sym c.trim.ensures.steps) in
    let numbers = c.push_reserved.ensures.items ∙ ap (λ n. ns ++ n ∷ []) c.number.ensures in
    let counted : c.self.inside.count + 1 ≡ length (steps_in c.push_reserved-2.new.self.items) = omega (arith, more, count) in (
      subst Rises (sym numbers) (rises_push 0 h.kept.number ns os low.0 c.trim.ensures.rises c.trim.ensures.aligned c.trim.ensures.last low.1),
      subst (λ l. AreAligned l c.push_reserved-2.new.self.items) (sym numbers)
          (subst (AreAligned (ns ++ h.kept.number ∷ [])) (sym c.push_reserved-2.ensures.items)
          (aligned_push ns os h.kept.number h refl c.trim.ensures.aligned)),
      counted,
    )

pub returns : goal.returns
returns g c =
    let os = c.trim.new.slots.items in
    let h = c.args.held in
    let same : steps_in os ≡ c.args.self.now.steps = c.trim.ensures.steps ∙ ap (λ (s : Slots). s.steps) c.self.view_is in
    ap steps_in c.push_reserved-2.ensures.items ∙ steps_in-append os (Some h ∷ []) ∙ ap (λ (l : List Held). l ++ h ∷ []) same

pub overflow_add-self : goal.overflow_add-self
overflow_add-self g c =
    let os = c.trim.new.slots.items in
    let h = c.args.held in
    let more = ap length c.push_reserved-2.ensures.items ∙ length-append os (Some h ∷ []) in
    let count : c.self.inside.count ≡ length (steps_in os) = c.self.invariant.2 ∙ ap length (sym c.trim.ensures.steps) in
    let most = steps_in_most os in
    omega (arith, more, count, most, c.push_reserved-2.new.self.ok.0)
