use Rattle.std.proofs.Common.{◌≡◌, ◌∙◌, sym, ap, subst, suc, ◌-◌, List, [], ◌∷◌, length, slice_get, arith, not, Bool, true, false, refl, Some, None, Option, is_none, is_some, option_copied}
use Rattle.journal_core.specs.Holdings.{Held}
use Rattle.journal_core.specs.Slots.{ends_empty}
use Rattle.journal_core.proofs.Filled.{ends_at}
use Rattle.journal_core.proofs.slots.is_last_empty.Goals as goal

turned : {A : Type 0} (o : Option A) (r : Bool) → is_some o ≡ not r → r ≡ is_none o
turned None true e = refl
turned None false e = absurd (cc)
turned (Some x) true e = absurd (cc)
turned (Some x) false e = refl

pub returns-in-Some : goal.returns-in-Some
returns-in-Some g c =
    turned c.in-Some.slot.now c.is_none.result c.is_none.ensures ∙ sym
    (ends_at c.args.slots.now c.in-Some.slot.now (sym c.last.ensures.value ∙ ap option_copied c.in-Some.is))

none_last : (os : List (Option Held)) → slice_get os (length os - 1) ≡ None → false ≡ ends_empty os
none_last [] h = refl
none_last (o ∷ []) h = absurd (cc)
none_last (o ∷ p ∷ os) h =
    none_last (p ∷ os) (let e : length (o ∷ p ∷ os) - 1 ≡ suc (length (p ∷ os) - 1) = omega arith in subst
    (λ n. slice_get (o ∷ p ∷ os) n ≡ None) e h)

pub returns-in-None : goal.returns-in-None
returns-in-None g c = none_last c.args.slots.now (sym c.last.ensures.value ∙ ap option_copied c.in-None.is)
