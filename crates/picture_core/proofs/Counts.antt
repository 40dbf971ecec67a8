-- What is counted and noted of recorded calls, one after another.
use Rattle.std.proofs.Common.{◌≡◌, ℕ, zero, suc, ◌+◌, ◌<◌, ◌≤◌, Bool, true, false, if◌then◌else◌, List, [], ◌∷◌, drop, length, Some, None, refl, sym, ap, ◌∙◌, arith}
use Rattle.std.specs.Prelude.{slice_get}
use Rattle.std.proofs.lemmas.List.{at_drop_more, at_drop_all}
use Rattle.std.proofs.lemmas.Option.{get_or_from_slice_get}
use Rattle.bench_core.specs.Machine.{Event}
use Rattle.journal_core.specs.Journals.{Kept}
use Rattle.picture_core.specs.Pictures.{calls_before, is_from}
use Rattle.picture_core.specs.Shades.{noted_from, with_reply}
use Rattle.picture_core.specs.declared.shade.Drawn.{Drawn}

before_step : (beyond : Bool) (number : ℕ) (e : Event) (es : List Event) →
    calls_before beyond number (e ∷ es) ≡ (if is_from beyond number e.reply then 0 else 1 + calls_before beyond number es)
unfolding calls_before
before_step beyond number e es = refl

before_here : (beyond : Bool) (number : ℕ) (events : List Event) (n : ℕ) (e : Event) → n < length events → slice_get events n ≡ Some e →
    calls_before beyond number (drop n events)
    ≡ (if is_from beyond number e.reply then 0 else 1 + calls_before beyond number (drop (n + 1) events))
before_here beyond number events n e within at =
    at_drop_more (calls_before beyond number) events n e within
    ∙ ap (λ (x : Event). calls_before beyond number (x ∷ drop (n + 1) events)) (get_or_from_slice_get events n e e at)
    ∙ before_step beyond number e (drop (n + 1) events)

-- one that did is found
pub before_found : (beyond : Bool) (number : ℕ) (events : List Event) (n : ℕ) (e : Event) → n < length events → slice_get events n ≡ Some e →
    is_from beyond number e.reply ≡ true → n + calls_before beyond number (drop n events) ≡ calls_before beyond number events →
    n ≡ calls_before beyond number events
before_found beyond number events n e within at is so_far =
    let none : calls_before beyond number (drop n events) ≡ 0 =
    before_here beyond number events n e within at
    ∙ ap (λ b. if b then 0 else 1 + calls_before beyond number (drop (n + 1) events)) is in
    sym (ap (λ k. n + k) none ∙ omega arith) ∙ so_far

-- one that did not is passed
pub before_passed : (beyond : Bool) (number : ℕ) (events : List Event) (n : ℕ) (e : Event) → n < length events → slice_get events n ≡ Some e →
    is_from beyond number e.reply ≡ false → n + calls_before beyond number (drop n events) ≡ calls_before beyond number events →
    (n + 1) + calls_before beyond number (drop (n + 1) events) ≡ calls_before beyond number events
before_passed beyond number events n e within at is so_far =
    let one : calls_before beyond number (drop n events) ≡ 1 + calls_before beyond number (drop (n + 1) events) =
    before_here beyond number events n e within at
    ∙ ap (λ b. if b then 0 else 1 + calls_before beyond number (drop (n + 1) events)) is in
    omega (arith, one, so_far)

before_end : (beyond : Bool) (number : ℕ) → calls_before beyond number [] ≡ 0
unfolding calls_before
before_end beyond number = refl

-- none is left
pub before_all : (beyond : Bool) (number : ℕ) (events : List Event) (n : ℕ) → n ≡ length events →
    n + calls_before beyond number (drop n events) ≡ calls_before beyond number events → n ≡ calls_before beyond number events
before_all beyond number events n all so_far =
    let none : calls_before beyond number (drop n events) ≡ 0 =
    at_drop_all (calls_before beyond number) events n (omega (arith, all)) ∙ before_end beyond number in
    sym (ap (λ k. n + k) none ∙ omega arith) ∙ so_far

noted_step : (remaining : List Kept) (painted : List ℕ) (row : ℕ) (e : Event) (es : List Event) (steps : List Drawn) →
    noted_from remaining painted row (e ∷ es) steps ≡ noted_from remaining painted (row + 1) es (with_reply remaining painted row e.reply steps)
unfolding noted_from
noted_step remaining painted row e es steps = refl

noted_end : (remaining : List Kept) (painted : List ℕ) (row : ℕ) (steps : List Drawn) → noted_from remaining painted row [] steps ≡ steps
unfolding noted_from
noted_end remaining painted row steps = refl

-- one more call is noted
pub noted_more : (remaining : List Kept) (painted : List ℕ) (events : List Event) (n : ℕ) (e : Event) (steps next start : List Drawn) →
    n < length events → slice_get events n ≡ Some e → next ≡ with_reply remaining painted n e.reply steps →
    noted_from remaining painted n (drop n events) steps ≡ start → noted_from remaining painted (n + 1) (drop (n + 1) events) next ≡ start
noted_more remaining painted events n e steps next start within at is so_far =
    ap (noted_from remaining painted (n + 1) (drop (n + 1) events)) is
    ∙ sym
    (at_drop_more (λ (es : List Event). noted_from remaining painted n es steps) events n e within
    ∙ ap (λ (x : Event). noted_from remaining painted n (x ∷ drop (n + 1) events) steps) (get_or_from_slice_get events n e e at)
    ∙ noted_step remaining painted n e (drop (n + 1) events) steps)
    ∙ so_far

-- all are noted
pub noted_all : (remaining : List Kept) (painted : List ℕ) (events : List Event) (n : ℕ) (steps start : List Drawn) → length events ≤ n →
    noted_from remaining painted n (drop n events) steps ≡ start → steps ≡ start
noted_all remaining painted events n steps start none so_far =
    sym (at_drop_all (λ (es : List Event). noted_from remaining painted n es steps) events n none ∙ noted_end remaining painted n steps) ∙ so_far

-- there is a call at each place
pub no_gap : (events : List Event) (n : ℕ) → n < length events → None ≡ slice_get events n → ⊥
no_gap [] n within none = omega arith
no_gap (e ∷ events) zero within none = let other = none in absurd (cc)
no_gap (e ∷ events) (suc n) within none = no_gap events n (omega arith) none
