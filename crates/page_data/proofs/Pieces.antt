-- Lists and texts that are put together piece by piece.
use Rattle.std.proofs.Common.{◌≡◌, ℕ, suc, ◌+◌, Bool, true, false, if◌then◌else◌, List, [], ◌∷◌, ◌++◌, filter, refl, sym, ap, ◌∙◌, append_assoc, arith}
use Rattle.dots_core.specs.Absorbed.{numbers}
use Rattle.dots_core.proofs.Clocks.{numbers_more}
use Rattle.page_data.specs.Carried.{clock_if}

-- what is made of so many numbers, with one number more
pub built_more : {B : Type 0} (f : ℕ → List B) (piece : ℕ → List B) (n : ℕ) (now next : List B) → ((k : ℕ) → f (suc k) ≡ f k ++ piece k) →
    now ≡ f n → next ≡ now ++ piece n → next ≡ f (n + 1)
built_more {B} f piece n now next step so_far more =
    let count : suc n ≡ n + 1 = omega arith in
    more ∙ ap (λ (t : List B). t ++ piece n) so_far ∙ sym (step n) ∙ ap f count

-- the clocks from 1 on, with one clock more
pub one_clock_more : (old now next : List ℕ) (k : ℕ) → now ≡ old ++ numbers 1 k → next ≡ now ++ (k + 1) ∷ [] → next ≡ old ++ numbers 1 (k + 1)
one_clock_more old now next k so_far more =
    let same : k + 1 ≡ 1 + k = omega arith in
    let count : suc k ≡ k + 1 = omega arith in
    more
    ∙ ap (λ (t : List ℕ). t ++ (k + 1) ∷ []) so_far
    ∙ append_assoc old (numbers 1 k) ((k + 1) ∷ [])
    ∙ ap (λ (x : ℕ). old ++ (numbers 1 k ++ x ∷ [])) same
    ∙ ap (λ (t : List ℕ). old ++ t) (numbers_more 1 k ∙ ap (numbers 1) count)

-- a filtered list, with one clock more at its beginning
pub filter_more : (p : ℕ → Bool) (clock : ℕ) (clocks : List ℕ) → filter p (clock ∷ clocks) ≡ clock_if (p clock) clock ++ filter p clocks
filter_more p clock clocks = go (p clock)
  where
    go : (b : Bool) → (if b then clock ∷ filter p clocks else filter p clocks) ≡ clock_if b clock ++ filter p clocks
    go true = refl
    go false = refl
