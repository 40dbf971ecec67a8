-- The clocks of a name as bits.
use Rattle.std.proofs.Common.{◌≡◌, ◌≢◌, ◌⊎◌, inl, inr, ℕ, zero, suc, ◌+◌, ◌-◌, ◌*◌, ◌%◌, ◌^◌, ◌<◌, ◌≤◌, ◌==◌, nat_lt, nat_le, ◌&&◌, ◌||◌, Bool, true, false, List, [], ◌∷◌}
use Rattle.std.proofs.Common.{length, get_or, take, drop, refl, sym, ap, ◌∙◌, arith, max, min, ◌/◌}
use Rattle.std.proofs.lemmas.Bool.{eq-eqb, eqb-true, ne_eqb, cases_eq, cases_lt}
use Rattle.std.proofs.lemmas.Bool.Decides.{nat_tests}
use Rattle.std.proofs.lemmas.List.{take_more}
use Rattle.std.proofs.lemmas.Nat.Bits.{bit_at_mask_above, bit_at_mask_below, bit_at_mask_inside, bit_at_or, bit_at_set_other, bit_at_set_same, bit_at-lt, bit_at-zero}
use Rattle.std.specs.Int.{bit_at, w64}
use Rattle.std.specs.Int.RustNames.{bit_or}
use Rattle.dots_core.specs.ClockBits.{has_bit}
use Rattle.dots_core.specs.Clocks.{is_among, RisesAbove}
use Rattle.dots_core.proofs.Clocks.{among-append, not_among, rises_lower, same_tests}

-- a list that rises

above_at : (b : ℕ) (xs : List ℕ) → RisesAbove b xs → (j x : ℕ) → j < length xs → b < get_or xs j x
above_at b [] r j x within = absurd (omega (arith, within))
above_at b (c ∷ xs) r zero x within = r.0
above_at b (c ∷ xs) r (suc j) x within =
    let more = above_at c xs r.2 j x (omega (arith, within)) in
    let here = r.0 in
    omega (arith, more, here)

pub rises_drop : (b : ℕ) (xs : List ℕ) (i : ℕ) → RisesAbove b xs → RisesAbove b (drop i xs)
rises_drop b xs zero r = r
rises_drop b [] (suc i) r = tt
rises_drop b (c ∷ xs) (suc i) r = let here = r.0 in rises_lower b c (drop i xs) (omega (arith, here)) (rises_drop c xs i r.2)

module _ (low : ℕ) where
  lower : (a b : ℕ) → a < b → nat_lt b low ≡ true → nat_lt a low ≡ true
  lower a b up h = grind (arith, nat_tests)

  pub before_low : (b : ℕ) (xs : List ℕ) → RisesAbove b xs → (i j x : ℕ) → i ≤ j → j < length xs → nat_lt (get_or xs j x) low ≡ true →
      nat_lt (get_or xs i x) low ≡ true
  before_low b [] r i j x le within h = absurd (omega (arith, within))
  before_low b (c ∷ xs) r zero zero x le within h = h
  before_low b (c ∷ xs) r zero (suc j) x le within h = lower c (get_or xs j x) (above_at c xs r.2 j x (omega (arith, within))) h
  before_low b (c ∷ xs) r (suc i) zero x le within h = absurd (omega (arith, le))
  before_low b (c ∷ xs) r (suc i) (suc j) x le within h = before_low c xs r.2 i j x (omega (arith, le)) (omega (arith, within)) h

  not_low : (c k : ℕ) → nat_lt c low ≡ true → ((low + k) == c) ≡ false
  not_low c k h = let less : c < low = grind (arith, nat_tests) in ne_eqb (low + k) c (λ e. absurd (omega (arith, less, e)))

  pub below_none : (xs : List ℕ) (i : ℕ) → i ≤ length xs → ((j x : ℕ) → j < i → nat_lt (get_or xs j x) low ≡ true) → (k : ℕ) →
      is_among (low + k) (take i xs) ≡ false
  below_none xs zero within h k = refl
  below_none [] (suc i) within h k = absurd (omega (arith, within))
  below_none (c ∷ xs) (suc i) within h k =
      ap (λ t. t || is_among (low + k) (take i xs)) (not_low c k (h 0 0 (omega arith)))
      ∙ below_none xs i (omega (arith, within)) (λ j x less. h (suc j) x (omega (arith, less))) k

-- a list in two

pub among_split : (k : ℕ) (xs : List ℕ) (i : ℕ) → is_among k xs ≡ (is_among k (take i xs) || is_among k (drop i xs))
among_split k xs zero = refl
among_split k [] (suc i) = refl
among_split k (c ∷ xs) (suc i) =
    let rest = among_split k xs i in
    elim (k == c) as (λ t. (t || is_among k xs) ≡ ((t || is_among k (take i xs)) || is_among k (drop i xs))) [ true ↦ refl | false ↦ rest ]

none_behind : (b k x : ℕ) (xs : List ℕ) (i : ℕ) → RisesAbove b xs → i < length xs → k < get_or xs i x → is_among k (drop i xs) ≡ false
none_behind b k x [] i r within low = absurd (omega (arith, within))
none_behind b k x (c ∷ xs) zero r within low =
    ap (λ t. t || is_among k xs) (ne_eqb k c (λ e. absurd (omega (arith, low, e)))) ∙ not_among c xs k r.2 (omega (arith, low))
none_behind b k x (c ∷ xs) (suc i) r within low = none_behind c k x xs i r.2 (omega (arith, within)) low

or_false : (b : Bool) → (b || false) ≡ b
or_false true = refl
or_false false = refl

-- what stands behind is above
pub all_told : (b k x : ℕ) (xs : List ℕ) (i : ℕ) → RisesAbove b xs → i < length xs → k < get_or xs i x → is_among k (take i xs) ≡ is_among k xs
all_told b k x xs i r within low =
    sym (among_split k xs i ∙ ap (λ t. is_among k (take i xs) || t) (none_behind b k x xs i r within low) ∙ or_false (is_among k (take i xs)))

-- what stands before is below
pub rest_told : (k : ℕ) (xs : List ℕ) (i : ℕ) → is_among k (take i xs) ≡ false → is_among k (drop i xs) ≡ is_among k xs
rest_told k xs i none = sym (among_split k xs i ∙ ap (λ t. t || is_among k (drop i xs)) none)

or_turn : (a b : Bool) → (a || (b || false)) ≡ (b || a)
or_turn true true = refl
or_turn true false = refl
or_turn false true = refl
or_turn false false = refl

among_more : (k x : ℕ) (xs : List ℕ) (i : ℕ) → i < length xs → is_among k (take (i + 1) xs) ≡ ((k == get_or xs i x) || is_among k (take i xs))
among_more k x xs i within =
    ap (is_among k) (take_more xs i x within) ∙ among-append k (take i xs) (get_or xs i x ∷ [])
    ∙ or_turn (is_among k (take i xs)) (k == get_or xs i x)

-- one clock more
module _ (low k x : ℕ) (xs : List ℕ) (i : ℕ) (within : i < length xs) where
  pub told_more : (was new : Bool) → low ≤ get_or xs i x → new ≡ ((k == (get_or xs i x - low)) || was) → was ≡ is_among (low + k) (take i xs) →
      new ≡ is_among (low + k) (take (i + 1) xs)
  told_more was new from is so_far =
      is ∙ ap (λ t. t || was) same ∙ ap (λ t. ((low + k) == get_or xs i x) || t) so_far ∙ sym (among_more (low + k) x xs i within)
    where
      same : (k == (get_or xs i x - low)) ≡ ((low + k) == get_or xs i x)
      same =
          same_tests (k == (get_or xs i x - low)) ((low + k) == get_or xs i x)
          (λ t. let e = eqb-true k (get_or xs i x - low) t in eq-eqb (low + k) (get_or xs i x) (omega (arith, e, from)))
          (λ t. let e = eqb-true (low + k) (get_or xs i x) t in eq-eqb k (get_or xs i x - low) (omega (arith, e, from)))

  pub told_same : get_or xs i x < low → is_among (low + k) (take i xs) ≡ is_among (low + k) (take (i + 1) xs)
  told_same below =
      sym (among_more (low + k) x xs i within
      ∙ ap (λ t. t || is_among (low + k) (take i xs)) (ne_eqb (low + k) (get_or xs i x) (λ e. absurd (omega (arith, below, e)))))

-- bits

pub with_told : (bits at k : ℕ) → at < 64 → has_bit (bit_or bits (1 * 2 ^ at % 2 ^ 64)) k ≡ ((k == at) || has_bit bits k)
with_told bits at k within = go (cases_eq k at)
  where
    go : (k ≡ at) ⊎ (k ≢ at) → has_bit (bit_or bits (1 * 2 ^ at % 2 ^ 64)) k ≡ ((k == at) || has_bit bits k)
    go (inl e) =
        ap (λ b. b == 1) (ap (bit_at (bit_or bits (1 * 2 ^ at % 2 ^ 64))) e ∙ bit_at_set_same w64 bits at within)
        ∙ sym (ap (λ t. t || has_bit bits k) (eq-eqb k at e))
    go (inr d) =
        ap (λ b. b == 1) (bit_at_set_other w64 bits at within k d) ∙ sym (ap (λ t. t || has_bit bits k) (ne_eqb k at d))

span_told : (first end k : ℕ) → has_bit (2 ^ end - 2 ^ first) k ≡ (nat_le first k && nat_lt k end)
span_told first end k = go (cases_lt k first) (cases_lt k end)
  where
    go : (k < first) ⊎ (first ≤ k) → (k < end) ⊎ (end ≤ k) → has_bit (2 ^ end - 2 ^ first) k ≡ (nat_le first k && nat_lt k end)
    go (inl under) o =
        let no : (nat_le first k && nat_lt k end) ≡ false = grind (arith, nat_tests) in
        ap (λ b. b == 1) (bit_at_mask_below first end k under) ∙ sym no
    go (inr from) (inl inside) =
        let yes : (nat_le first k && nat_lt k end) ≡ true = grind (arith, nat_tests) in
        ap (λ b. b == 1) (bit_at_mask_inside first end k from inside) ∙ sym yes
    go (inr from) (inr over) =
        let no : (nat_le first k && nat_lt k end) ≡ false = grind (arith, nat_tests) in
        ap (λ b. b == 1) (bit_at_mask_above first end k over) ∙ sym no

pub run_told : (clock low first upto one two k : ℕ) → low ≤ clock → (((low ≡ 0) × (first ≡ 1)) ⊎ ((low ≢ 0) × (first ≡ 0))) →
    upto ≡ min (clock - low) 63 → one + 1 ≡ 2 ^ (upto + 1) → two + 1 ≡ 2 ^ first → k < 64 →
    has_bit (one - two) k ≡ (nat_lt 0 (low + k) && nat_le (low + k) clock)
run_told clock low first upto one two k from is upto_is one_is two_is within =
    ap (λ n. has_bit n k) span ∙ span_told first (upto + 1) k ∙ same is
  where
    span : one - two ≡ 2 ^ (upto + 1) - 2 ^ first
    span = omega (arith, one_is, two_is)

    same : ((low ≡ 0) × (first ≡ 1)) ⊎ ((low ≢ 0) × (first ≡ 0)) → (nat_le first k && nat_lt k (upto + 1)) ≡ (nat_lt 0 (low + k) && nat_le (low + k) clock)
    same (inl (z, f)) = grind (arith, nat_tests)
    same (inr (z, f)) = grind (arith, nat_tests)

or_one : (a b : ℕ) → a < 2 → b < 2 → (max a b == 1) ≡ ((a == 1) || (b == 1))
or_one zero zero s t = refl
or_one zero (suc zero) s t = refl
or_one (suc zero) zero s t = refl
or_one (suc zero) (suc zero) s t = refl
or_one (suc (suc a)) b s t = absurd (omega (arith, s))
or_one zero (suc (suc b)) s t = absurd (omega (arith, t))
or_one (suc zero) (suc (suc b)) s t = absurd (omega (arith, t))

pub or_told : (a b k : ℕ) → has_bit (bit_or a b) k ≡ (has_bit a k || has_bit b k)
or_told a b k = ap (λ n. n == 1) (bit_at_or a b k) ∙ or_one (bit_at a k) (bit_at b k) (bit_at-lt a k) (bit_at-lt b k)

-- a clock by its quotient and its remainder
pub clock_back : (clock base : ℕ) → clock / 64 ≡ base → base * 64 + clock % 64 ≡ clock
clock_back clock base is = omega (arith, is)

pub no_bit : (k : ℕ) → has_bit 0 k ≡ false
no_bit k = ap (λ b. b == 1) (bit_at-zero k)
