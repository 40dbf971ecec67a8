-- What a search in a cloud finds, and the clocks after one more, one less, and the union of two parts.
use Rattle.std.proofs.Common.{◌≡◌, ◌≢◌, ◌⊎◌, inl, inr, ℕ, suc, ◌+◌, ◌-◌, ◌<◌, ◌≤◌, ◌==◌, nat_lt, nat_le, ◌&&◌, ◌||◌, not, Bool, true, false, List, ◌∷◌}
use Rattle.std.proofs.Common.{◌++◌, length, get_or, take, drop, Ok, Err, is_ok, refl, sym, ap, subst, ◌∙◌, arith}
use Rattle.std.proofs.lemmas.Bool.{eq-eqb, ne_eqb, cases_eq, cases_lt, false_from_ne_true, or_left}
use Rattle.std.proofs.lemmas.Bool.Decides.{nat_tests}
use Rattle.std.proofs.lemmas.List.Sorted.{searched}
use Rattle.std.specs.List.Sorted.{IsBinarySearchResult}
use Rattle.std.specs.Prelude.{Result}
use Rattle.std.specs.Ordering.{nat_cmp}
use Rattle.dots_core.specs.Clocks.{Clocks, is_among, holds, RisesAbove, IsCanonical}
use Rattle.dots_core.specs.Absorbed.{absorbed, numbers}
use Rattle.dots_core.proofs.Clocks.{or_swap, among_place, among_at, among-append, among-insert, among-remove, not_among, rises_lower, rises_order}
use Rattle.dots_core.proofs.Clocks.{rises-insert, rises-remove, rises-numbers, among-numbers, absorbs, absorbed_canonical}

-- a search

abbrev pub Searched : ℕ → List ℕ → Result ℕ ℕ → Type 0
Searched x xs r = IsBinarySearchResult (λ y. nat_cmp y x) xs r

pub found_at : (b x : ℕ) (xs : List ℕ) (i : ℕ) → RisesAbove b xs → Searched x xs (Ok i) → (i < length xs) × (get_or xs i 0 ≡ x)
found_at b x xs i h r = searched xs x (Ok i) r (rises_order b xs h)

pub put_at : (b x : ℕ) (xs : List ℕ) (i : ℕ) → RisesAbove b xs → Searched x xs (Err i) →
    (i ≤ length xs) × ((k : ℕ) → k < i → get_or xs k 0 < x) × ((k : ℕ) → i ≤ k → k < length xs → x < get_or xs k 0)
put_at b x xs i h r = searched xs x (Err i) r (rises_order b xs h)

pub found_among : (b x : ℕ) (xs : List ℕ) (i : ℕ) → RisesAbove b xs → Searched x xs (Ok i) → is_among x xs ≡ true
found_among b x xs i h r = let p = found_at b x xs i h r in among_at xs i x p.0 p.1

pub unfound_among : (b x : ℕ) (xs : List ℕ) (i : ℕ) → RisesAbove b xs → Searched x xs (Err i) → is_among x xs ≡ false
unfound_among b x xs i h r =
    false_from_ne_true _ (λ t. let p = put_at b x xs i h r in let q = among_place xs x t in go p q (cases_lt q.0 i))
  where
    go : (i ≤ length xs) × ((k : ℕ) → k < i → get_or xs k 0 < x) × ((k : ℕ) → i ≤ k → k < length xs → x < get_or xs k 0) →
        (q : (k : ℕ) × (k < length xs) × (get_or xs k 0 ≡ x)) → (q.0 < i) ⊎ (i ≤ q.0) → ⊥
    go p q (inl lt) = let below = p.1 q.0 lt in absurd (omega (arith, q.2))
    go p q (inr le) = let above = p.2 q.0 le q.1 in absurd (omega (arith, q.2))

pub search_among : (b x : ℕ) (xs : List ℕ) (r : Result ℕ ℕ) → RisesAbove b xs → Searched x xs r → is_ok r ≡ is_among x xs
search_among b x xs (Ok i) h r = sym (found_among b x xs i h r)
search_among b x xs (Err i) h r = sym (unfound_among b x xs i h r)

-- a clock that is not past the context clock
pub holds_upto : (p : Clocks) (k : ℕ) → IsCanonical p → k ≤ p.clock → holds p k ≡ nat_lt 0 k
holds_upto p k h le =
    let no = not_among (p.clock + 1) p.cloud k h.rises (omega arith) in let low : nat_le k p.clock ≡ true = grind (arith, nat_tests) in
    (λ i. (nat_lt 0 k && low i) || no i) ∙ both (nat_lt 0 k)
  where
    both : (a : Bool) → ((a && true) || false) ≡ a
    both true = refl
    both false = refl

-- one more

pub gains_itself : (p : Clocks) (k : ℕ) → holds p k ≡ true → (j : ℕ) → holds p j ≡ ((j == k) || holds p j)
gains_itself p k h j = go (cases_eq j k)
  where
    go : (j ≡ k) ⊎ (j ≢ k) → holds p j ≡ ((j == k) || holds p j)
    go (inl e) = ap (holds p) e ∙ h ∙ sym (or_left (j == k) (holds p j) (eq-eqb j k e))
    go (inr d) = sym (ap (λ b. b || holds p j) (ne_eqb j k d))

one_up : (c k j : ℕ) (b : Bool) → k ≡ c + 1 → ((nat_lt 0 j && nat_le j k) || b) ≡ ((j == k) || ((nat_lt 0 j && nat_le j c) || b))
one_up c k j b e = grind (arith, nat_tests)

-- the clock after the context clock, with what the cloud goes on with
pub gains_next : (p u : Clocks) (k : ℕ) → IsCanonical p → k ≡ p.clock + 1 → absorbed k p.cloud ≡ u → (j : ℕ) →
    holds u j ≡ ((j == k) || holds p j)
gains_next p u k h e is j =
    let up : RisesAbove k p.cloud = rises_lower k (p.clock + 1) p.cloud (omega arith) h.rises in
    ap (λ u. holds u j) (sym is) ∙ absorbs k p.cloud up j ∙ one_up p.clock k j (is_among j p.cloud) e

pub next_canonical : (p u : Clocks) (k : ℕ) → IsCanonical p → k ≡ p.clock + 1 → k ≤ 1000000000 → absorbed k p.cloud ≡ u → IsCanonical u
next_canonical p u k h e last is =
    subst IsCanonical is (absorbed_canonical k p.cloud last (rises_lower k (p.clock + 1) p.cloud (omega arith) h.rises))

-- a clock that goes into the cloud
pub gains_in_cloud : (c k i : ℕ) (xs ys : List ℕ) → ys ≡ take i xs ++ k ∷ drop i xs → (j : ℕ) →
    holds (record { clock = c; cloud = ys }) j ≡ ((j == k) || holds (record { clock = c; cloud = xs }) j)
gains_in_cloud c k i xs ys e j =
    ap (λ zs. (nat_lt 0 j && nat_le j c) || is_among j zs) e ∙ ap (λ b. (nat_lt 0 j && nat_le j c) || b) (among-insert j k xs i)
    ∙ or_swap (nat_lt 0 j && nat_le j c) (j == k) (is_among j xs)

pub in_cloud_canonical : (c k i : ℕ) (xs ys : List ℕ) → IsCanonical (record { clock = c; cloud = xs }) → c + 1 < k → k ≤ 1000000000 →
    Searched k xs (Err i) → ys ≡ take i xs ++ k ∷ drop i xs → IsCanonical (record { clock = c; cloud = ys })
in_cloud_canonical c k i xs ys h above last r e =
    let p = put_at (c + 1) k xs i h.rises r in
    record { last = h.last; rises = subst (RisesAbove (c + 1)) (sym e) (rises-insert (c + 1) k xs i h.rises above last p.0 p.1 p.2) }

-- one less

pub loses_nothing : (p : Clocks) (k : ℕ) → holds p k ≡ false → (j : ℕ) → holds p j ≡ (not (j == k) && holds p j)
loses_nothing p k h j = go (cases_eq j k)
  where
    go : (j ≡ k) ⊎ (j ≢ k) → holds p j ≡ (not (j == k) && holds p j)
    go (inl e) = ap (holds p) e ∙ h ∙ sym (ap (λ b. not b && holds p j) (eq-eqb j k e))
    go (inr d) = sym (ap (λ b. not b && holds p j) (ne_eqb j k d))

one_down : (c k j : ℕ) (b : Bool) → 0 < k → k ≤ c → (j ≡ k → b ≡ false) →
    ((nat_lt 0 j && nat_le j (k - 1)) || ((nat_le (k + 1) j && nat_lt j (k + 1 + (c - k))) || b)) ≡
    (not (j == k) && ((nat_lt 0 j && nat_le j c) || b))
one_down c k j b pos le other = grind (arith, nat_tests)

-- a clock up to the context clock: what is above it goes into the cloud
pub loses_low : (c k : ℕ) (xs ys : List ℕ) → IsCanonical (record { clock = c; cloud = xs }) → 0 < k → k ≤ c →
    ys ≡ numbers (k + 1) (c + 1 - (k + 1)) ++ xs → (j : ℕ) →
    holds (record { clock = k - 1; cloud = ys }) j ≡ (not (j == k) && holds (record { clock = c; cloud = xs }) j)
loses_low c k xs ys h pos le e j =
    let n : c + 1 - (k + 1) ≡ c - k = omega arith in
    ap (λ zs. (nat_lt 0 j && nat_le j (k - 1)) || is_among j zs) (e ∙ ap (λ n. numbers (k + 1) n ++ xs) n)
    ∙ ap (λ b. (nat_lt 0 j && nat_le j (k - 1)) || b)
    (among-append j (numbers (k + 1) (c - k)) xs ∙ ap (λ b. b || is_among j xs) (among-numbers j (k + 1) (c - k)))
    ∙ one_down c k j (is_among j xs) pos le (λ (t : j ≡ k). not_among (c + 1) xs j h.rises (omega arith))

pub low_canonical : (c k : ℕ) (xs ys : List ℕ) → IsCanonical (record { clock = c; cloud = xs }) → 0 < k → k ≤ c →
    ys ≡ numbers (k + 1) (c + 1 - (k + 1)) ++ xs → IsCanonical (record { clock = k - 1; cloud = ys })
low_canonical c k xs ys h pos le e =
    let last = h.last in
    let up : RisesAbove (k + 1 + (c + 1 - (k + 1))) xs = rises_lower _ (c + 1) xs (omega arith) h.rises in
    let low : RisesAbove (k - 1 + 1) xs = rises_lower _ (c + 1) xs (omega arith) h.rises in
    record {
      last = omega arith;
      rises =
          subst (RisesAbove (k - 1 + 1)) (sym e) (rises-numbers (k - 1 + 1) (k + 1) (c + 1 - (k + 1)) xs (omega arith) (omega arith) low up);
    }

-- a clock of the cloud
pub loses_in_cloud : (c k i : ℕ) (xs ys : List ℕ) → IsCanonical (record { clock = c; cloud = xs }) → c < k → Searched k xs (Ok i) →
    ys ≡ take i xs ++ drop (suc i) xs → (j : ℕ) →
    holds (record { clock = c; cloud = ys }) j ≡ (not (j == k) && holds (record { clock = c; cloud = xs }) j)
loses_in_cloud c k i xs ys h above r e j =
    let p = found_at (c + 1) k xs i h.rises r in
    ap (λ zs. (nat_lt 0 j && nat_le j c) || is_among j zs) e
    ∙ ap (λ b. (nat_lt 0 j && nat_le j c) || b) (among-remove (c + 1) j xs i h.rises p.0 ∙ ap (λ z. not (j == z) && is_among j xs) p.1)
    ∙ apart (is_among j xs)
  where
    apart : (b : Bool) → ((nat_lt 0 j && nat_le j c) || (not (j == k) && b)) ≡ (not (j == k) && ((nat_lt 0 j && nat_le j c) || b))
    apart true = grind (arith, nat_tests)
    apart false = grind (arith, nat_tests)

pub out_of_cloud_canonical : (c i : ℕ) (xs ys : List ℕ) → IsCanonical (record { clock = c; cloud = xs }) →
    ys ≡ take i xs ++ drop (suc i) xs → IsCanonical (record { clock = c; cloud = ys })
out_of_cloud_canonical c i xs ys h e =
    record { last = h.last; rises = subst (RisesAbove (c + 1)) (sym e) (rises-remove (c + 1) xs i h.rises) }
