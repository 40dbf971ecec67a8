-- The clocks of one name: what a cloud has, that it rises, and that there is one way to keep a set of clocks.
use Rattle.std.proofs.Common.{◌≡◌, ◌≢◌, ◌⊎◌, inl, inr, ℕ, zero, suc, ◌+◌, ◌<◌, ◌≤◌, ◌==◌, nat_lt, nat_le, ◌&&◌, ◌||◌, not, Bool, true, false, List, [], ◌∷◌}
use Rattle.std.proofs.Common.{◌++◌, length, get_or, take, drop, if◌then◌else◌, refl, sym, ap, subst, ◌∙◌, arith, true≢false}
use Rattle.std.proofs.Math.Bool.{or_assoc}
use Rattle.std.proofs.lemmas.Bool.{eq-eqb, eqb-true, eqb-false, ne_eqb, cases_eq, cases_lt, false_from_ne_true, or_left, or_right, or_cases}
use Rattle.std.proofs.lemmas.Bool.Decides.{nat_tests}
use Rattle.dots_core.specs.Clocks.{Clocks, is_among, holds, RisesAbove, IsCanonical}
use Rattle.dots_core.specs.Absorbed.{absorbed, numbers}

-- tests

pub same_tests : (a b : Bool) → (a ≡ true → b ≡ true) → (b ≡ true → a ≡ true) → a ≡ b
same_tests true b h k = sym (h refl)
same_tests false true h k = k refl
same_tests false false h k = refl

pub or_swap : (a b c : Bool) → (a || (b || c)) ≡ (b || (a || c))
or_swap true true c = refl
or_swap true false c = refl
or_swap false b c = refl

-- what a list has

pub among_head : (x : ℕ) (xs : List ℕ) → is_among x (x ∷ xs) ≡ true
among_head x xs = or_left (x == x) _ (eq-eqb x x refl)

pub among_tail : (k x : ℕ) (xs : List ℕ) → is_among k xs ≡ true → is_among k (x ∷ xs) ≡ true
among_tail k x xs h = or_right (k == x) _ h

pub among_cases : (k x : ℕ) (xs : List ℕ) → is_among k (x ∷ xs) ≡ true → (k ≡ x) ⊎ (is_among k xs ≡ true)
among_cases k x xs h = go (or_cases (k == x) (is_among k xs) h)
  where
    go : ((k == x) ≡ true) ⊎ (is_among k xs ≡ true) → (k ≡ x) ⊎ (is_among k xs ≡ true)
    go (inl e) = inl (eqb-true k x e)
    go (inr h) = inr h

pub among_at : (xs : List ℕ) (i k : ℕ) → i < length xs → get_or xs i 0 ≡ k → is_among k xs ≡ true
among_at [] i k h e = absurd (omega arith)
among_at (x ∷ xs) zero k h e = or_left (k == x) _ (eq-eqb k x (sym e))
among_at (x ∷ xs) (suc i) k h e = or_right (k == x) _ (among_at xs i k (omega arith) e)

-- where it stands
pub among_place : (xs : List ℕ) (k : ℕ) → is_among k xs ≡ true → (i : ℕ) × (i < length xs) × (get_or xs i 0 ≡ k)
among_place [] k h = absurd (true≢false (sym h))
among_place (x ∷ xs) k h = go (among_place xs k) (among_cases k x xs h)
  where
    go : (is_among k xs ≡ true → (i : ℕ) × (i < length xs) × (get_or xs i 0 ≡ k)) → (k ≡ x) ⊎ (is_among k xs ≡ true) →
        (i : ℕ) × (i < suc (length xs)) × (get_or (x ∷ xs) i 0 ≡ k)
    go later (inl e) = (0, omega arith, sym e)
    go later (inr t) = let p = later t in (suc p.0, omega arith, p.2)

pub among-append : (k : ℕ) (xs ys : List ℕ) → is_among k (xs ++ ys) ≡ (is_among k xs || is_among k ys)
among-append k [] ys = refl
among-append k (x ∷ xs) ys = ap (λ b. (k == x) || b) (among-append k xs ys) ∙ sym (or_assoc (k == x) (is_among k xs) (is_among k ys))

-- lists that rise

pub rises_lower : (a b : ℕ) (xs : List ℕ) → a ≤ b → RisesAbove b xs → RisesAbove a xs
rises_lower a b [] le h = tt
rises_lower a b (x ∷ xs) le h = (omega arith, h.1, h.2)

pub rises_within : (b : ℕ) (xs : List ℕ) (k : ℕ) → RisesAbove b xs → is_among k xs ≡ true → (b < k) × (k ≤ 1000000000)
rises_within b [] k h t = absurd (true≢false (sym t))
rises_within b (x ∷ xs) k h t = go (rises_within x xs k h.2) (among_cases k x xs t)
  where
    go : (is_among k xs ≡ true → (x < k) × (k ≤ 1000000000)) → (k ≡ x) ⊎ (is_among k xs ≡ true) → (b < k) × (k ≤ 1000000000)
    go later (inl e) = (omega arith, omega arith)
    go later (inr t) = let r = later t in (omega arith, r.1)

-- a number that is no higher than the bound is not in it
pub not_among : (b : ℕ) (xs : List ℕ) (k : ℕ) → RisesAbove b xs → k ≤ b → is_among k xs ≡ false
not_among b xs k h le = false_from_ne_true _ (λ t. let r = rises_within b xs k h t in absurd (omega arith))

pub rises_at : (b : ℕ) (xs : List ℕ) → RisesAbove b xs → (i : ℕ) → i < length xs → (b < get_or xs i 0) × (get_or xs i 0 ≤ 1000000000)
rises_at b xs h i lt = rises_within b xs (get_or xs i 0) h (among_at xs i (get_or xs i 0) lt refl)

pub rises_order : (b : ℕ) (xs : List ℕ) → RisesAbove b xs → (i j : ℕ) → i ≤ j → j < length xs → get_or xs i 0 ≤ get_or xs j 0
rises_order b [] h i j le lt = absurd (omega arith)
rises_order b (x ∷ xs) h zero zero le lt = omega arith
rises_order b (x ∷ xs) h zero (suc j) le lt = let at = rises_at x xs h.2 j (omega arith) in omega arith
rises_order b (x ∷ xs) h (suc i) zero le lt = absurd (omega arith)
rises_order b (x ∷ xs) h (suc i) (suc j) le lt = rises_order x xs h.2 i j (omega arith) (omega arith)

-- a list that rises is given by what it has
pub same_rising : (b : ℕ) (xs ys : List ℕ) → RisesAbove b xs → RisesAbove b ys → ((k : ℕ) → is_among k xs ≡ is_among k ys) → xs ≡ ys
same_rising b [] [] h k e = refl
same_rising b [] (y ∷ ys) h k e = absurd (true≢false (sym (e y ∙ among_head y ys)))
same_rising b (x ∷ xs) [] h k e = absurd (true≢false (sym (among_head x xs) ∙ e x))
same_rising b (x ∷ xs) (y ∷ ys) h k e =
    let first : x ≡ y = heads (among_cases x y ys (sym (e x) ∙ among_head x xs)) (among_cases y x xs (e y ∙ among_head y ys)) in
    let up : RisesAbove x ys = subst (λ z. RisesAbove z ys) (sym first) k.2 in
    let rest : xs ≡ ys = same_rising x xs ys h.2 up (λ n. tails n first up (cases_eq n x)) in
    λ i. first i ∷ rest i
  where
    heads : (x ≡ y) ⊎ (is_among x ys ≡ true) → (y ≡ x) ⊎ (is_among y xs ≡ true) → x ≡ y
    heads (inl p) q = p
    heads (inr p) (inl q) = sym q
    heads (inr p) (inr q) = let s = rises_within y ys x k.2 p in let t = rises_within x xs y h.2 q in absurd (omega arith)

    tails : (n : ℕ) → x ≡ y → RisesAbove x ys → (n ≡ x) ⊎ (n ≢ x) → is_among n xs ≡ is_among n ys
    tails n first up (inl p) = not_among x xs n h.2 (omega arith) ∙ sym (not_among x ys n up (omega arith))
    tails n first up (inr p) =
        sym (ap (λ b. b || is_among n xs) (ne_eqb n x p)) ∙ e n ∙ ap (λ b. b || is_among n ys) (ne_eqb n y (λ q. p (q ∙ sym first)))

-- one more and one less

pub among-insert : (k x : ℕ) (xs : List ℕ) (i : ℕ) → is_among k (take i xs ++ x ∷ drop i xs) ≡ ((k == x) || is_among k xs)
among-insert k x xs zero = refl
among-insert k x [] (suc i) = refl
among-insert k x (y ∷ xs) (suc i) = ap (λ b. (k == y) || b) (among-insert k x xs i) ∙ or_swap (k == y) (k == x) (is_among k xs)

pub rises-insert : (b x : ℕ) (xs : List ℕ) (i : ℕ) → RisesAbove b xs → b < x → x ≤ 1000000000 → i ≤ length xs
    → ((k : ℕ) → k < i → get_or xs k 0 < x) → ((k : ℕ) → i ≤ k → k < length xs → x < get_or xs k 0) →
    RisesAbove b (take i xs ++ x ∷ drop i xs)
rises-insert b x [] zero h up last lt low high = (up, last, tt)
rises-insert b x [] (suc i) h up last lt low high = absurd (omega arith)
rises-insert b x (y ∷ xs) zero h up last lt low high = (up, last, (high 0 (omega arith) (omega arith), h.1, h.2))
rises-insert b x (y ∷ xs) (suc i) h up last lt low high = (
  h.0,
  h.1,
  rises-insert y x xs i h.2 (low 0 (omega arith)) last (omega arith) (λ k p. low (suc k) (omega arith))
      (λ k p q. high (suc k) (omega arith) (omega arith)),
)

pub rises-append : (b x : ℕ) (xs : List ℕ) → RisesAbove b xs → b < x → x ≤ 1000000000 → ((k : ℕ) → is_among k xs ≡ true → k < x) →
    RisesAbove b (xs ++ x ∷ [])
rises-append b x [] h up last below = (up, last, tt)
rises-append b x (y ∷ xs) h up last below =
    (h.0, h.1, rises-append y x xs h.2 (below y (among_head y xs)) last (λ k t. below k (among_tail k y xs t)))

pub rises-remove : (b : ℕ) (xs : List ℕ) (i : ℕ) → RisesAbove b xs → RisesAbove b (take i xs ++ drop (suc i) xs)
rises-remove b [] zero h = tt
rises-remove b [] (suc i) h = tt
rises-remove b (x ∷ xs) zero h = rises_lower b x xs (omega arith) h.2
rises-remove b (x ∷ xs) (suc i) h = (h.0, h.1, rises-remove x xs i h.2)

pub among-remove : (b k : ℕ) (xs : List ℕ) (i : ℕ) → RisesAbove b xs → i < length xs →
    is_among k (take i xs ++ drop (suc i) xs) ≡ (not (k == get_or xs i 0) && is_among k xs)
among-remove b k [] i h lt = absurd (omega arith)
among-remove b k (x ∷ xs) zero h lt = go (cases_eq k x)
  where
    go : (k ≡ x) ⊎ (k ≢ x) → is_among k xs ≡ (not (k == x) && ((k == x) || is_among k xs))
    go (inl e) = not_among x xs k h.2 (omega arith) ∙ sym (ap (λ t. not t && (t || is_among k xs)) (eq-eqb k x e))
    go (inr d) = sym (ap (λ t. not t && (t || is_among k xs)) (ne_eqb k x d))
among-remove b k (x ∷ xs) (suc i) h lt =
    ap (λ t. (k == x) || t) (among-remove x k xs i h.2 (omega arith)) ∙ go (cases_eq k x)
  where
    go : (k ≡ x) ⊎ (k ≢ x) → ((k == x) || (not (k == get_or xs i 0) && is_among k xs)) ≡
        (not (k == get_or xs i 0) && ((k == x) || is_among k xs))
    go (inl e) =
        let up = rises_at x xs h.2 i (omega arith) in
        let other : (k == get_or xs i 0) ≡ false = ne_eqb k _ (λ q. absurd (omega arith)) in
        ap (λ t. t || (not (k == get_or xs i 0) && is_among k xs)) (eq-eqb k x e)
        ∙ sym (ap (λ t. not t && ((k == x) || is_among k xs)) other ∙ ap (λ t. t || is_among k xs) (eq-eqb k x e))
    go (inr d) =
        ap (λ t. t || (not (k == get_or xs i 0) && is_among k xs)) (ne_eqb k x d)
        ∙ sym (ap (λ t. not (k == get_or xs i 0) && (t || is_among k xs)) (ne_eqb k x d))

-- the clocks that a part has

pub holds_low : (p : Clocks) (k : ℕ) → 0 < k → k ≤ p.clock → holds p k ≡ true
holds_low p k pos le = or_left _ (is_among k p.cloud) (grind (arith, nat_tests))

pub holds_high : (p : Clocks) (k : ℕ) → p.clock < k → holds p k ≡ is_among k p.cloud
holds_high p k lt = let no : (nat_lt 0 k && nat_le k p.clock) ≡ false = grind (arith, nat_tests) in ap (λ b. b || is_among k p.cloud) no

pub holds_cases : (p : Clocks) (k : ℕ) → holds p k ≡ true → ((0 < k) × (k ≤ p.clock)) ⊎ (is_among k p.cloud ≡ true)
holds_cases p k h = go (or_cases (nat_lt 0 k && nat_le k p.clock) (is_among k p.cloud) h)
  where
    go : ((nat_lt 0 k && nat_le k p.clock) ≡ true) ⊎ (is_among k p.cloud ≡ true) → ((0 < k) × (k ≤ p.clock)) ⊎ (is_among k p.cloud ≡ true)
    go (inl e) = let pos : 0 < k = grind (arith, nat_tests) in let le : k ≤ p.clock = grind (arith, nat_tests) in inl (pos, le)
    go (inr t) = inr t

pub holds_zero : (p : Clocks) → IsCanonical p → holds p 0 ≡ false
holds_zero p h = not_among (p.clock + 1) p.cloud 0 h.rises (omega arith)

-- the clock after the context clock is not among them
pub holds_next : (p : Clocks) → IsCanonical p → holds p (p.clock + 1) ≡ false
holds_next p h = holds_high p (p.clock + 1) (omega arith) ∙ not_among (p.clock + 1) p.cloud (p.clock + 1) h.rises (omega arith)

pub holds_valid : (p : Clocks) (k : ℕ) → IsCanonical p → holds p k ≡ true → (0 < k) × (k ≤ 1000000000)
holds_valid p k h t = go (holds_cases p k t)
  where
    go : ((0 < k) × (k ≤ p.clock)) ⊎ (is_among k p.cloud ≡ true) → (0 < k) × (k ≤ 1000000000)
    go (inl e) = let last = h.last in (e.0, omega arith)
    go (inr e) = let r = rises_within (p.clock + 1) p.cloud k h.rises e in (omega arith, r.1)

-- two parts with the same clocks are one
pub same_clocks : (p q : Clocks) → IsCanonical p → IsCanonical q → ((k : ℕ) → holds p k ≡ holds q k) → p ≡ q
same_clocks p q h k e = λ i. record { clock = clock i; cloud = cloud i }
  where
    no_less : (a b : Clocks) → IsCanonical a → IsCanonical b → ((k : ℕ) → holds a k ≡ holds b k) → b.clock ≤ a.clock
    no_less a b h k e =
        omega (
          arith,
          λ (lt : a.clock < b.clock). true≢false
              (sym (holds_low b (a.clock + 1) (omega arith) (omega arith)) ∙ sym (e (a.clock + 1)) ∙ holds_next a h),
        )

    clock : p.clock ≡ q.clock
    clock = let a = no_less p q h k e in let b = no_less q p k h (λ n. sym (e n)) in omega arith

    members : (n : ℕ) → (p.clock + 1 < n) ⊎ (n ≤ p.clock + 1) → is_among n p.cloud ≡ is_among n q.cloud
    members n (inr le) =
        not_among (p.clock + 1) p.cloud n h.rises le ∙ sym (not_among (q.clock + 1) q.cloud n k.rises (omega (arith, clock)))
    members n (inl lt) = sym (holds_high p n (omega arith)) ∙ e n ∙ holds_high q n (omega (arith, clock))

    cloud : p.cloud ≡ q.cloud
    cloud =
        same_rising (p.clock + 1) p.cloud q.cloud h.rises (rises_lower (p.clock + 1) (q.clock + 1) q.cloud (omega (arith, clock)) k.rises)
        (λ n. members n (cases_lt (p.clock + 1) n))

-- the cloud goes into the clock

one_more : (c x k : ℕ) (b : Bool) → x ≡ c + 1 → ((nat_lt 0 k && nat_le k (c + 1)) || b) ≡ ((nat_lt 0 k && nat_le k c) || ((k == x) || b))
one_more c x k b e = grind (arith, nat_tests)

pub absorbs : (c : ℕ) (xs : List ℕ) → RisesAbove c xs → (k : ℕ) → holds (absorbed c xs) k ≡ holds (record { clock = c; cloud = xs }) k
absorbs c [] h k = refl
absorbs c (x ∷ xs) h k = go (x == c + 1) refl (λ up. absorbs (c + 1) xs up k)
  where
    go : (b : Bool) → (x == c + 1) ≡ b →
        (RisesAbove (c + 1) xs → holds (absorbed (c + 1) xs) k ≡ holds (record { clock = c + 1; cloud = xs }) k)
        → holds (if b then absorbed (c + 1) xs else record { clock = c; cloud = x ∷ xs }) k ≡ holds (record { clock = c; cloud = x ∷ xs }) k
    go true e later =
        let next : x ≡ c + 1 = eqb-true x (c + 1) e in
        later (subst (λ z. RisesAbove z xs) next h.2) ∙ one_more c x k (is_among k xs) next
    go false e later = refl

pub absorbed_canonical : (c : ℕ) (xs : List ℕ) → c ≤ 1000000000 → RisesAbove c xs → IsCanonical (absorbed c xs)
absorbed_canonical c [] last h = record { last = last; rises = tt }
absorbed_canonical c (x ∷ xs) last h = go (x == c + 1) refl (absorbed_canonical (c + 1) xs)
  where
    go : (b : Bool) → (x == c + 1) ≡ b → (c + 1 ≤ 1000000000 → RisesAbove (c + 1) xs → IsCanonical (absorbed (c + 1) xs)) →
        IsCanonical (if b then absorbed (c + 1) xs else record { clock = c; cloud = x ∷ xs })
    go true e later = let next : x ≡ c + 1 = eqb-true x (c + 1) e in later (omega arith) (subst (λ z. RisesAbove z xs) next h.2)
    go false e later = let other : x ≢ c + 1 = eqb-false x (c + 1) e in record { last = last; rises = (omega arith, h.1, h.2) }

-- a run of numbers

pub among-numbers : (k a n : ℕ) → is_among k (numbers a n) ≡ (nat_le a k && nat_lt k (a + n))
among-numbers k a zero = grind (arith, nat_tests)
among-numbers k a (suc n) = ap (λ b. (k == a) || b) (among-numbers k (suc a) n) ∙ grind (arith, nat_tests)

pub numbers_more : (a n : ℕ) → numbers a n ++ (a + n) ∷ [] ≡ numbers a (suc n)
numbers_more a zero = let e : a + 0 ≡ a = omega arith in ap (λ z. z ∷ []) e
numbers_more a (suc n) =
    let e : a + suc n ≡ suc a + n = omega arith in ap (λ z. a ∷ (numbers (suc a) n ++ z ∷ [])) e ∙ ap (λ z. a ∷ z) (numbers_more (suc a) n)

pub rises-numbers : (b a n : ℕ) (xs : List ℕ) → b < a → a + n ≤ 1000000001 → RisesAbove b xs → RisesAbove (a + n) xs →
    RisesAbove b (numbers a n ++ xs)
rises-numbers b a zero xs lt last h up = h
rises-numbers b a (suc n) xs lt last h up = (
  lt,
  omega arith,
  rises-numbers a (suc a) n xs (omega arith) (omega arith) (rises_lower a (a + suc n) xs (omega arith) up)
      (rises_lower (suc a + n) (a + suc n) xs (omega arith) up),
)
