-- The union of two parts, taken from the least clock on.
use Rattle.std.proofs.Common.{◌≡◌, ◌≢◌, ◌⊎◌, inl, inr, ℕ, zero, suc, ◌+◌, ◌<◌, ◌≤◌, ◌==◌, nat_lt, nat_le, ◌&&◌, ◌||◌, not, min, max, Bool, true, false}
use Rattle.std.proofs.Common.{List, [], ◌∷◌, ◌++◌, length, get_or, slice_set, get_or-set_same, get_or-set_other, take, if◌then◌else◌, Some, None, refl, sym}
use Rattle.std.proofs.Common.{ap, subst, ◌∙◌, arith, true≢false}
use Rattle.std.proofs.Math.Bool.{and-false, and_comm, or-false, or_assoc, or_comm}
use Rattle.std.proofs.lemmas.Bool.{eq-eqb, eqb-true, eqb-false, cases_eq, cases_lt, or_left, or_right, or_cases}
use Rattle.std.proofs.lemmas.Bool.Decides.{nat_tests}
use Rattle.std.specs.List.{slice_get}
use Rattle.std.specs.FinSet as set
use Rattle.dots_core.specs.declared.dot.Dot.{Dot}
use Rattle.dots_core.specs.Dots.{Dots, of_names}
use Rattle.dots_core.specs.Names.{Names, HasAll}
use Rattle.dots_core.specs.Clocks.{Clocks, no_clocks, is_among, holds, RisesAbove, IsCanonical, Gains, IsUnion}
use Rattle.dots_core.specs.Parts.{dots_of_parts, part_at, AreParts}
use Rattle.dots_core.specs.Unions.{IsLeast, without_first, AddsOnly, GainsEach, HasEach, HaveNone, IsGrown, IsUnionFrom}
use Rattle.dots_core.proofs.Clocks.{or_swap, same_tests, among_head, among_cases, rises_lower, rises_within, rises-append, holds_low, holds_cases, same_clocks}
use Rattle.dots_core.proofs.Names.{contains-remove_name}
use Rattle.dots_core.proofs.Sets.{contains-retain, contains-union, same_dots}
use Rattle.dots_core.proofs.Parts.{contains-dots_of_parts, part_past, canonical_at, parts_set, at_set, read_part, holds_none, empty_part, chosen_dots}

-- the first of a list that rises is its least

pub first_least : (xs : List ℕ) (x : ℕ) → RisesAbove 0 xs → Some x ≡ slice_get xs 0 →
    (is_among x xs ≡ true) × ((k : ℕ) → is_among k xs ≡ true → x ≤ k)
first_least [] x h e = absurd (cc)
first_least (y ∷ ys) x h e = let first : x ≡ y = cc in (or_left (x == y) _ (eq-eqb x y first), λ k t. go k first (among_cases k y ys t))
  where
    go : (k : ℕ) → x ≡ y → (k ≡ y) ⊎ (is_among k ys ≡ true) → x ≤ k
    go k first (inl e) = omega arith
    go k first (inr t) = let r = rises_within y ys k h.2 t in omega arith

none_first : (ys : List ℕ) → None ≡ slice_get ys 0 → (k : ℕ) → is_among k ys ≡ true → ⊥
none_first [] e k t = true≢false (sym t)
none_first (y ∷ ys) e k t = absurd (cc)

pub least_alone : (xs ys : List ℕ) (x : ℕ) → RisesAbove 0 xs → Some x ≡ slice_get xs 0 → None ≡ slice_get ys 0 → IsLeast xs ys (Some x)
least_alone xs ys x h e none =
    let first = first_least xs x h e in
    (or_left (is_among x xs) (is_among x ys) first.0, λ k t. go k first.1 (or_cases (is_among k xs) (is_among k ys) t))
  where
    go : (k : ℕ) → ((k : ℕ) → is_among k xs ≡ true → x ≤ k) → (is_among k xs ≡ true) ⊎ (is_among k ys ≡ true) → x ≤ k
    go k least (inl t) = least k t
    go k least (inr t) = absurd (none_first ys none k t)

pub least_turned : (xs ys : List ℕ) (n : ℕ) → IsLeast xs ys (Some n) → IsLeast ys xs (Some n)
least_turned xs ys n h = (or_comm (is_among n ys) (is_among n xs) ∙ h.0, λ k t. h.1 k (or_comm (is_among k xs) (is_among k ys) ∙ t))

pub least_of_both : (xs ys : List ℕ) (x y n : ℕ) → RisesAbove 0 xs → RisesAbove 0 ys → Some x ≡ slice_get xs 0 → Some y ≡ slice_get ys 0 →
    n ≤ x → n ≤ y → (n ≡ x) ⊎ (n ≡ y) → IsLeast xs ys (Some n)
least_of_both xs ys x y n h k e f le le' which =
    let left = first_least xs x h e in let right = first_least ys y k f in
    (there left.0 right.0 which, λ j t. go j left.1 right.1 (or_cases (is_among j xs) (is_among j ys) t))
  where
    there : is_among x xs ≡ true → is_among y ys ≡ true → (n ≡ x) ⊎ (n ≡ y) → (is_among n xs || is_among n ys) ≡ true
    there a b (inl e) = or_left (is_among n xs) _ (ap (λ z. is_among z xs) e ∙ a)
    there a b (inr e) = or_right (is_among n xs) _ (ap (λ z. is_among z ys) e ∙ b)

    go : (j : ℕ) → ((k : ℕ) → is_among k xs ≡ true → x ≤ k) → ((k : ℕ) → is_among k ys ≡ true → y ≤ k) →
        (is_among j xs ≡ true) ⊎ (is_among j ys ≡ true) → n ≤ j
    go j a b (inl t) = let low = a j t in omega arith
    go j a b (inr t) = let low = b j t in omega arith

pub least_lower : (xs ys : List ℕ) (x y n : ℕ) → RisesAbove 0 xs → RisesAbove 0 ys → Some x ≡ slice_get xs 0 → Some y ≡ slice_get ys 0 →
    n ≡ min x y → IsLeast xs ys (Some n)
least_lower xs ys x y n h k e f is = least_of_both xs ys x y n h k e f (omega arith) (omega arith) (go (cases_lt x y))
  where
    go : (x < y) ⊎ (y ≤ x) → (n ≡ x) ⊎ (n ≡ y)
    go (inl lt) = inl (omega arith)
    go (inr le) = inr (omega arith)

-- the rest after it

drops : (a b : Bool) → (b || a) ≡ ((a || b) || a)
drops true true = refl
drops true false = refl
drops false b = refl

pub among-without_first : (k n : ℕ) (xs : List ℕ) → (is_among k (without_first n xs) || (k == n)) ≡ (is_among k xs || (k == n))
among-without_first k n [] = refl
among-without_first k n (x ∷ xs) = go (x == n) refl
  where
    go : (b : Bool) → (x == n) ≡ b → (is_among k (if b then xs else x ∷ xs) || (k == n)) ≡ (((k == x) || is_among k xs) || (k == n))
    go true e =
        let is : x ≡ n = eqb-true x n e in drops (k == n) (is_among k xs) ∙ ap (λ z. ((k == z) || is_among k xs) || (k == n)) (sym is)
    go false e = refl

pub rises-without_first : (b n : ℕ) (xs : List ℕ) → RisesAbove b xs → RisesAbove b (without_first n xs)
rises-without_first b n [] h = tt
rises-without_first b n (x ∷ xs) h = go (x == n)
  where
    go : (t : Bool) → RisesAbove b (if t then xs else x ∷ xs)
    go true = rises_lower b x xs (omega arith) h.2
    go false = h

-- they rise above the least
pub rises_above_least : (b n : ℕ) (xs : List ℕ) → RisesAbove b xs → ((k : ℕ) → is_among k xs ≡ true → n ≤ k) →
    RisesAbove n (without_first n xs)
rises_above_least b n [] h least = tt
rises_above_least b n (x ∷ xs) h least = go (x == n) refl (least x (among_head x xs))
  where
    go : (t : Bool) → (x == n) ≡ t → n ≤ x → RisesAbove n (if t then xs else x ∷ xs)
    go true e le = let is : x ≡ n = eqb-true x n e in subst (λ z. RisesAbove z xs) is h.2
    go false e le = let other : x ≢ n = eqb-false x n e in (omega arith, h.1, h.2)

pub without_first_le : (n : ℕ) (xs : List ℕ) → length (without_first n xs) ≤ length xs
without_first_le n [] = omega arith
without_first_le n (x ∷ xs) = go (x == n)
  where
    go : (t : Bool) → length (if t then xs else x ∷ xs) ≤ suc (length xs)
    go true = omega arith
    go false = omega arith

pub without_first_lt : (n : ℕ) (xs : List ℕ) → RisesAbove 0 xs → is_among n xs ≡ true → ((k : ℕ) → is_among k xs ≡ true → n ≤ k) →
    length (without_first n xs) < length xs
without_first_lt n [] h t least = absurd (true≢false (sym t))
without_first_lt n (x ∷ xs) h t least = go (x == n) refl (first (among_cases n x xs t) (least x (among_head x xs)))
  where
    first : (n ≡ x) ⊎ (is_among n xs ≡ true) → n ≤ x → n ≡ x
    first (inl e) le = e
    first (inr t) le = let r = rises_within x xs n h.2 t in absurd (omega arith)

    go : (b : Bool) → (x == n) ≡ b → n ≡ x → length (if b then xs else x ∷ xs) < suc (length xs)
    go true e is = omega arith
    go false e is = absurd (true≢false (sym (eq-eqb x n (sym is)) ∙ e))

pub rest_shorter : (xs ys : List ℕ) (n : ℕ) → RisesAbove 0 xs → RisesAbove 0 ys → IsLeast xs ys (Some n) →
    length (without_first n xs) + length (without_first n ys) < length xs + length ys
rest_shorter xs ys n h k least = go (or_cases (is_among n xs) (is_among n ys) least.0)
  where
    go : (is_among n xs ≡ true) ⊎ (is_among n ys ≡ true) → length (without_first n xs) + length (without_first n ys) < length xs + length ys
    go (inl t) =
        let a = without_first_lt n xs h t (λ j t. least.1 j (or_left (is_among j xs) (is_among j ys) t)) in let b = without_first_le n ys in
        omega arith
    go (inr t) =
        let a = without_first_le n xs in
        let b = without_first_lt n ys k t (λ j t. least.1 j (or_right (is_among j xs) (is_among j ys) t)) in omega arith

-- the union, as far as it is made: its clocks with those left are those of both parts, and what is left rises above its cloud
pub record Merges (p q u : Clocks) (xs ys : List ℕ) : Type 0 where
  pub canonical : IsCanonical u
  pub clocks : (k : ℕ) → (holds u k || (is_among k xs || is_among k ys)) ≡ (holds p k || holds q k)
  pub left : RisesAbove 0 xs
  pub right : RisesAbove 0 ys
  pub above : (k : ℕ) → is_among k u.cloud ≡ true → RisesAbove k xs × RisesAbove k ys

from_max : (a b m k : ℕ) (x y : Bool) → a ≤ m → b ≤ m → (m ≡ a) ⊎ (m ≡ b) →
    (((nat_lt 0 k && nat_le k m) || false) || (x || y)) ≡ (((nat_lt 0 k && nat_le k a) || x) || ((nat_lt 0 k && nat_le k b) || y))
from_max a b m k x y h h' (inl e) = grind (arith, nat_tests)
from_max a b m k x y h h' (inr e) = grind (arith, nat_tests)

pub merges_first : (p q : Clocks) (m : ℕ) → IsCanonical p → IsCanonical q → p.clock ≤ m → q.clock ≤ m → (m ≡ p.clock) ⊎ (m ≡ q.clock) →
    Merges p q (record { clock = m; cloud = [] }) p.cloud q.cloud
merges_first p q m h k le le' which = record {
  canonical = record { last = low which; rises = tt };
  clocks = λ j. from_max p.clock q.clock m j (is_among j p.cloud) (is_among j q.cloud) le le' which;
  left = rises_lower 0 (p.clock + 1) p.cloud (omega arith) h.rises;
  right = rises_lower 0 (q.clock + 1) q.cloud (omega arith) k.rises;
  above = λ j t. absurd (true≢false (sym t));
}
  where
    low : (m ≡ p.clock) ⊎ (m ≡ q.clock) → m ≤ 1000000000
    low (inl e) = let l = h.last in omega arith
    low (inr e) = let l = k.last in omega arith

pub merges_start : (p q r s : Clocks) (m : ℕ) (us xs ys : List ℕ) → p ≡ r → q ≡ s → IsCanonical p → IsCanonical q →
    m ≡ max p.clock q.clock → us ≡ [] → xs ≡ p.cloud → ys ≡ q.cloud → Merges r s (record { clock = m; cloud = us }) xs ys
merges_start p q r s m us xs ys pe qe h k me ue xe ye =
    subst (λ r. Merges r s (record { clock = m; cloud = us }) xs ys) pe
    (subst (λ s. Merges p s (record { clock = m; cloud = us }) xs ys) qe
    (subst (λ us. Merges p q (record { clock = m; cloud = us }) xs ys) (sym ue)
    (subst (λ xs. Merges p q (record { clock = m; cloud = [] }) xs ys) (sym xe)
    (subst (λ ys. Merges p q (record { clock = m; cloud = [] }) p.cloud ys) (sym ye)
    (merges_first p q m h k (omega arith) (omega arith) (go (cases_lt p.clock q.clock)))))))
  where
    go : (p.clock < q.clock) ⊎ (q.clock ≤ p.clock) → (m ≡ p.clock) ⊎ (m ≡ q.clock)
    go (inl lt) = inr (omega arith)
    go (inr le) = inl (omega arith)

pub next_valid : (p q u : Clocks) (left right : List ℕ) (n : ℕ) → Merges p q u left right → IsLeast left right (Some n) →
    (0 < n) × (n ≤ 1000000000) × ((k : ℕ) → is_among k u.cloud ≡ true → k < n)
next_valid p q u left right n h least = go (or_cases (is_among n left) (is_among n right) least.0)
  where
    go : (is_among n left ≡ true) ⊎ (is_among n right ≡ true) → (0 < n) × (n ≤ 1000000000) × ((k : ℕ) → is_among k u.cloud ≡ true → k < n)
    go (inl t) = let r = rises_within 0 left n h.left t in (r.0, r.1, λ k s. (rises_within k left n (h.above k s).0 t).0)
    go (inr t) = let r = rises_within 0 right n h.right t in (r.0, r.1, λ k s. (rises_within k right n (h.above k s).1 t).0)

step : (e l l' r r' h : Bool) → (l' || e) ≡ (l || e) → (r' || e) ≡ (r || e) → (e ≡ true → (l || r) ≡ true) →
    ((e || h) || (l' || r')) ≡ (h || (l || r))
step true l l' r r' h p q t = sym (or_right h (l || r) (t refl))
step false l l' r r' h p q t =
    let left : l' ≡ l = sym (or-false l') ∙ p ∙ or-false l in let right : r' ≡ r = sym (or-false r') ∙ q ∙ or-false r in
    λ i. h || (left i || right i)

pub merges_more : (p q u v : Clocks) (left right : List ℕ) (n : ℕ) → Merges p q u left right → IsLeast left right (Some n) → IsCanonical v →
    Gains u n v → AddsOnly u.cloud n v.cloud → Merges p q v (without_first n left) (without_first n right)
merges_more p q u v left right n h least canonical gains adds = record {
  canonical = canonical;
  clocks = λ k. ap (λ b. b || (is_among k (without_first n left) || is_among k (without_first n right))) (gains k)
      ∙ step (k == n) (is_among k left) (is_among k (without_first n left)) (is_among k right) (is_among k (without_first n right))
      (holds u k)
      (among-without_first k n left) (among-without_first k n right)
      (λ e. ap (λ z. is_among z left || is_among z right) (eqb-true k n e) ∙ least.0)
      ∙ h.clocks k;
  left = rises-without_first 0 n left h.left;
  right = rises-without_first 0 n right h.right;
  above = λ k t. go k (adds k t);
}
  where
    go : (k : ℕ) → (is_among k u.cloud ≡ true) ⊎ (k ≡ n) → RisesAbove k (without_first n left) × RisesAbove k (without_first n right)
    go k (inl t) = let a = h.above k t in (rises-without_first k n left a.0, rises-without_first k n right a.1)
    go k (inr e) = (
      subst (λ z. RisesAbove z (without_first n left)) (sym e)
          (rises_above_least 0 n left h.left (λ j t. least.1 j (or_left (is_among j left) (is_among j right) t))),
      subst (λ z. RisesAbove z (without_first n right)) (sym e)
          (rises_above_least 0 n right h.right (λ j t. least.1 j (or_right (is_among j left) (is_among j right) t))),
    )

pub merges_last : (p q u : Clocks) (left right : List ℕ) → Merges p q u left right → IsLeast left right None → (k : ℕ) →
    holds u k ≡ (holds p k || holds q k)
merges_last p q u left right h none k =
    sym (or-false (holds u k)) ∙ ap (λ b. holds u k || b) (sym (λ i. is_among k (none.0 i) || is_among k (none.1 i))) ∙ h.clocks k

-- a part that has all of another is their union
pub covers : (p q : Clocks) → q.clock ≤ p.clock → HasEach p q.cloud → (k : ℕ) → holds p k ≡ (holds p k || holds q k)
covers p q le each k = go (holds q k) refl
  where
    there : ((0 < k) × (k ≤ q.clock)) ⊎ (is_among k q.cloud ≡ true) → holds p k ≡ true
    there (inl r) = holds_low p k r.0 (omega arith)
    there (inr t) = each k t

    go : (b : Bool) → holds q k ≡ b → holds p k ≡ (holds p k || b)
    go true e = there (holds_cases q k e) ∙ sym (or_right (holds p k) true refl)
    go false e = sym (or-false (holds p k))

among-take : (k i : ℕ) (ks : List ℕ) → is_among k (take (suc i) ks) ≡ true → (k ≡ get_or ks i 0) ⊎ (is_among k (take i ks) ≡ true)
among-take k i [] t = absurd (true≢false (sym t))
among-take k zero (x ∷ ks) t = among_cases k x [] t
among-take k (suc i) (x ∷ ks) t = go (among-take k i ks) (among_cases k x (take (suc i) ks) t)
  where
    go : (is_among k (take (suc i) ks) ≡ true → (k ≡ get_or ks i 0) ⊎ (is_among k (take i ks) ≡ true)) →
        (k ≡ x) ⊎ (is_among k (take (suc i) ks) ≡ true)
        → (k ≡ get_or ks i 0) ⊎ (((k == x) || is_among k (take i ks)) ≡ true)
    go later (inl e) = inr (or_left (k == x) (is_among k (take i ks)) (eq-eqb k x e))
    go later (inr t) = after (later t)
      where
        after : (k ≡ get_or ks i 0) ⊎ (is_among k (take i ks) ≡ true) → (k ≡ get_or ks i 0) ⊎ (((k == x) || is_among k (take i ks)) ≡ true)
        after (inl e) = inl e
        after (inr t) = inr (or_right (k == x) (is_among k (take i ks)) t)

-- one clock more that the part has
pub each_more : (p : Clocks) (ks : List ℕ) (i : ℕ) → HasEach p (take i ks) → i < length ks → holds p (get_or ks i 0) ≡ true →
    HasEach p (take (i + 1) ks)
each_more p ks i each lt one k t =
    let next : i + 1 ≡ suc i = omega arith in go (among-take k i ks (sym (ap (λ j. is_among k (take j ks)) next) ∙ t))
  where
    go : (k ≡ get_or ks i 0) ⊎ (is_among k (take i ks) ≡ true) → holds p k ≡ true
    go (inl e) = ap (holds p) e ∙ one
    go (inr t) = each k t

-- clocks that are inserted one by one

among_next : (j : ℕ) (ks : List ℕ) (i : ℕ) → i < length ks → is_among j (take (suc i) ks) ≡ ((j == get_or ks i 0) || is_among j (take i ks))
among_next j [] i lt = absurd (omega arith)
among_next j (y ∷ ys) zero lt = refl
among_next j (y ∷ ys) (suc i) lt =
    ap (λ b. (j == y) || b) (among_next j ys i (omega arith)) ∙ or_swap (j == y) (j == get_or ys i 0) (is_among j (take i ys))

pub each_gained : (p u v : Clocks) (ks : List ℕ) (i : ℕ) → GainsEach p (take i ks) u → i < length ks → Gains u (get_or ks i 0) v →
    GainsEach p (take (i + 1) ks) v
each_gained p u v ks i each lt gains j =
    let next : i + 1 ≡ suc i = omega arith in
    gains j ∙ ap (λ b. (j == get_or ks i 0) || b) (each j)
    ∙ sym (or_assoc (j == get_or ks i 0) (is_among j (take i ks)) (holds p j))
    ∙ ap (λ b. b || holds p j) (sym (among_next j ks i lt) ∙ sym (ap (λ n. is_among j (take n ks)) next))

pub union_few : (p q u : Clocks) → q.clock ≤ p.clock → GainsEach p q.cloud u → IsUnion p q u
union_few p q u le each k =
    same_tests (holds u k) (holds p k || holds q k) (λ t. there (or_cases (is_among k q.cloud) (holds p k) (sym (each k) ∙ t)))
    (λ t. each k ∙ back (or_cases (holds p k) (holds q k) t))
  where
    there : (is_among k q.cloud ≡ true) ⊎ (holds p k ≡ true) → (holds p k || holds q k) ≡ true
    there (inl t) = or_right (holds p k) (holds q k) (or_right (nat_lt 0 k && nat_le k q.clock) (is_among k q.cloud) t)
    there (inr t) = or_left (holds p k) (holds q k) t

    old : ((0 < k) × (k ≤ q.clock)) ⊎ (is_among k q.cloud ≡ true) → (is_among k q.cloud || holds p k) ≡ true
    old (inl r) = or_right (is_among k q.cloud) (holds p k) (holds_low p k r.0 (omega arith))
    old (inr t) = or_left (is_among k q.cloud) (holds p k) t

    back : (holds p k ≡ true) ⊎ (holds q k ≡ true) → (is_among k q.cloud || holds p k) ≡ true
    back (inl t) = or_right (is_among k q.cloud) (holds p k) t
    back (inr t) = old (holds_cases q k t)

-- a clock at the end of a cloud
pub end_canonical : (c k : ℕ) (xs ys : List ℕ) → IsCanonical (record { clock = c; cloud = xs }) → c + 1 < k → k ≤ 1000000000 →
    ((j : ℕ) → is_among j xs ≡ true → j < k) → ys ≡ xs ++ k ∷ [] → IsCanonical (record { clock = c; cloud = ys })
end_canonical c k xs ys h above last below e =
    record { last = h.last; rises = subst (RisesAbove (c + 1)) (sym e) (rises-append (c + 1) k xs h.rises above last below) }

pub among-end : (j k : ℕ) (xs : List ℕ) → is_among j (xs ++ k ∷ []) ≡ ((j == k) || is_among j xs)
among-end j k [] = refl
among-end j k (x ∷ xs) = ap (λ b. (j == x) || b) (among-end j k xs) ∙ or_swap (j == x) (j == k) (is_among j xs)

pub gains_at_end : (c k : ℕ) (xs ys : List ℕ) → ys ≡ xs ++ k ∷ [] → (j : ℕ) →
    holds (record { clock = c; cloud = ys }) j ≡ ((j == k) || holds (record { clock = c; cloud = xs }) j)
gains_at_end c k xs ys e j =
    ap (λ zs. (nat_lt 0 j && nat_le j c) || is_among j zs) e ∙ ap (λ b. (nat_lt 0 j && nat_le j c) || b) (among-end j k xs)
    ∙ or_swap (nat_lt 0 j && nat_le j c) (j == k) (is_among j xs)

pub adds_at_end : (k : ℕ) (xs ys : List ℕ) → ys ≡ xs ++ k ∷ [] → AddsOnly xs k ys
adds_at_end k xs ys e j t = go (or_cases (j == k) (is_among j xs) (sym (ap (is_among j) e ∙ among-end j k xs) ∙ t))
  where
    go : ((j == k) ≡ true) ⊎ (is_among j xs ≡ true) → (is_among j xs ≡ true) ⊎ (j ≡ k)
    go (inl e) = inr (eqb-true j k e)
    go (inr t) = inl t

-- the cloud is empty where each of its clocks is below the one after the context clock
pub no_cloud : (p : Clocks) (k : ℕ) → IsCanonical p → k ≡ p.clock + 1 → ((j : ℕ) → is_among j p.cloud ≡ true → j < k) → p.cloud ≡ []
no_cloud p k h e below = go p.cloud h.rises below
  where
    go : (xs : List ℕ) → RisesAbove (p.clock + 1) xs → ((j : ℕ) → is_among j xs ≡ true → j < k) → xs ≡ []
    go [] up below = refl
    go (x ∷ xs) up below = let low = below x (among_head x xs) in absurd (omega arith)

-- sets, part by part

-- past the last name nobody has a clock
past_last : (ps : List Clocks) (n k : ℕ) → AreParts ps → 32 ≤ n → holds (part_at ps n) k ≡ false
past_last ps n k h le = ap (λ p. holds p k) (part_past ps n (omega (arith, h.names))) ∙ holds_none k

pub union_done : (names : Names) (ps qs : List Clocks) → AreParts ps → AreParts qs → IsUnionFrom names 32 ps qs ps
union_done names ps qs h k = record {
  parts = h;
  clocks = λ n j. go n j (cases_lt n 32);
}
  where
    none : (n : ℕ) (b c : Bool) → n < 32 → ((nat_le 32 n && b) && c) ≡ false
    none n b c lt = grind (arith, nat_tests)

    go : (n j : ℕ) → (n < 32) ⊎ (32 ≤ n) →
        holds (part_at ps n) j ≡ (holds (part_at ps n) j || ((nat_le 32 n && set.contains names n) && holds (part_at qs n) j))
    go n j (inl lt) =
        sym (ap (λ b. holds (part_at ps n) j || b) (none n (set.contains names n) (holds (part_at qs n) j) lt)
        ∙ or-false (holds (part_at ps n) j))
    go n j (inr le) = sym (ap (λ b. holds (part_at ps n) j || ((nat_le 32 n && set.contains names n) && b)) (past_last qs n j k le)
        ∙ ap (λ b. holds (part_at ps n) j || b) (and-false (nat_le 32 n && set.contains names n)) ∙ or-false (holds (part_at ps n) j))

later : (n name : ℕ) (b c : Bool) → n ≢ name → ((nat_le (name + 1) n && b) && c) ≡ ((nat_le name n && b) && c)
later n name b c other = grind (arith, nat_tests)

now_off : (n name : ℕ) (b c : Bool) → n ≡ name → ((nat_le (name + 1) n && b) && c) ≡ false
now_off n name b c is = grind (arith, nat_tests)

now_on : (n name : ℕ) (b c : Bool) → n ≡ name → b ≡ true → ((nat_le name n && b) && c) ≡ c
now_on n name b c is on = grind (arith, nat_tests)

left_out : (a b c : Bool) → b ≡ false → ((a && b) && c) ≡ false
left_out true b c e = ap (λ b. b && c) e
left_out false b c e = refl

-- no name in this range is one of these and has a clock
none_here : (a b c : Bool) → (b && c) ≡ false → ((a && b) && c) ≡ false
none_here true b c e = e
none_here false b c e = refl

from_both : (n name next : ℕ) (b c : Bool) → name ≤ next → next ≤ n → ((nat_le next n && b) && c) ≡ ((nat_le name n && b) && c)
from_both n name next b c le above = grind (arith, nat_tests)

from_neither : (n name : ℕ) (b c : Bool) → n < name → ((nat_le name n && b) && c) ≡ false
from_neither n name b c below = grind (arith, nat_tests)

pub union_next : (names : Names) (name next : ℕ) (ps qs rs : List Clocks) → name ≤ next → HaveNone names qs name next →
    IsUnionFrom names next ps qs rs → IsUnionFrom names name ps qs rs
union_next names name next ps qs rs le none h = record {
  parts = h.parts;
  clocks = λ n k. h.clocks n k ∙ ap (λ b. holds (part_at ps n) k || b) (go n k (cases_lt n next) (cases_lt n name));
}
  where
    go : (n k : ℕ) → (n < next) ⊎ (next ≤ n) → (n < name) ⊎ (name ≤ n) →
        ((nat_le next n && set.contains names n) && holds (part_at qs n) k) ≡
        ((nat_le name n && set.contains names n) && holds (part_at qs n) k)
    go n k (inr above) from = from_both n name next (set.contains names n) (holds (part_at qs n) k) le above
    go n k (inl below) (inl before) =
        from_neither n next (set.contains names n) (holds (part_at qs n) k) below
        ∙ sym (from_neither n name (set.contains names n) (holds (part_at qs n) k) before)
    go n k (inl below) (inr from) =
        from_neither n next (set.contains names n) (holds (part_at qs n) k) below
        ∙ sym (none_here (nat_le name n) (set.contains names n) (holds (part_at qs n) k) (none n k from below))

-- a name whose union is put in place, or is there already
pub union_put : (names : Names) (name : ℕ) (ps qs rs ts : List Clocks) (u : Clocks) → set.contains names name ≡ true →
    IsUnion (part_at ps name) (part_at qs name) u → AreParts ts
    → part_at ts name ≡ u → ((n : ℕ) → n ≢ name → part_at ts n ≡ part_at rs n) → IsUnionFrom names (name + 1) ps qs rs →
    IsUnionFrom names name ps qs ts
union_put names name ps qs rs ts u on is parts here there h = record {
  parts = parts;
  clocks = λ n k. go n k (cases_eq n name);
}
  where
    go : (n k : ℕ) → (n ≡ name) ⊎ (n ≢ name) →
        holds (part_at ts n) k ≡ (holds (part_at ps n) k || ((nat_le name n && set.contains names n) && holds (part_at qs n) k))
    go n k (inl e) =
        ap (λ p. holds p k) (ap (part_at ts) e ∙ here) ∙ is k
        ∙ sym (ap (λ b. holds (part_at ps n) k || b)
        (now_on n name (set.contains names n) (holds (part_at qs n) k) e (ap (set.contains names) e ∙ on))
        ∙ ap (λ m. holds (part_at ps m) k || holds (part_at qs m) k) e)
    go n k (inr d) =
        ap (λ p. holds p k) (there n d) ∙ h.clocks n k
        ∙ ap (λ b. holds (part_at ps n) k || b) (later n name (set.contains names n) (holds (part_at qs n) k) d)

-- the part of the name has not been touched yet
pub union_before : (names : Names) (name : ℕ) (ps qs rs : List Clocks) → AreParts ps → IsUnionFrom names (name + 1) ps qs rs →
    part_at rs name ≡ part_at ps name
union_before names name ps qs rs h u =
    same_clocks (part_at rs name) (part_at ps name) (canonical_at rs name u.parts.canonical) (canonical_at ps name h.canonical) (λ k.
    u.clocks name k ∙ ap (λ b. holds (part_at ps name) k || b) (now_off name name (set.contains names name) (holds (part_at qs name) k)
    refl) ∙ or-false (holds (part_at ps name) k))

pub union_grown : (names : Names) (name : ℕ) (ps qs rs : List Clocks) (u : Clocks) → name < 32 → set.contains names name ≡ true →
    IsCanonical u × IsUnion (part_at ps name) (part_at qs name) u
    → IsUnionFrom names (name + 1) ps qs rs → IsUnionFrom names name ps qs (slice_set rs name u)
union_grown names name ps qs rs u lt on is h =
    union_put names name ps qs rs (slice_set rs name u) u on is.1 (parts_set rs name u h.parts is.0)
    (get_or-set_same rs name u no_clocks (omega (arith, h.parts.names))) (λ n d. get_or-set_other rs name n u no_clocks d) h

pub union_kept : (names : Names) (name : ℕ) (ps qs rs : List Clocks) → AreParts ps → set.contains names name ≡ true →
    IsUnion (part_at ps name) (part_at qs name) (part_at ps name)
    → IsUnionFrom names (name + 1) ps qs rs → IsUnionFrom names name ps qs rs
union_kept names name ps qs rs k on is h =
    union_put names name ps qs rs rs (part_at ps name) on is h.parts (union_before names name ps qs rs k h) (λ n d. refl) h

turned : (x y b : Bool) → ((true && (x && y)) && b) ≡ (b && (y && x))
turned true true true = refl
turned true true false = refl
turned true false true = refl
turned true false false = refl
turned false true true = refl
turned false true false = refl
turned false false true = refl
turned false false false = refl

-- the same at the place and with the parts that the code reads
pub union_grown_at : (names : Names) (name at : ℕ) (ps qs rs : List Clocks) (d e u : Clocks) → AreParts ps → AreParts qs → at ≡ name →
    name < 32 → set.contains names name ≡ true → IsGrown (get_or ps at d) (get_or qs at e) (Some u)
    → IsUnionFrom names (name + 1) ps qs rs → IsUnionFrom names name ps qs (slice_set rs at u)
union_grown_at names name at ps qs rs d e u h k is lt on grown union =
    let own = read_part ps at name d h is lt in
    let other = read_part qs at name e k is lt in
    subst (λ n. IsUnionFrom names name ps qs (slice_set rs n u)) (sym is)
    (union_grown names name ps qs rs u lt on (grown.0, λ j. grown.1 j ∙ (λ i. holds (own i) j || holds (other i) j)) union)

pub union_kept_at : (names : Names) (name at : ℕ) (ps qs rs : List Clocks) (d e : Clocks) → AreParts ps → AreParts qs → at ≡ name →
    name < 32 → set.contains names name ≡ true → IsGrown (get_or ps at d) (get_or qs at e) None
    → IsUnionFrom names (name + 1) ps qs rs → IsUnionFrom names name ps qs rs
union_kept_at names name at ps qs rs d e h k is lt on grown union =
    let own = read_part ps at name d h is lt in
    let other = read_part qs at name e k is lt in
    union_kept names name ps qs rs h on (λ j. sym (ap (λ p. holds p j) own) ∙ grown j ∙ (λ i. holds (own i) j || holds (other i) j)) union

pub union_dots : (known : Names) (own : ℕ) (ps qs rs : List Clocks) (s t : Dots) → dots_of_parts ps ≡ s → dots_of_parts qs ≡ t →
    IsUnionFrom (set.remove known own) 0 ps qs rs
    → dots_of_parts rs ≡ set.union s (of_names (λ n. set.contains known n && not (n == own)) t)
union_dots known own ps qs rs s t se te h = same_dots _ _ (λ q.
    let low : nat_le 0 q.name ≡ true = grind (arith, nat_tests) in
    let old : holds (part_at ps q.name) q.clock ≡ set.contains s q = sym (contains-dots_of_parts ps q) ∙ ap (λ s. set.contains s q) se in
    let other : holds (part_at qs q.name) q.clock ≡ set.contains t q = sym (contains-dots_of_parts qs q) ∙ ap (λ t. set.contains t q) te in
    let named : set.contains (set.remove known own) q.name ≡ (not (q.name == own) && set.contains known q.name) =
    contains-remove_name known own q.name in
    contains-dots_of_parts rs q ∙ h.clocks q.name q.clock
    ∙ (λ i. old i || ((low i && named i) && other i))
    ∙ ap (λ b. set.contains s q || b) (turned (not (q.name == own)) (set.contains known q.name) (set.contains t q))
    ∙ sym (contains-union s (of_names (λ n. set.contains known n && not (n == own)) t) q
    ∙ ap (λ b. set.contains s q || b) (contains-retain t (λ d. set.contains known d.name && not (d.name == own)) q)))

pub union_named_dots : (names : Names) (ps qs rs : List Clocks) (s t : Dots) → dots_of_parts ps ≡ s → dots_of_parts qs ≡ t →
    IsUnionFrom names 0 ps qs rs → dots_of_parts rs ≡ set.union s (of_names (set.contains names) t)
union_named_dots names ps qs rs s t se te h = same_dots _ _ (λ q.
    let low : nat_le 0 q.name ≡ true = grind (arith, nat_tests) in
    let old : holds (part_at ps q.name) q.clock ≡ set.contains s q = sym (contains-dots_of_parts ps q) ∙ ap (λ s. set.contains s q) se in
    let other : holds (part_at qs q.name) q.clock ≡ set.contains t q = sym (contains-dots_of_parts qs q) ∙ ap (λ t. set.contains t q) te in
    contains-dots_of_parts rs q ∙ h.clocks q.name q.clock
    ∙ (λ i. old i || ((low i && set.contains names q.name) && other i))
    ∙ ap (λ b. set.contains s q || b) (and_comm (set.contains names q.name) (set.contains t q))
    ∙ sym (contains-union s (of_names (set.contains names) t) q
    ∙ ap (λ b. set.contains s q || b) (contains-retain t (λ d. set.contains names d.name) q)))

-- the parts of some names, as far as they are copied
pub record IsChosen (ps : List Clocks) (names : Names) (i : ℕ) (qs : List Clocks) : Type 0 where
  pub parts : AreParts qs
  pub clocks : (n k : ℕ) → holds (part_at qs n) k ≡ ((nat_lt n i && set.contains names n) && holds (part_at ps n) k)

pub chosen_none : (ps : List Clocks) (names : Names) (qs : List Clocks) → AreParts qs → dots_of_parts qs ≡ set.empty →
    IsChosen ps names 0 qs
chosen_none ps names qs h e = record {
  parts = h;
  clocks = λ n k. ap (λ p. holds p k) (empty_part qs n h e) ∙ holds_none k ∙ sym (none n (set.contains names n) (holds (part_at ps n) k));
}
  where
    none : (n : ℕ) (b c : Bool) → ((nat_lt n 0 && b) && c) ≡ false
    none n b c = grind (arith, nat_tests)

before : (n i : ℕ) (b c : Bool) → n ≢ i → ((nat_lt n (i + 1) && b) && c) ≡ ((nat_lt n i && b) && c)
before n i b c other = grind (arith, nat_tests)

not_yet : (n i : ℕ) (b c : Bool) → n ≡ i → ((nat_lt n i && b) && c) ≡ false
not_yet n i b c is = grind (arith, nat_tests)

chosen_now : (n i : ℕ) (b c : Bool) → n ≡ i → b ≡ true → ((nat_lt n (i + 1) && b) && c) ≡ c
chosen_now n i b c is on = grind (arith, nat_tests)

pub chosen_skip : (ps : List Clocks) (names : Names) (i : ℕ) (qs : List Clocks) → set.contains names i ≡ false → IsChosen ps names i qs →
    IsChosen ps names (i + 1) qs
chosen_skip ps names i qs off h = record { parts = h.parts; clocks = λ n k. h.clocks n k ∙ go n k (cases_eq n i) }
  where
    go : (n k : ℕ) → (n ≡ i) ⊎ (n ≢ i) →
        ((nat_lt n i && set.contains names n) && holds (part_at ps n) k) ≡
        ((nat_lt n (i + 1) && set.contains names n) && holds (part_at ps n) k)
    go n k (inl e) =
        not_yet n i (set.contains names n) (holds (part_at ps n) k) e
        ∙ sym (left_out (nat_lt n (i + 1)) (set.contains names n) (holds (part_at ps n) k) (ap (set.contains names) e ∙ off))
    go n k (inr d) = sym (before n i (set.contains names n) (holds (part_at ps n) k) d)

pub chosen_set : (ps : List Clocks) (names : Names) (i at : ℕ) (qs : List Clocks) (p d : Clocks) → AreParts ps → i < 32 → at ≡ i →
    set.contains names i ≡ true → p ≡ get_or ps at d → IsChosen ps names i qs → IsChosen ps names (i + 1) (slice_set qs at p)
chosen_set ps names i at qs p d h lt is on e chosen = record {
  parts = parts_set qs at p chosen.parts (subst IsCanonical (sym same) (canonical_at ps i h.canonical));
  clocks =
      λ n k. at_set qs at p n (omega (arith, chosen.parts.names))
      (λ x. holds x k ≡ ((nat_lt n (i + 1) && set.contains names n) && holds (part_at ps n) k))
      (λ t. let here : n ≡ i = t ∙ is in ap (λ p. holds p k) (same ∙ ap (part_at ps) (sym here))
      ∙ sym (chosen_now n i (set.contains names n) (holds (part_at ps n) k) here (ap (set.contains names) here ∙ on)))
      (λ t. chosen.clocks n k ∙ sym (before n i (set.contains names n) (holds (part_at ps n) k) (λ z. t (z ∙ sym is))));
}
  where
    same : p ≡ part_at ps i
    same = e ∙ read_part ps at i d h is lt

pub chosen_all : (ps : List Clocks) (names : Names) (i : ℕ) (qs : List Clocks) (s : Dots) → AreParts ps → 32 ≤ i → dots_of_parts ps ≡ s →
    IsChosen ps names i qs → dots_of_parts qs ≡ of_names (set.contains names) s
chosen_all ps names i qs s h le view chosen =
    chosen_dots ps qs (set.contains names) s (λ n k. chosen.clocks n k ∙ go n k (cases_lt n 32)) view
  where
    yes : (n : ℕ) (b c : Bool) → n < 32 → ((nat_lt n i && b) && c) ≡ (b && c)
    yes n b c lt = grind (arith, nat_tests)

    go : (n k : ℕ) → (n < 32) ⊎ (32 ≤ n) →
        ((nat_lt n i && set.contains names n) && holds (part_at ps n) k) ≡ (set.contains names n && holds (part_at ps n) k)
    go n k (inl lt) = yes n (set.contains names n) (holds (part_at ps n) k) lt
    go n k (inr past) =
        ap (λ b. (nat_lt n i && set.contains names n) && b) (past_last ps n k h past) ∙ and-false (nat_lt n i && set.contains names n)
        ∙ sym (ap (λ b. set.contains names n && b) (past_last ps n k h past) ∙ and-false (set.contains names n))

-- a set whose names are all among these
pub all_chosen : (names : Names) (s : Dots) → HasAll names → ((q : Dot) → set.contains s q ≡ true → q.name < 32) →
    of_names (set.contains names) s ≡ s
all_chosen names s all low = same_dots _ _ (λ q. contains-retain s (λ d. set.contains names d.name) q ∙ go q (set.contains s q) refl)
  where
    go : (q : Dot) (b : Bool) → set.contains s q ≡ b → (b && set.contains names q.name) ≡ b
    go q true e = all q.name (low q e)
    go q false e = refl
