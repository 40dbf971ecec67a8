-- Steps of a kind: their numbers, and the first of them.
use Rattle.std.proofs.Common.{◌≡◌, ◌⊎◌, inl, inr, ℕ, ◌<◌, ◌≤◌, ◌==◌, ◌&&◌, ◌||◌, Bool, true, false, cond, if◌then◌else◌, List, [], ◌∷◌, Some}
use Rattle.std.proofs.Common.{refl, sym, ap, ◌∙◌, true≢false, arith}
use Rattle.std.specs.List.{AllByRecursion as Each, filter, list_any}
use Rattle.std.proofs.lemmas.Bool.{eqb-true, or_cases, or_right}
use Rattle.journal_core.specs.Journals.{Kept, NumbersRise, find_number, first_number, numbers}
use Rattle.journal_core.proofs.Each.{each_imp, each_find, finds_all}

-- tests that agree

pub filter_agree : (f g : Kept → Bool) (ks : List Kept) → Each (λ k. f k ≡ g k) ks → filter f ks ≡ filter g ks
filter_agree f g [] all = refl
filter_agree f g (k ∷ ks) all = rw all.0 (ap (λ (l : List Kept). cond (g k) (k ∷ l) l) (filter_agree f g ks all.1))

pub first_each : (f g : Kept → Bool) (ks : List Kept) → Each (λ k. f k ≡ g k) ks → first_number f ks ≡ first_number g ks
first_each f g [] all = refl
first_each f g (k ∷ ks) all = rw all.0 (ap (λ o. if g k then Some k.number else o) (first_each f g ks all.1))

pub all_same : (f g : Kept → Bool) → ((k : Kept) → f k ≡ g k) → (ks : List Kept) → Each (λ k. f k ≡ g k) ks
all_same f g same [] = tt
all_same f g same (k ∷ ks) = (same k, all_same f g same ks)

pub same_test : (a b : Bool) → (a ≡ true → b ≡ true) → (b ≡ true → a ≡ true) → a ≡ b
same_test true b to from = sym (to refl)
same_test false true to from = from refl
same_test false false to from = refl

pub both_true : (a b : Bool) → a ≡ true → b ≡ true → (a && b) ≡ true
both_true a b p q = rw (p, q) refl

-- what is said of each step that is found is said of each

pub for_each : (P : Kept → Type 0) (ks : List Kept) → NumbersRise 0 ks → ((k : Kept) → find_number ks k.number ≡ Some k → P k) → Each P ks
for_each P ks rises f = each_imp _ P (λ k h. f k h.1) ks (finds_all 0 ks rises)

pub positive : (ks : List Kept) (n : ℕ) (k : Kept) → NumbersRise 0 ks → find_number ks n ≡ Some k → 0 < k.number
positive ks n k rises found = (each_find (λ j. (0 < j.number) × (find_number ks j.number ≡ Some j)) ks n k (finds_all 0 ks rises) found).0

pub by_itself : (ks : List Kept) (n : ℕ) (k : Kept) → NumbersRise 0 ks → find_number ks n ≡ Some k → find_number ks k.number ≡ Some k
by_itself ks n k rises found = (each_find (λ j. (0 < j.number) × (find_number ks j.number ≡ Some j)) ks n k (finds_all 0 ks rises) found).1

pub one_step : (ks : List Kept) (j k : Kept) → find_number ks j.number ≡ Some j → find_number ks k.number ≡ Some k → j.number ≡ k.number → j ≡ k
one_step ks j k a b e = let h : Some j ≡ Some k = sym a ∙ ap (find_number ks) e ∙ b in cc

-- numbers of a kind

pub in_list : (test : Kept → Bool) (x : Kept) (n : ℕ) (ks : List Kept) → find_number ks n ≡ Some x → test x ≡ true → list_any (λ m. m == n)
    (numbers (filter test ks)) ≡ true
in_list test x n [] found is = absurd (cc)
in_list test x n (k ∷ ks) found is = go (k.number == n) refl found (λ h. in_list test x n ks h is)
  where
    go : (b : Bool) → (k.number == n) ≡ b → (if b then Some k else find_number ks n) ≡ Some x →
        (find_number ks n ≡ Some x → list_any (λ m. m == n) (numbers (filter test ks)) ≡ true) →
        list_any (λ m. m == n) (numbers (cond (test k) (k ∷ filter test ks) (filter test ks))) ≡ true
    go true at found more =
        let same : k ≡ x = cc in
        ap (λ b. list_any (λ m. m == n) (numbers (cond b (k ∷ filter test ks) (filter test ks)))) (ap test same ∙ is) ∙ ap
        (λ b. b || list_any (λ m. m == n) (numbers (filter test ks))) at
    go false at found more = both (test k) (more found)
      where
        both : (b : Bool) → list_any (λ m. m == n) (numbers (filter test ks)) ≡ true → list_any (λ m. m == n)
            (numbers (cond b (k ∷ filter test ks) (filter test ks))) ≡ true
        both true h = or_right (k.number == n) _ h
        both false h = h

pub from_list : (P : Kept → Type 0) (test : Kept → Bool) (n : ℕ) (ks : List Kept) → Each P ks → list_any (λ m. m == n) (numbers (filter test ks)) ≡
    true → (k : Kept) × (k.number ≡ n) × P k × (test k ≡ true)
from_list P test n [] all h = absurd (cc)
from_list P test n (k ∷ ks) all h = go (test k) refl h (from_list P test n ks all.1)
  where
    go : (b : Bool) → test k ≡ b → list_any (λ m. m == n) (numbers (cond b (k ∷ filter test ks) (filter test ks))) ≡ true →
        (list_any (λ m. m == n) (numbers (filter test ks)) ≡ true → (k : Kept) × (k.number ≡ n) × P k × (test k ≡ true)) → (k : Kept) ×
        (k.number ≡ n) × P k × (test k ≡ true)
    go false is h more = more h
    go true is h more = at (or_cases (k.number == n) _ h)
      where
        at : (k.number == n ≡ true) ⊎ (list_any (λ m. m == n) (numbers (filter test ks)) ≡ true) → (k : Kept) × (k.number ≡ n) × P k ×
            (test k ≡ true)
        at (inl e) = (k, eqb-true k.number n e, all.0, is)
        at (inr e) = more e

-- the first of a kind

pub first_of : (P : Kept → Type 0) (test : Kept → Bool) (m : ℕ) (ks : List Kept) → Each P ks → first_number test ks ≡ Some m → (k : Kept) ×
    (k.number ≡ m) × P k × (test k ≡ true)
first_of P test m [] all h = absurd (cc)
first_of P test m (k ∷ ks) all h = go (test k) refl h (first_of P test m ks all.1)
  where
    go : (b : Bool) → test k ≡ b → (if b then Some k.number else first_number test ks) ≡ Some m →
        (first_number test ks ≡ Some m → (k : Kept) × (k.number ≡ m) × P k × (test k ≡ true)) → (k : Kept) × (k.number ≡ m) × P k × (test k ≡ true)
    go true is h more = let e : k.number ≡ m = cc in (k, e, all.0, is)
    go false is h more = more h

pub first_at_most : (test : Kept → Bool) (m n : ℕ) (x : Kept) (a : ℕ) (ks : List Kept) → NumbersRise a ks → first_number test ks ≡ Some m →
    find_number ks n ≡ Some x → test x ≡ true → m ≤ x.number
first_at_most test m n x a [] rises h found is = absurd (cc)
first_at_most test m n x a (k ∷ ks) rises h found is =
    go (test k) refl (k.number == n) h found (λ p q. first_at_most test m n x k.number ks rises.1 p q is)
  where
    later : find_number ks n ≡ Some x → k.number < x.number
    later f = (each_find (λ j. (k.number < j.number) × (find_number ks j.number ≡ Some j)) ks n x (finds_all k.number ks rises.1) f).0

    go : (b : Bool) → test k ≡ b → (d : Bool) → (if b then Some k.number else first_number test ks) ≡ Some m →
        (if d then Some k else find_number ks n) ≡ Some x → (first_number test ks ≡ Some m → find_number ks n ≡ Some x → m ≤ x.number) →
        m ≤ x.number
    go true is true h f more = let e : k.number ≡ m = cc in let same : k ≡ x = cc in let g = ap (λ (k : Kept). k.number) same in omega arith
    go true is false h f more = let e : k.number ≡ m = cc in let low = later f in omega arith
    go false fails true h f more = let same : k ≡ x = cc in absurd (true≢false (sym is ∙ ap test (sym same) ∙ fails))
    go false fails false h f more = more h f
