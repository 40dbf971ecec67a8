-- What each step of a list has, and lists of which no step passes a test.
use Rattle.std.proofs.Common.{◌≡◌, ℕ, ◌<◌, ◌==◌, ◌||◌, Bool, true, false, cond, if◌then◌else◌, List, [], ◌∷◌, ◌++◌, filter, Some, None, option_and_then}
use Rattle.std.proofs.Common.{refl, sym, ap, ◌∙◌, subst, arith}
use Rattle.std.proofs.lemmas.Bool.{eqb-true, eq-eqb, ne_eqb, or_right}
use Rattle.std.specs.List.{AllByRecursion as Each, list_any}
use Rattle.journal_core.specs.Journals.{Kept, NumbersRise, is_consequence, find_number, first_number, first_consequence}

pub each_push : (P : Kept → Type 0) (ks : List Kept) (k : Kept) → Each P ks → P k → Each P (ks ++ k ∷ [])
each_push P [] k all h = (h, tt)
each_push P (j ∷ ks) k all h = (all.0, each_push P ks k all.1 h)

pub each_front : (P : Kept → Type 0) (ks js : List Kept) → Each P (ks ++ js) → Each P ks
each_front P [] js all = tt
each_front P (k ∷ ks) js all = (all.0, each_front P ks js all.1)

pub each_rest : (P : Kept → Type 0) (ks js : List Kept) → Each P (ks ++ js) → Each P js
each_rest P [] js all = all
each_rest P (k ∷ ks) js all = each_rest P ks js all.1

pub each_imp : (P Q : Kept → Type 0) → ((k : Kept) → P k → Q k) → (ks : List Kept) → Each P ks → Each Q ks
each_imp P Q f [] all = tt
each_imp P Q f (k ∷ ks) all = (f k all.0, each_imp P Q f ks all.1)

pub each_both : (P Q : Kept → Type 0) (ks : List Kept) → Each P ks → Each Q ks → Each (λ k. P k × Q k) ks
each_both P Q [] all more = tt
each_both P Q (k ∷ ks) all more = ((all.0, more.0), each_both P Q ks all.1 more.1)

pub each_where : (P Q : Kept → Type 0) (test : Kept → Bool) → ((k : Kept) → P k → test k ≡ true → Q k) → (ks : List Kept) → Each P ks →
    Each Q (filter test ks)
each_where P Q test f [] all = tt
each_where P Q test f (k ∷ ks) all = go (test k) refl (each_where P Q test f ks all.1)
  where
    go : (b : Bool) → test k ≡ b → Each Q (filter test ks) → Each Q (cond b (k ∷ filter test ks) (filter test ks))
    go true is more = (f k all.0 is, more)
    go false is more = more

pub each_filter : (P : Kept → Type 0) (test : Kept → Bool) (ks : List Kept) → Each P ks → Each P (filter test ks)
each_filter P test ks all = each_where P P test (λ k h passes. h) ks all

pub each_find : (P : Kept → Type 0) (ks : List Kept) (n : ℕ) (k : Kept) → Each P ks → find_number ks n ≡ Some k → P k
each_find P [] n k all h = absurd (cc)
each_find P (j ∷ ks) n k all h = go (j.number == n) h (each_find P ks n k all.1)
  where
    go : (b : Bool) → (if b then Some j else find_number ks n) ≡ Some k → (find_number ks n ≡ Some k → P k) → P k
    go true h more = let same : j ≡ k = cc in subst P same all.0
    go false h more = more h

-- one that passes a test

pub any_of : (P : Kept → Type 0) (test : Kept → Bool) (ks : List Kept) → Each P ks → list_any test ks ≡ true →
    (k : Kept) × P k × (test k ≡ true)
any_of P test [] all h = absurd (cc)
any_of P test (k ∷ ks) all h = go (test k) refl h (any_of P test ks all.1)
  where
    go : (b : Bool) → test k ≡ b → (b || list_any test ks) ≡ true → (list_any test ks ≡ true → (k : Kept) × P k × (test k ≡ true)) →
        (k : Kept) × P k × (test k ≡ true)
    go true is h more = (k, all.0, is)
    go false is h more = more h

pub any_at : (test : Kept → Bool) (first rest : List Kept) (k : Kept) → test k ≡ true → list_any test (first ++ k ∷ rest) ≡ true
any_at test [] rest k h = ap (λ b. b || list_any test rest) h
any_at test (j ∷ first) rest k h = or_right (test j) _ (any_at test first rest k h)

-- none that passes a test

abbrev pub NoneOf : (Kept → Bool) → List Kept → Type 0
NoneOf test ks = Each (λ k. test k ≡ false) ks

pub none_first : (test : Kept → Bool) (ks : List Kept) → first_number test ks ≡ None → NoneOf test ks
none_first test [] h = tt
none_first test (k ∷ ks) h = go (test k) refl h (none_first test ks)
  where
    go : (b : Bool) → test k ≡ b → (if b then Some k.number else first_number test ks) ≡ None →
        (first_number test ks ≡ None → NoneOf test ks) → (test k ≡ false) × NoneOf test ks
    go true is h more = absurd (cc)
    go false is h more = (is, more h)

pub first_none : (test : Kept → Bool) (ks : List Kept) → NoneOf test ks → first_number test ks ≡ None
first_none test [] h = refl
first_none test (k ∷ ks) h = rw h.0 (first_none test ks h.1)

pub none_follows : (ks : List Kept) (n : ℕ) (k : Kept) → find_number ks n ≡ Some k → first_consequence ks n ≡ None →
    NoneOf (is_consequence ks k) ks
none_follows ks n k found free = none_first _ ks (ap (option_and_then (λ j. first_number (is_consequence ks j) ks)) (sym found) ∙ free)

-- steps by their numbers

pub finds_all : (a : ℕ) (ks : List Kept) → NumbersRise a ks → Each (λ j. (a < j.number) × (find_number ks j.number ≡ Some j)) ks
finds_all a [] rises = tt
finds_all a (k ∷ ks) rises = (
  (rises.0, ap (λ b. if b then Some k else find_number ks k.number) (eq-eqb k.number k.number refl)),
  each_imp _ (λ j. (a < j.number) × (find_number (k ∷ ks) j.number ≡ Some j))
      (λ j h. (low j h.0, ap (λ b. if b then Some k else find_number ks j.number) (apart j h.0) ∙ h.1)) ks (finds_all k.number ks rises.1),
)
  where
    low : (j : Kept) → k.number < j.number → a < j.number
    low j h = let first = rises.0 in omega arith

    apart : (j : Kept) → k.number < j.number → (k.number == j.number) ≡ false
    apart j h = ne_eqb k.number j.number (λ e. omega arith)

pub find_itself : (ks : List Kept) (n : ℕ) (k : Kept) → find_number ks n ≡ Some k → k.number ≡ n
find_itself [] n k h = absurd (cc)
find_itself (j ∷ ks) n k h = go (j.number == n) refl h (find_itself ks n k)
  where
    go : (b : Bool) → (j.number == n) ≡ b → (if b then Some j else find_number ks n) ≡ Some k → (find_number ks n ≡ Some k → k.number ≡ n) →
        k.number ≡ n
    go true is h more = let same : j ≡ k = cc in ap (λ (k : Kept). k.number) (sym same) ∙ eqb-true j.number n is
    go false is h more = more h
