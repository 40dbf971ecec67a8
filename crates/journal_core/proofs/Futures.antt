-- What is gathered from a step on is its future, and the only one.
use Rattle.std.proofs.Common.{◌≡◌, ◌⊎◌, inl, inr, ℕ, ◌+◌, ◌<◌, ◌≤◌, ◌==◌, ◌||◌, Bool, true, false, if◌then◌else◌, List, [], ◌∷◌, ◌++◌, Some}
use Rattle.std.proofs.Common.{refl, sym}
use Rattle.std.proofs.Common.{ap, ◌∙◌, subst, true≢false, arith, append-nil, append_assoc}
use Rattle.std.proofs.lemmas.Bool.{eqb-true, eq-eqb, ne_eqb, or_cases, or_right}
use Rattle.std.specs.List.{AllByRecursion as Each, list_any}
use Rattle.journal_core.specs.Journals.{Kept, NumbersRise, AreInCausalOrder, is_consequence, find_number, numbers}
use Rattle.journal_core.specs.Gathering.{gathered, gathered_numbers}
use Rattle.journal_core.specs.Futures.{Follows, Itself, Next, FallsBelow, Falls, IsFuture}
use Rattle.journal_core.proofs.Each.{each_push, each_front, each_rest, each_imp, each_both, each_find, any_of, NoneOf, finds_all, find_itself}
use Rattle.journal_core.proofs.Senders.{none_up_to}

abbrev pub is_in : ℕ → List Kept → Bool
is_in m ks = list_any (λ k. k.number == m) ks

abbrev pub follows_found : List Kept → ℕ → List Kept → Kept → Bool
follows_found ks n found j = (j.number == n) || list_any (λ k. is_consequence ks k j) found

-- of the steps seen, each that follows from one found is found
abbrev pub Closed : List Kept → ℕ → List Kept → List Kept → Type 0
Closed ks n found seen = Each (λ j. follows_found ks n found j ≡ true → is_in j.number found ≡ true) seen

closed_more : (ks : List Kept) (n : ℕ) (found : List Kept) (k : Kept) (seen : List Kept) → NoneOf (is_consequence ks k) seen →
    Closed ks n found seen → Closed ks n (k ∷ found) seen
closed_more ks n found k seen none closed =
    each_imp _ _ (λ j h test. or_right (k.number == j.number) _ (h.1 (sym
    (ap (λ b. (j.number == n) || (b || list_any (λ k. is_consequence ks k j) found)) h.0) ∙ test))) seen
    (each_both _ _ seen none closed)

closed_all : (n : ℕ) (ks : List Kept) → AreInCausalOrder ks → (found seen rest : List Kept) → ks ≡ seen ++ rest → Closed ks n found seen →
    Closed ks n (gathered ks n found rest) (seen ++ rest)
closed_all n ks order found seen [] is closed = subst (Closed ks n found) (sym (append-nil seen)) closed
closed_all n ks order found seen (j ∷ rest) is closed =
    let none = none_up_to ks seen rest j order is in
    go (follows_found ks n found j) refl (each_front _ seen (j ∷ []) none) (each_rest _ seen (j ∷ []) none).0 (λ found' h.
    subst (Closed ks n (gathered ks n found' rest)) (append_assoc seen (j ∷ []) rest)
    (closed_all n ks order found' (seen ++ j ∷ []) rest (is ∙ sym (append_assoc seen (j ∷ []) rest)) h))
  where
    go : (b : Bool) → follows_found ks n found j ≡ b → NoneOf (is_consequence ks j) seen → is_consequence ks j j ≡ false →
        ((found' : List Kept) → Closed ks n found' (seen ++ j ∷ []) → Closed ks n (gathered ks n found' rest) (seen ++ j ∷ rest)) →
        Closed ks n (gathered ks n (if b then j ∷ found else found) rest) (seen ++ j ∷ rest)
    go true test none itself more =
        more (j ∷ found) (each_push _ seen j (closed_more ks n found j seen none closed)
        (λ _. ap (λ b. b || is_in j.number found) (eq-eqb j.number j.number refl)))
    go false test none itself more = more found (each_push _ seen j closed (λ h. absurd (true≢false (sym h ∙ test))))

-- what is gathered follows, and falls

IsFound : List Kept → ℕ → Kept → Type 0
IsFound ks n j = Follows ks n j.number × (find_number ks j.number ≡ Some j)

gathered_follows : (ks : List Kept) (n : ℕ) (found rest : List Kept) → Each (IsFound ks n) found →
    Each (λ j. find_number ks j.number ≡ Some j) rest → Each (IsFound ks n) (gathered ks n found rest)
unfolding IsFound
gathered_follows ks n found [] all there = all
gathered_follows ks n found (j ∷ rest) all there =
    go (follows_found ks n found j) refl (λ found' h. gathered_follows ks n found' rest h there.1)
  where
    new : (j.number == n ≡ true) ⊎ (list_any (λ k. is_consequence ks k j) found ≡ true) → Follows ks n j.number
    new (inl e) =
        let at : j.number ≡ n = eqb-true j.number n e in subst (Follows ks n) (sym at) (Itself j (ap (find_number ks) (sym at) ∙ there.0))
    new (inr e) =
        let k = any_of (λ k. Follows ks n k.number × (find_number ks k.number ≡ Some k)) (λ k. is_consequence ks k j) found all e in
        Next k.0 j k.1.0 k.1.1 there.0 k.2

    go : (b : Bool) → follows_found ks n found j ≡ b →
        ((found' : List Kept) → Each (λ j. Follows ks n j.number × (find_number ks j.number ≡ Some j)) found' →
        Each (λ j. Follows ks n j.number × (find_number ks j.number ≡ Some j)) (gathered ks n found' rest)) →
        Each (λ j. Follows ks n j.number × (find_number ks j.number ≡ Some j)) (gathered ks n (if b then j ∷ found else found) rest)
    go true test more = more (j ∷ found) ((new (or_cases _ _ test), there.0), all)
    go false test more = more found all

falls_higher : (a b : ℕ) (ns : List ℕ) → a ≤ b → FallsBelow a ns → FallsBelow b ns
falls_higher a b [] h falls = tt
falls_higher a b (n ∷ ns) h falls = (let first = falls.0 in omega arith, falls.1)

gathered_falls : (ks : List Kept) (n a : ℕ) (found rest : List Kept) → NumbersRise a rest → FallsBelow (a + 1) (numbers found) →
    (m : ℕ) × FallsBelow m (numbers (gathered ks n found rest))
gathered_falls ks n a found [] rises falls = (a + 1, falls)
gathered_falls ks n a found (j ∷ rest) rises falls =
    go (follows_found ks n found j) (λ found' h. gathered_falls ks n j.number found' rest rises.1 h)
  where
    go : (b : Bool) → ((found' : List Kept) → FallsBelow (j.number + 1) (numbers found') →
        (m : ℕ) × FallsBelow m (numbers (gathered ks n found' rest))) →
        (m : ℕ) × FallsBelow m (numbers (gathered ks n (if b then j ∷ found else found) rest))
    go true more = more (j ∷ found) (omega arith, falls_higher (a + 1) j.number (numbers found) (let h = rises.0 in omega arith) falls)
    go false more = more found (falls_higher (a + 1) (j.number + 1) (numbers found) (let h = rises.0 in omega arith) falls)

pub falls_below : (ks : List Kept) (n : ℕ) → NumbersRise 0 ks → (m : ℕ) × FallsBelow m (gathered_numbers ks n)
falls_below ks n rises = gathered_falls ks n 0 [] ks rises tt

falls : (m : ℕ) (ns : List ℕ) → FallsBelow m ns → Falls ns
falls m [] h = tt
falls m (n ∷ ns) h = h.1

-- a step is gathered exactly where it follows

pub any_numbers : (j : ℕ) (ks : List Kept) → list_any (λ m. m == j) (numbers ks) ≡ is_in j ks
any_numbers j [] = refl
any_numbers j (k ∷ ks) = ap (λ b. (k.number == j) || b) (any_numbers j ks)

any_in : (ks found : List Kept) (m : ℕ) (k : Kept) (test : Kept → Bool) → Each (λ x. find_number ks x.number ≡ Some x) found →
    find_number ks m ≡ Some k → is_in m found ≡ true → test k ≡ true → list_any test found ≡ true
any_in ks [] m k test all fk h passes = absurd (cc)
any_in ks (x ∷ found) m k test all fk h passes = go (x.number == m) refl h (λ h. any_in ks found m k test all.1 fk h passes)
  where
    go : (b : Bool) → (x.number == m) ≡ b → (b || is_in m found) ≡ true → (is_in m found ≡ true → list_any test found ≡ true) →
        (test x || list_any test found) ≡ true
    go true is h more =
        let same : k ≡ x = let one : Some k ≡ Some x = sym fk ∙ ap (find_number ks) (sym (eqb-true x.number m is)) ∙ all.0 in cc in
        ap (λ b. b || list_any test found) (subst (λ (k : Kept). test k ≡ true) same passes)
    go false is h more = or_right (test x) _ (more h)

module _ (n : ℕ) (ks : List Kept) (order : AreInCausalOrder ks) where
  abbrev all : List Kept
  all = gathered ks n [] ks

  pub closed : Closed ks n all ks
  closed = closed_all n ks order [] [] ks refl tt

  pub finds : Each (λ j. find_number ks j.number ≡ Some j) ks
  finds = each_imp _ (λ j. find_number ks j.number ≡ Some j) (λ j h. h.1) ks (finds_all 0 ks order.0)

  found : Each (IsFound ks n) all
  found = gathered_follows ks n [] ks tt finds

  pub found_there : Each (λ x. find_number ks x.number ≡ Some x) all
  unfolding IsFound
  found_there = each_imp (IsFound ks n) (λ x. find_number ks x.number ≡ Some x) (λ x h. h.1) _ found

  follows_in : (j : ℕ) → Follows ks n j → is_in j all ≡ true
  follows_in _ (Itself k fk) =
      let e = find_itself ks n k fk in
      subst (λ m. is_in m all ≡ true) e
      (each_find _ ks n k closed fk (ap (λ b. b || list_any (λ x. is_consequence ks x k) all) (eq-eqb k.number n e)))
  follows_in _ (Next k j earlier fk fj follows) =
      each_find (λ j. follows_found ks n all j ≡ true → is_in j.number all ≡ true) ks j.number j closed fj
      (or_right (j.number == n) _ (any_in ks all k.number k (λ x. is_consequence ks x j) found_there fk (follows_in k.number earlier)
      follows))

  in_follows : (j : ℕ) → is_in j all ≡ true → Follows ks n j
  unfolding IsFound
  in_follows j h = let k = any_of (IsFound ks n) (λ k. k.number == j) all found h in subst (Follows ks n) (eqb-true k.0.number j k.2) k.1.0

  pub is_future : IsFuture ks n (gathered_numbers ks n)
  is_future =
      let low = falls_below ks n order.0 in
      record {
        follows = λ j. ((λ h. in_follows j (sym (any_numbers j all) ∙ h)), (λ h. any_numbers j all ∙ follows_in j h));
        falls = falls low.0 (gathered_numbers ks n) low.1;
      }

-- lists that fall and have the same numbers are the same

abbrev has : ℕ → List ℕ → Bool
has j ns = list_any (λ m. m == j) ns

has_first : (n : ℕ) (ns : List ℕ) → has n (n ∷ ns) ≡ true
has_first n ns = ap (λ b. b || has n ns) (eq-eqb n n refl)

pub has_below : (m : ℕ) (ns : List ℕ) (j : ℕ) → FallsBelow m ns → list_any (λ m. m == j) ns ≡ true → j < m
has_below m [] j falls h = absurd (cc)
has_below m (n ∷ ns) j falls h = go (n == j) refl h (has_below n ns j falls.1)
  where
    go : (b : Bool) → (n == j) ≡ b → (b || has j ns) ≡ true → (has j ns ≡ true → j < n) → j < m
    go true is h more = let at = eqb-true n j is in let first = falls.0 in omega arith
    go false is h more = let at = more h in let first = falls.0 in omega arith

same_rest : (x y : ℕ) (xs ys : List ℕ) → x ≡ y → FallsBelow x xs → ((j : ℕ) → has j (x ∷ xs) ≡ true → has j (y ∷ ys) ≡ true) → (j : ℕ) →
    has j xs ≡ true → has j ys ≡ true
same_rest x y xs ys same falls all j h =
    let low = has_below x xs j falls h in
    let other : (y == j) ≡ false = ne_eqb y j (λ e. omega arith) in
    sym (ap (λ b. b || has j ys) other) ∙ all j (or_right (x == j) _ h)

same_falls : (xs ys : List ℕ) → Falls xs → Falls ys → ((j : ℕ) → has j xs ≡ true → has j ys ≡ true) →
    ((j : ℕ) → has j ys ≡ true → has j xs ≡ true) → xs ≡ ys
same_falls [] [] a b to from = refl
same_falls [] (y ∷ ys) a b to from = let h = from y (has_first y ys) in absurd (cc)
same_falls (x ∷ xs) [] a b to from = let h = to x (has_first x xs) in absurd (cc)
same_falls (x ∷ xs) (y ∷ ys) a b to from =
    let low = has_below (y + 1) (y ∷ ys) x (omega arith, b) (to x (has_first x xs)) in
    let high = has_below (x + 1) (x ∷ xs) y (omega arith, a) (from y (has_first y ys)) in
    let same : x ≡ y = omega arith in
    let rest = same_falls xs ys (falls x xs a) (falls y ys b) (same_rest x y xs ys same a to) (same_rest y x ys xs (sym same) b from) in
    ap (λ (z : ℕ). z ∷ xs) same ∙ ap (λ (l : List ℕ). y ∷ l) rest

pub one_future : (ks : List Kept) (n : ℕ) (a b : List ℕ) → IsFuture ks n a → IsFuture ks n b → a ≡ b
one_future ks n a b left right =
    same_falls a b left.falls right.falls (λ j h. (right.follows j).1 ((left.follows j).0 h))
    (λ j h. (left.follows j).1 ((right.follows j).0 h))
