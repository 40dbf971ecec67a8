-- What the index of a node says of the consequences of its steps.
use Rattle.std.proofs.Common.{◌≡◌, ◌⊎◌, inl, inr, ℕ, zero, suc, ◌+◌, ◌<◌, ◌≤◌, ◌==◌, ◌&&◌, ◌||◌, nat_lt, Bool, true, false, cond, if◌then◌else◌}
use Rattle.std.proofs.Common.{List, [], ◌∷◌, slice_get, Option, Some, None, option_map, option_and_then, refl, sym, ap, ◌∙◌, arith}
use Rattle.std.specs.List.{filter}
use Rattle.std.proofs.lemmas.Bool.{cases_eq, eqb-true, ne_eqb, eq-eqb, lt-ltb, le-ltb, and_left, and_right}
use Rattle.journal_core.specs.Numbers.{RisesAbove, place_of, first_above, head, last, least}
use Rattle.journal_core.specs.Journals.{Kept, NumbersRise, own_steps, sent_by, sender_of, source_at, is_number, delivers_from, is_consequence}
use Rattle.journal_core.specs.Journals.{find_number, first_number, first_consequence, last_own, numbers}
use Rattle.node_core.specs.Operations.{delivers, sends}
use Rattle.journal_core.specs.Causes.{Causes, IsIndexOf, is_message, first_at, first_delivered}
use Rattle.journal_core.proofs.NumberLists.{place_below, none_above, rises_lower}
use Rattle.journal_core.proofs.Each.{find_itself}
use Rattle.journal_core.proofs.Rising.{rises_filter}

-- the first of two kinds

first_bound : (a m : ℕ) (test : Kept → Bool) (ks : List Kept) → NumbersRise a ks → first_number test ks ≡ Some m → a < m
first_bound a m test [] rises h = absurd (cc)
first_bound a m test (k ∷ ks) rises h = go (test k) h (first_bound k.number m test ks rises.1)
  where
    go : (b : Bool) → (if b then Some k.number else first_number test ks) ≡ Some m → (first_number test ks ≡ Some m → k.number < m) → a < m
    go true h more = let e : k.number ≡ m = cc in let low = rises.0 in omega arith
    go false h more = let low = rises.0 in let high = more h in omega arith

least_here : (n : ℕ) (o : Option ℕ) → ((m : ℕ) → o ≡ Some m → n < m) → least (Some n) o ≡ Some n
least_here n None above = refl
least_here n (Some m) above = ap (λ b. Some (if b then m else n)) (le-ltb m n (let h = above m refl in omega arith))

least_there : (n : ℕ) (o : Option ℕ) → ((m : ℕ) → o ≡ Some m → n < m) → least o (Some n) ≡ Some n
least_there n None above = refl
least_there n (Some m) above = ap (λ b. Some (if b then n else m)) (lt-ltb n m (above m refl))

pub least_first : (a : ℕ) (f g : Kept → Bool) (ks : List Kept) → NumbersRise a ks → first_number (λ j. f j || g j) ks ≡ least (first_number f ks)
    (first_number g ks)
least_first a f g [] rises = refl
least_first a f g (k ∷ ks) rises = go (f k) (g k) (least_first k.number f g ks rises.1)
  where
    go : (b d : Bool) → first_number (λ j. f j || g j) ks ≡ least (first_number f ks) (first_number g ks) →
        (if b || d then Some k.number else first_number (λ j. f j || g j) ks) ≡ least (if b then Some k.number else first_number f ks)
        (if d then Some k.number else first_number g ks)
    go true true more = sym (ap (λ b. Some (if b then k.number else k.number)) (le-ltb k.number k.number (omega arith)))
    go true false more = sym (least_here k.number (first_number g ks) (λ m. first_bound k.number m g ks rises.1))
    go false true more = sym (least_there k.number (first_number f ks) (λ m. first_bound k.number m f ks rises.1))
    go false false more = more

-- the first that is later

pub later_first : (f : Kept → Bool) (n : ℕ) (ks : List Kept) → first_number (λ j. f j && nat_lt n j.number) ks ≡ first_above n
    (numbers (filter f ks))
later_first f n [] = refl
later_first f n (k ∷ ks) = go (f k) (later_first f n ks)
  where
    go : (b : Bool) → first_number (λ j. f j && nat_lt n j.number) ks ≡ first_above n (numbers (filter f ks)) →
        (if b && nat_lt n k.number then Some k.number else first_number (λ j. f j && nat_lt n j.number) ks) ≡ first_above n
        (numbers (cond b (k ∷ filter f ks) (filter f ks)))
    go true more = ap (λ o. if nat_lt n k.number then Some k.number else o) more
    go false more = more

pub first_head : (f : Kept → Bool) (ks : List Kept) → first_number f ks ≡ head (numbers (filter f ks))
first_head f [] = refl
first_head f (k ∷ ks) = go (f k) (first_head f ks)
  where
    go : (b : Bool) → first_number f ks ≡ head (numbers (filter f ks)) → (if b then Some k.number else first_number f ks) ≡ head
        (numbers (cond b (k ∷ filter f ks) (filter f ks)))
    go true more = refl
    go false more = more

pub first_agree : (f g : Kept → Bool) → ((k : Kept) → f k ≡ g k) → (ks : List Kept) → first_number f ks ≡ first_number g ks
first_agree f g same [] = refl
first_agree f g same (k ∷ ks) = rw (same k) (ap (λ o. if g k then Some k.number else o) (first_agree f g same ks))

first_never : (ks : List Kept) → first_number (λ k. false) ks ≡ None
first_never [] = refl
first_never (k ∷ ks) = first_never ks

-- the steps of a kind: their numbers rise, and have the number of a step where it is of the kind

pub numbers_rise : (a : ℕ) (f : Kept → Bool) (ks : List Kept) → NumbersRise a ks → RisesAbove a (numbers (filter f ks))
numbers_rise a f [] rises = tt
numbers_rise a f (k ∷ ks) rises = go (f k) (numbers_rise k.number f ks rises.1)
  where
    go : (b : Bool) → RisesAbove k.number (numbers (filter f ks)) → RisesAbove a (numbers (cond b (k ∷ filter f ks) (filter f ks)))
    go true more = (rises.0, more)
    go false more = rises_lower a k.number (numbers (filter f ks)) (let low = rises.0 in omega arith) more

pub out_of : (a n : ℕ) (k : Kept) (f : Kept → Bool) (ks : List Kept) → NumbersRise a ks → find_number ks n ≡ Some k → f k ≡ false → place_of
    (numbers (filter f ks)) n ≡ None
out_of a n k f [] rises found not = refl
out_of a n k f (j ∷ ks) rises found not = go (j.number == n) refl found (out_of j.number n k f ks rises.1)
  where
    go : (b : Bool) → (j.number == n) ≡ b → (if b then Some j else find_number ks n) ≡ Some k →
        (find_number ks n ≡ Some k → f k ≡ false → place_of (numbers (filter f ks)) n ≡ None) →
        place_of (numbers (cond (f j) (j ∷ filter f ks) (filter f ks))) n ≡ None
    go true is found more =
        let same : j ≡ k = cc in
        ap (λ b. place_of (numbers (cond b (j ∷ filter f ks) (filter f ks))) n) (ap f same ∙ not)
        ∙ none_above j.number n (numbers (filter f ks)) (let e = eqb-true j.number n is in omega arith) (numbers_rise j.number f ks rises.1)
    go false is found more = both (f j) (more found not)
      where
        both : (b : Bool) → place_of (numbers (filter f ks)) n ≡ None → place_of (numbers (cond b (j ∷ filter f ks) (filter f ks))) n ≡ None
        both true none = rw is (ap (option_map (λ p. p + 1)) none)
        both false none = none

pub in_kind : (n : ℕ) (k : Kept) (f : Kept → Bool) (ks : List Kept) → find_number ks n ≡ Some k → f k ≡ true → (p : ℕ) ×
    (place_of (numbers (filter f ks)) n ≡ Some p)
in_kind n k f [] found is = absurd (cc)
in_kind n k f (j ∷ ks) found is = go (j.number == n) refl found (λ h. in_kind n k f ks h is)
  where
    go : (b : Bool) → (j.number == n) ≡ b → (if b then Some j else find_number ks n) ≡ Some k →
        (find_number ks n ≡ Some k → (p : ℕ) × (place_of (numbers (filter f ks)) n ≡ Some p)) →
        (p : ℕ) × (place_of (numbers (cond (f j) (j ∷ filter f ks) (filter f ks))) n ≡ Some p)
    go true at found more = let same : j ≡ k = cc in (0, rw (ap f same ∙ is, at) refl)
    go false at found more = both (f j) (more found)
      where
        both : (b : Bool) → (p : ℕ) × (place_of (numbers (filter f ks)) n ≡ Some p) → (p : ℕ) ×
            (place_of (numbers (cond b (j ∷ filter f ks) (filter f ks))) n ≡ Some p)
        both true some = (some.0 + 1, rw at (ap (option_map (λ p. p + 1)) some.1))
        both false some = some

-- which message a step sent

abbrev pub is_place : Option ℕ → ℕ → Bool
is_place None q = false
is_place (Some p) q = q == suc p

abbrev pub is_from : Option ℕ → ℕ → Option (ℕ × ℕ) → Bool
is_from o node None = false
is_from o node (Some m) = (m.0 == node) && is_place o m.1

number_past : (a n : ℕ) (xs : List Kept) (i : ℕ) → n ≤ a → NumbersRise a xs → is_number (option_map (λ k. k.number) (slice_get xs i)) n ≡ false
number_past a n [] i le rises = refl
number_past a n (x ∷ xs) zero le rises = let first = rises.0 in ne_eqb x.number n (λ e. omega arith)
number_past a n (x ∷ xs) (suc i) le rises = let first = rises.0 in number_past x.number n xs i (omega arith) rises.1

place_shift : (o : Option ℕ) (i : ℕ) → is_place (option_map (λ p. p + 1) o) (suc (suc i)) ≡ is_place o (suc i)
place_shift None i = refl
place_shift (Some p) i = eqb_shift (suc (suc i)) (suc i) (suc (p + 1)) (suc p) (omega arith) (omega arith)
  where
    eqb_shift : (a b c d : ℕ) → a ≡ suc b → c ≡ suc d → (a == c) ≡ (b == d)
    eqb_shift a b c d e f = go (cases_eq b d)
      where
        go : (b ≡ d) ⊎ (b ≡ d → ⊥) → (a == c) ≡ (b == d)
        go (inl same) = eq-eqb a c (omega arith) ∙ sym (eq-eqb b d same)
        go (inr apart) = ne_eqb a c (λ h. apart (omega arith)) ∙ sym (ne_eqb b d apart)

shifted_zero : (o : Option ℕ) → is_place (option_map (λ p. p + 1) o) 1 ≡ false
shifted_zero None = refl
shifted_zero (Some p) = ne_eqb 1 (suc (p + 1)) (λ e. omega arith)

pub number_place : (a n : ℕ) (xs : List Kept) (i : ℕ) → NumbersRise a xs → is_number (option_map (λ k. k.number) (slice_get xs i)) n ≡ is_place
    (place_of (numbers xs) n) (suc i)
number_place a n [] i rises = refl
number_place a n (x ∷ xs) zero rises = go (x.number == n)
  where
    go : (b : Bool) → b ≡ is_place (if b then Some 0 else option_map (λ p. p + 1) (place_of (numbers xs) n)) 1
    go true = refl
    go false = sym (shifted_zero (place_of (numbers xs) n))
number_place a n (x ∷ xs) (suc i) rises = go (x.number == n) refl (number_place x.number n xs i rises.1)
  where
    go : (b : Bool) → (x.number == n) ≡ b → is_number (option_map (λ k. k.number) (slice_get xs i)) n ≡ is_place (place_of (numbers xs) n) (suc i) →
        is_number (option_map (λ k. k.number) (slice_get xs i)) n ≡ is_place
        (if b then Some 0 else option_map (λ p. p + 1) (place_of (numbers xs) n)) (suc (suc i))
    go true is more = number_past x.number n xs i (let e = eqb-true x.number n is in omega arith) rises.1 ∙ sym
        (ne_eqb (suc (suc i)) 1 (λ e. omega arith))
    go false is more = more ∙ sym (place_shift (place_of (numbers xs) n) i)

place_zero : (o : Option ℕ) → is_place o 0 ≡ false
place_zero None = refl
place_zero (Some p) = ne_eqb 0 (suc p) (λ e. omega arith)

pub delivers_is : (ks : List Kept) (n : ℕ) (k : Kept) → NumbersRise 0 ks → find_number ks n ≡ Some k → (j : Kept) → delivers_from ks j k ≡ is_from
    (place_of (numbers (sent_by ks k.node)) n) k.node (delivers j.step)
delivers_is ks n k rises found j = go (delivers j.step)
  where
    number : k.number ≡ n
    number = find_itself ks n k found

    go : (d : Option (ℕ × ℕ)) → is_number (source_at ks d) k.number ≡ is_from (place_of (numbers (sent_by ks k.node)) n) k.node d
    go None = refl
    go (Some (s, zero)) = sym (and_right (s == k.node) _ (place_zero (place_of (numbers (sent_by ks k.node)) n)))
    go (Some (s, suc i)) =
        ap (is_number (sender_of ks s (suc i))) number
        ∙ number_place 0 n (sent_by ks s) i (rises_filter 0 _ ks rises)
        ∙ both (cases_eq s k.node)
      where
        both : (s ≡ k.node) ⊎ (s ≡ k.node → ⊥) → is_place (place_of (numbers (sent_by ks s)) n) (suc i) ≡
            ((s == k.node) && is_place (place_of (numbers (sent_by ks k.node)) n) (suc i))
        both (inl same) = ap (λ s. is_place (place_of (numbers (sent_by ks s)) n) (suc i)) same ∙ sym
            (ap (λ b. b && is_place (place_of (numbers (sent_by ks k.node)) n) (suc i)) (eq-eqb s k.node same))
        both (inr apart) =
            ap (λ o. is_place o (suc i))
            (out_of 0 n k (λ x. (x.node == s) && sends x.step) ks rises found (and_left (k.node == s) _ (ne_eqb k.node s (λ e. apart (sym e)))))
            ∙ sym (and_left (s == k.node) _ (ne_eqb s k.node apart))

pub never_from : (node : ℕ) (d : Option (ℕ × ℕ)) → is_from None node d ≡ false
never_from node None = refl
never_from node (Some m) = and_right (m.0 == node) false refl

pub from_message : (p node : ℕ) (d : Option (ℕ × ℕ)) → is_from (Some p) node d ≡ is_message node (suc p) d
from_message p node None = refl
from_message p node (Some m) = refl

pub sent_first : (ks : List Kept) (n : ℕ) (k : Kept) (c : Causes) → NumbersRise 0 ks → find_number ks n ≡ Some k → IsIndexOf ks ks k.node c →
    first_number (λ j. delivers_from ks j k) ks ≡ first_delivered c.sent c.deliveries n
sent_first ks n k c rises found is =
    first_agree _ _ (delivers_is ks n k rises found) ks
    ∙ ap (λ (l : List ℕ). first_number (λ j. is_from (place_of l n) k.node (delivers j.step)) ks) (sym is.sent)
    ∙ go (place_of c.sent n) refl
  where
    go : (o : Option ℕ) → place_of c.sent n ≡ o → first_number (λ j. is_from o k.node (delivers j.step)) ks ≡ first_at c.deliveries o
    go None at = first_agree _ (λ j. false) (λ j. never_from k.node (delivers j.step)) ks ∙ first_never ks
    go (Some p) at =
        let low = place_below n c.sent p at in
        let same = is.messages in
        first_agree _ (λ j. is_message k.node (suc p) (delivers j.step)) (λ j. from_message p k.node (delivers j.step)) ks
        ∙ first_head _ ks ∙ ap head (sym (is.deliveries p (omega arith)))

turned_eqb : (a b : ℕ) → (a == b) ≡ (b == a)
turned_eqb a b = go (cases_eq a b)
  where
    go : (a ≡ b) ⊎ (a ≡ b → ⊥) → (a == b) ≡ (b == a)
    go (inl e) = eq-eqb a b e ∙ sym (eq-eqb b a (sym e))
    go (inr apart) = ne_eqb a b apart ∙ sym (ne_eqb b a (λ e. apart (sym e)))

pub consequence_is : (ks : List Kept) (n : ℕ) (k : Kept) (c : Causes) → NumbersRise 0 ks → find_number ks n ≡ Some k → IsIndexOf ks ks k.node c →
    first_consequence ks n ≡ least (first_above n c.own) (first_delivered c.sent c.deliveries n)
consequence_is ks n k c rises found is =
    ap (option_and_then (λ k. first_number (is_consequence ks k) ks)) found
    ∙ least_first 0 (λ j. (k.node == j.node) && nat_lt k.number j.number) (λ j. delivers_from ks j k) ks rises
    ∙ ap (λ o. least o (first_number (λ j. delivers_from ks j k) ks))
    (first_agree _ (λ j. (j.node == k.node) && nat_lt n j.number)
    (λ j. ap (λ b. b && nat_lt k.number j.number) (turned_eqb k.node j.node) ∙ ap (λ m. (j.node == k.node) && nat_lt m j.number)
    (find_itself ks n k found)) ks
    ∙ later_first (λ j. j.node == k.node) n ks ∙ ap (first_above n) (sym is.own))
    ∙ ap (least (first_above n c.own)) (sent_first ks n k c rises found is)

pub last_is_own : (node : ℕ) (o : Option ℕ) (ks : List Kept) → last_own o ks node ≡ last o (numbers (own_steps ks node))
last_is_own node o [] = refl
last_is_own node o (k ∷ ks) = go (k.node == node) (λ o. last_is_own node o ks)
  where
    go : (b : Bool) → ((o : Option ℕ) → last_own o ks node ≡ last o (numbers (own_steps ks node))) → last_own
        (if b then Some k.number else o) ks node ≡ last o (numbers (cond b (k ∷ own_steps ks node) (own_steps ks node)))
    go true more = more (Some k.number)
    go false more = more o
