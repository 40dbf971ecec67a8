-- Sets of names of which all are below a number.
use Rattle.std.proofs.Common.{◌≡◌, ℕ, ◌≤◌, ◌&&◌, ◌||◌, not, nat_lt, zero, suc, Bool, true, false, List, [], ◌∷◌, get_or, drop, refl, sym, ap, ◌∙◌, arith}
use Rattle.std.proofs.lemmas.Bool.{eqb-true, eq-eqb, ltb-true, ltb-false}
use Rattle.std.specs.List.{list_all, list_any}
use Rattle.std.specs.Cmp.{unsigned_tied}
use Rattle.std.specs.Ordering.{nat_cmp, eq_by_cmp}
use Rattle.std.specs.FinSet as set
use Rattle.dots_core.specs.Flags.{names_of_flags}
use Rattle.dots_core.specs.FlagsBack.{contains-names_of_flags}

-- a test that each element passes, each element that is found passes
found_passes : (test : ℕ → Bool) (xs : List ℕ) (q : ℕ) → list_all test xs ≡ true → list_any (eq_by_cmp nat_cmp q) xs ≡ true → test q ≡ true
found_passes test [] q all found = absurd (cc)
found_passes test (x ∷ xs) q all found = go (test x) refl (eq_by_cmp nat_cmp q x) refl all found (found_passes test xs q)
  where
    go : (t : Bool) → test x ≡ t → (e : Bool) → eq_by_cmp nat_cmp q x ≡ e → (t && list_all test xs) ≡ true →
        (e || list_any (eq_by_cmp nat_cmp q) xs) ≡ true →
        (list_all test xs ≡ true → list_any (eq_by_cmp nat_cmp q) xs ≡ true → test q ≡ true) → test q ≡ true
    go false passes e is all found more = absurd (cc)
    go true passes true is all found more = ap test (eqb-true q x (sym (unsigned_tied q x) ∙ is)) ∙ passes
    go true passes false is all found more = more all found

all_found : (test : ℕ → Bool) (xs : List ℕ) → ((q : ℕ) → list_any (eq_by_cmp nat_cmp q) xs ≡ true → test q ≡ true) → list_all test xs ≡ true
all_found test [] passes = refl
all_found test (x ∷ xs) passes =
    rw (passes x (rw (here x) refl)) (all_found test xs (λ q found. passes q (later (eq_by_cmp nat_cmp q x) q found)))
  where
    here : (x : ℕ) → eq_by_cmp nat_cmp x x ≡ true
    here x = unsigned_tied x x ∙ eq-eqb x x refl

    later : (b : Bool) (q : ℕ) → list_any (eq_by_cmp nat_cmp q) xs ≡ true → (b || list_any (eq_by_cmp nat_cmp q) xs) ≡ true
    later true q found = refl
    later false q found = found

-- from place `count` on the flags are false, where none is true there
none_on : (count : ℕ) (bs : List Bool) → ((k : ℕ) → count ≤ k → get_or bs k false ≡ false) → list_all not (drop count bs) ≡ true
none_on zero [] none = refl
none_on (suc count) [] none = refl
none_on zero (b ∷ bs) none = rw (none 0 (omega arith)) (none_on zero bs (λ k above. none (suc k) (omega arith)))
none_on (suc count) (b ∷ bs) none = none_on count bs (λ k above. none (suc k) (omega arith))

off_from : (count : ℕ) (bs : List Bool) → list_all not (drop count bs) ≡ true → (k : ℕ) → count ≤ k → get_or bs k false ≡ false
off_from zero [] none k above = refl
off_from (suc count) [] none k above = refl
off_from zero (true ∷ bs) none k above = absurd (cc)
off_from zero (false ∷ bs) none zero above = refl
off_from zero (false ∷ bs) none (suc k) above = off_from zero bs none k (omega arith)
off_from (suc count) (b ∷ bs) none zero above = absurd (omega arith)
off_from (suc count) (b ∷ bs) none (suc k) above = off_from count bs none k (omega arith)

-- no flag from place `count` on says that a name is in, exactly where all names are below
pub none_above : (bs : List Bool) (count : ℕ) →
    list_all not (drop count bs) ≡ list_all (λ name. nat_lt name count) (set.items (names_of_flags bs))
none_above bs count = go (list_all not (drop count bs)) refl (list_all (λ name. nat_lt name count) (set.items (names_of_flags bs))) refl
  where
    low_of : (q : ℕ) (low held : Bool) → list_all not (drop count bs) ≡ true → nat_lt q count ≡ low → get_or bs q false ≡ held →
        held ≡ true → low ≡ true
    low_of q true held off is at has = refl
    low_of q false held off is at has = absurd (let none = off_from count bs off q (ltb-false q count is) in cc)

    off_at : (k : ℕ) → count ≤ k → (held : Bool) → get_or bs k false ≡ held →
        list_all (λ name. nat_lt name count) (set.items (names_of_flags bs)) ≡ true → held ≡ false
    off_at k above false at are = refl
    off_at k above true at are = absurd (
        let low : nat_lt k count ≡ true =
        found_passes (λ name. nat_lt name count) (set.items (names_of_flags bs)) k are
        (sym (set.contains-items (names_of_flags bs) k) ∙ contains-names_of_flags bs k ∙ at) in
        let less = ltb-true k count low in
        omega arith
        )

    go : (off : Bool) → list_all not (drop count bs) ≡ off → (low : Bool) →
        list_all (λ name. nat_lt name count) (set.items (names_of_flags bs)) ≡ low → off ≡ low
    go true is true are = refl
    go false is false are = refl
    go true is false are = sym (sym are ∙ all_found (λ name. nat_lt name count) (set.items (names_of_flags bs))
        (λ q found. low_of q (nat_lt q count) (get_or bs q false) is refl refl
        (sym (contains-names_of_flags bs q) ∙ set.contains-items (names_of_flags bs) q ∙ found)))
    go false is true are = sym is ∙ none_on count bs (λ k above. off_at k above (get_or bs k false) refl are)
