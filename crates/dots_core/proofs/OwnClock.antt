-- The dots of one name whose clocks count up from 1: a replica's own.
use Rattle.std.proofs.Common.{◌≡◌, ◌≢◌, ◌⊎◌, inl, inr, ℕ, ◌+◌, ◌<◌, ◌≤◌, ◌==◌, ◌&&◌, ◌||◌, Bool, true, false, cond, refl, sym, ap, ◌∙◌, subst, arith}
use Rattle.std.proofs.lemmas.Bool.{cases_eq, eq-eqb, eqb-true, false_from_ne_true}
use Rattle.std.specs.FinSet as set
use Rattle.dots_core.specs.declared.dot.Dot.{Dot}
use Rattle.dots_core.specs.Dots.{Dots, dot, of_names, count_of, HasClocks}
use Rattle.dots_core.proofs.Order.{dot_total, is_dot, is_dot-true}
use Rattle.dots_core.proofs.Sets.{contains-retain, contains-insert, contains_inserted, contains_insert_more, inserted_cases, and_alike, same_dots}

-- sets with the same own dots
pub own_same : (own : ℕ) (s t : Dots) → ((d : Dot) → d.name ≡ own → set.contains s d ≡ set.contains t d) →
    of_names (λ n. n == own) s ≡ of_names (λ n. n == own) t
own_same own s t h = same_dots _ _ (λ d.
    contains-retain s (λ d. d.name == own) d
    ∙ and_alike (set.contains s d) (set.contains t d) (d.name == own) (λ e. h d (eqb-true d.name own e))
    ∙ sym (contains-retain t (λ d. d.name == own) d))

pub clocks_same : (own : ℕ) (s t : Dots) → ((d : Dot) → d.name ≡ own → set.contains s d ≡ set.contains t d) → HasClocks own s →
    HasClocks own t
clocks_same own s t h clocks k =
    let count : count_of own s ≡ count_of own t = ap set.len (own_same own s t h) in
    let at : set.contains s (dot own k) ≡ set.contains t (dot own k) = h (dot own k) refl in (
      (λ e. let c = (clocks k).0 (at ∙ e) in (c.0, subst (λ n. k ≤ n) count c.1)),
      (λ c. sym at ∙ (clocks k).1 (c.0, subst (λ n. k ≤ n) (sym count) c.1)),
    )

-- the dot after the last one was not seen
pub not_fresh : (own : ℕ) (s : Dots) → HasClocks own s → set.contains s (dot own (count_of own s + 1)) ≡ false
not_fresh own s clocks = false_from_ne_true _ (λ e. let c = (clocks (count_of own s + 1)).0 e in omega arith)

and_or : (a b t : Bool) → (a ≡ true → t ≡ true) → ((a || b) && t) ≡ (a || (b && t))
and_or true b t h = h refl
and_or false b t h = refl

pub own_insert : (own k : ℕ) (s : Dots) →
    of_names (λ n. n == own) (set.insert s (dot own k)) ≡ set.insert (of_names (λ n. n == own) s) (dot own k)
own_insert own k s = same_dots _ _ (λ q.
    contains-retain (set.insert s (dot own k)) (λ d. d.name == own) q
    ∙ ap (λ b. b && (q.name == own)) (contains-insert s (dot own k) q)
    ∙ and_or (is_dot q (dot own k)) (set.contains s q) (q.name == own)
    (λ e. eq-eqb q.name own (ap (λ (d : Dot). d.name) (is_dot-true q (dot own k) e)))
    ∙ ap (λ b. is_dot q (dot own k) || b) (sym (contains-retain s (λ d. d.name == own) q))
    ∙ sym (contains-insert (of_names (λ n. n == own) s) (dot own k) q))

pub count_more : (own : ℕ) (s : Dots) → HasClocks own s → count_of own (set.insert s (dot own (count_of own s + 1))) ≡ count_of own s + 1
count_more own s clocks =
    let f = dot own (count_of own s + 1) in
    let new : set.contains (of_names (λ n. n == own) s) f ≡ false = contains-retain s (λ d. d.name == own) f
    ∙ ap (λ b. b && (own == own)) (not_fresh own s clocks) in
    ap set.len (own_insert own (count_of own s + 1) s) ∙ set.len-insert dot_total (of_names (λ n. n == own) s) f
    ∙ ap (λ b. cond b (count_of own s) (count_of own s + 1)) new

-- with the dot after the last one they count up from 1 again
pub clocks_more : (own : ℕ) (s : Dots) → HasClocks own s → HasClocks own (set.insert s (dot own (count_of own s + 1)))
clocks_more own s clocks k =
    ((λ e. there (inserted_cases s (dot own (count_of own s + 1)) (dot own k) e)), (λ h. here h (cases_eq k (count_of own s + 1))))
  where
    there : (dot own k ≡ dot own (count_of own s + 1)) ⊎ (set.contains s (dot own k) ≡ true) →
        (0 < k) × (k ≤ count_of own (set.insert s (dot own (count_of own s + 1))))
    there (inl e) =
        let at : k ≡ count_of own s + 1 = ap (λ (d : Dot). d.clock) e in let more = count_more own s clocks in (omega arith, omega arith)
    there (inr h) = let old = (clocks k).0 h in let more = count_more own s clocks in (old.0, omega arith)

    here : (0 < k) × (k ≤ count_of own (set.insert s (dot own (count_of own s + 1)))) →
        (k ≡ count_of own s + 1) ⊎ (k ≢ count_of own s + 1) → set.contains (set.insert s (dot own (count_of own s + 1))) (dot own k) ≡ true
    here h (inl e) =
        subst (λ j. set.contains (set.insert s (dot own (count_of own s + 1))) (dot own j) ≡ true) (sym e)
        (contains_inserted s (dot own (count_of own s + 1)))
    here h (inr d) = let more = count_more own s clocks in contains_insert_more s _ (dot own k) ((clocks k).1 (h.0, omega arith))
