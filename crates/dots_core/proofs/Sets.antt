-- Sets of dots, by what they answer at a dot.
use Rattle.std.proofs.Common.{◌≡◌, ◌≢◌, ◌⊎◌, inl, inr, ℕ, ◌&&◌, ◌||◌, Bool, true, false, refl, sym, ap, ◌∙◌}
use Rattle.std.proofs.Math.Bool.{and-false}
use Rattle.std.proofs.lemmas.Bool.{and_parts, or_right}
use Rattle.std.specs.FinSet as set
use Rattle.dots_core.specs.declared.dot.Dot.{Dot}
use Rattle.dots_core.specs.Dots.{Dots, of_names}
use Rattle.dots_core.proofs.Order.{dot_total, dot_exact, same_of_tied, is_dot, is_dot_same, is_dot_other, dot_cases}

pub contains-retain : (s : Dots) (p : Dot → Bool) (q : Dot) → set.contains (set.retain s p) q ≡ (set.contains s q && p q)
contains-retain s p q = set.contains-retain s p q (same_of_tied p q)

pub contains-insert : (s : Dots) (k q : Dot) → set.contains (set.insert s k) q ≡ (is_dot q k || set.contains s q)
contains-insert s k q = set.contains-insert dot_total s k q

pub contains-union : (s t : Dots) (q : Dot) → set.contains (set.union s t) q ≡ (set.contains s q || set.contains t q)
contains-union s t q = set.contains-union dot_total s t q

pub contains_inserted : (s : Dots) (k : Dot) → set.contains (set.insert s k) k ≡ true
contains_inserted s k = contains-insert s k k ∙ ap (λ b. b || set.contains s k) (is_dot_same k)

pub contains_insert_other : (s : Dots) (k q : Dot) → q ≢ k → set.contains (set.insert s k) q ≡ set.contains s q
contains_insert_other s k q h = contains-insert s k q ∙ ap (λ b. b || set.contains s q) (is_dot_other q k h)

pub contains_insert_more : (s : Dots) (k q : Dot) → set.contains s q ≡ true → set.contains (set.insert s k) q ≡ true
contains_insert_more s k q h = contains-insert s k q ∙ or_right (is_dot q k) (set.contains s q) h

pub and_alike : (b c t : Bool) → (t ≡ true → b ≡ c) → (b && t) ≡ (c && t)
and_alike b c true h = ap (λ x. x && true) (h refl)
and_alike b c false h = and-false b ∙ sym (and-false c)

-- a dot of the set after an insert is the new one or was there
pub inserted_cases : (s : Dots) (k q : Dot) → set.contains (set.insert s k) q ≡ true → (q ≡ k) ⊎ (set.contains s q ≡ true)
inserted_cases s k q h = go (dot_cases q k)
  where
    go : (q ≡ k) ⊎ (q ≢ k) → (q ≡ k) ⊎ (set.contains s q ≡ true)
    go (inl e) = inl e
    go (inr d) = inr (sym (contains_insert_other s k q d) ∙ h)

pub of_names_cases : (s : Dots) (p : ℕ → Bool) (q : Dot) → set.contains (of_names p s) q ≡ true →
    (set.contains s q ≡ true) × (p q.name ≡ true)
of_names_cases s p q h = and_parts _ _ (sym (contains-retain s (λ d. p d.name) q) ∙ h)

pub of_names_has : (s : Dots) (p : ℕ → Bool) (q : Dot) → set.contains s q ≡ true → p q.name ≡ true → set.contains (of_names p s) q ≡ true
of_names_has s p q h t = contains-retain s (λ d. p d.name) q ∙ ap (λ b. b && p q.name) h ∙ t

-- sets with the same dots are one
pub same_dots : (s t : Dots) → ((q : Dot) → set.contains s q ≡ set.contains t q) → s ≡ t
same_dots s t h = set.same_set dot_total dot_exact s t h
