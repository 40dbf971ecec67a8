-- Sets of names with one more.
use Rattle.std.proofs.Common.{◌≡◌, ◌⊎◌, inl, inr, ◌==◌, ◌&&◌, ◌||◌, ◌<◌, ◌≤◌, ◌+◌, zero, suc, arith, ℕ, Bool, true, false, cond, refl, ap, ◌∙◌, below_more}
use Rattle.std.proofs.lemmas.Bool.{cases_lt, eq-eqb}
use Rattle.network_rules.specs.NameSets.{names_below}
use Rattle.std.proofs.lemmas.Cmp.{nat_cmp_total}
use Rattle.std.specs.Cmp.{unsigned_tied}
use Rattle.std.specs.FinSet as set
use Rattle.dots_core.specs.Names.{Names}

-- it has what it had
pub has_more : (names : Names) (n q : ℕ) → set.contains names q ≡ true → set.contains (set.insert names n) q ≡ true
has_more names n q had = set.contains-insert nat_cmp_total names n q ∙ ap (λ b. b || set.contains names q) (unsigned_tied q n) ∙ go (q == n) (set.contains names q) had
  where
    go : (a b : Bool) → b ≡ true → (a || b) ≡ true
    go true b h = refl
    go false b h = h

-- and the new one
pub has_itself : (names : Names) (n : ℕ) → set.contains (set.insert names n) n ≡ true
has_itself names n = set.contains-insert nat_cmp_total names n n ∙ ap (λ b. b || set.contains names n) (unsigned_tied n n ∙ eq-eqb n n refl)

abbrev pub Has : Names → Names → Names → ℕ → Type 0
Has one other names n = set.contains one n ≡ true → set.contains other n ≡ true → set.contains names n ≡ true

-- what both have so far
pub common_more : (one other names new : Names) (name : ℕ) → ((n : ℕ) → n < name → Has one other names n) →
    new ≡ cond (set.contains one name && set.contains other name) (set.insert names name) names → (n : ℕ) → n < name + 1 → Has one other new n
common_more one other names new name so_far is = below_more (Has one other new) name (λ n lt a b. ap (λ s. set.contains s n) is ∙ stays (set.contains one name && set.contains other name) n (so_far n lt a b))
    (λ a b. ap (λ s. set.contains s name) is ∙ ap (λ c. set.contains (cond c (set.insert names name) names) name) (both a b) ∙ has_itself names name)
  where
    stays : (c : Bool) (n : ℕ) → set.contains names n ≡ true → set.contains (cond c (set.insert names name) names) n ≡ true
    stays true n h = has_more names name n h
    stays false n h = h

    both : set.contains one name ≡ true → set.contains other name ≡ true → (set.contains one name && set.contains other name) ≡ true
    both a b = ap (λ c. c && set.contains other name) a ∙ b

-- the first names have each of them
pub below_has : (m n : ℕ) → n < m → set.contains (names_below m) n ≡ true
unfolding names_below
below_has zero n lt = absurd (omega (arith, lt))
below_has (suc m) n lt = go (cases_lt n m) (λ lt. below_has m n lt)
  where
    go : (n < m) ⊎ (m ≤ n) → (n < m → set.contains (names_below m) n ≡ true) → set.contains (set.insert (names_below m) m) n ≡ true
    go (inl lt) rest = has_more (names_below m) m n (rest lt)
    go (inr le) rest = let same : n ≡ m = omega (arith, le, lt) in ap (set.contains (set.insert (names_below m) m)) same ∙ has_itself (names_below m) m
