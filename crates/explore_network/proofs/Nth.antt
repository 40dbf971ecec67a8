-- The steps of a list that pass a test, one by one.
use Rattle.std.proofs.Common.{◌≡◌, ℕ, zero, suc, ◌<◌, Bool, true, false, cond, List, [], ◌∷◌, ◌++◌, filter, length, take, slice_get, Some, refl, ap, ◌∙◌, arith}
use Rattle.journal_core.specs.Journals.{Kept}

-- where a step stands that passes, behind so many others that do
pub record Nth (f : Kept → Bool) (j : List Kept) (c : ℕ) : Type 0 where
  pub place : ℕ
  pub step : Kept
  pub at : slice_get j place ≡ Some step
  pub is : f step ≡ true
  pub before : length (filter f (take place j)) ≡ c

pub nth : (f : Kept → Bool) (j : List Kept) (c : ℕ) → c < length (filter f j) → Nth f j c
nth f [] c lt = absurd (omega (arith, lt))
nth f (k ∷ ks) c lt = go (f k) refl c lt (λ c lt. nth f ks c lt)
  where
    skip : (b : Bool) (place : ℕ) → f k ≡ b → length (filter f (take (suc place) (k ∷ ks))) ≡ length (cond b (k ∷ filter f (take place ks)) (filter f (take place ks)))
    skip b place is = ap (λ b. length (cond b (k ∷ filter f (take place ks)) (filter f (take place ks)))) is

    go : (b : Bool) → f k ≡ b → (c : ℕ) → c < length (cond b (k ∷ filter f ks) (filter f ks)) → ((c : ℕ) → c < length (filter f ks) → Nth f ks c) → Nth f (k ∷ ks) c
    go true is zero lt rest = record { place = 0; step = k; at = refl; is = is; before = refl }
    go true is (suc c) lt rest =
        let n = rest c (omega (arith, lt)) in
        record { place = suc n.place; step = n.step; at = n.at; is = n.is; before = skip true n.place is ∙ ap suc n.before }
    go false is c lt rest =
        let n = rest c lt in
        record { place = suc n.place; step = n.step; at = n.at; is = n.is; before = skip false n.place is ∙ n.before }

-- those before it, and those behind it
pub parted : (f : Kept → Bool) (j : List Kept) (p : ℕ) (k : Kept) → slice_get j p ≡ Some k → f k ≡ true → (ys : List Kept) × (filter f j ≡ filter f (take p j) ++ k ∷ ys)
parted f [] p k at is = absurd (cc)
parted f (x ∷ xs) zero k at is =
    let same : x ≡ k = cc in (filter f xs, ap (λ b. cond b (x ∷ filter f xs) (filter f xs)) (ap f same ∙ is) ∙ ap (λ (y : Kept). y ∷ filter f xs) same)
parted f (x ∷ xs) (suc p) k at is = go (f x) (parted f xs p k at is)
  where
    go : (b : Bool) → (ys : List Kept) × (filter f xs ≡ filter f (take p xs) ++ k ∷ ys) →
        (ys : List Kept) × (cond b (x ∷ filter f xs) (filter f xs) ≡ cond b (x ∷ filter f (take p xs)) (filter f (take p xs)) ++ k ∷ ys)
    go true (ys, h) = (ys, ap (λ (l : List Kept). x ∷ l) h)
    go false (ys, h) = (ys, h)

-- of two partings of a list, after as many
pub record SameParts (xs us ys vs : List Kept) : Type 0 where
  pub first : xs ≡ us
  pub rest : ys ≡ vs

pub same_parts : (xs us ys vs : List Kept) → xs ++ ys ≡ us ++ vs → length xs ≡ length us → SameParts xs us ys vs
same_parts [] [] ys vs h long = record { first = refl; rest = h }
same_parts [] (u ∷ us) ys vs h long = absurd (omega (arith, long))
same_parts (x ∷ xs) [] ys vs h long = absurd (omega (arith, long))
same_parts (x ∷ xs) (u ∷ us) ys vs h long =
    let head : x ≡ u = cc in
    let tail : xs ++ ys ≡ us ++ vs = cc in
    let s = same_parts xs us ys vs tail (omega (arith, long)) in
    record { first = (λ i. head i ∷ s.first i); rest = s.rest }
