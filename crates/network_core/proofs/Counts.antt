-- How many steps, and how many deliveries, of a list pass a test.
use Rattle.std.proofs.Common.{◌≡◌, ℕ, ◌+◌, Bool, true, false, cond, List, [], ◌∷◌, ◌++◌, filter, length, length-append, arith, refl, ap, ◌∙◌, sym}
use Rattle.std.proofs.lemmas.List.Elements.{filter-append}
use Rattle.node_core.specs.Operations.{Operation}
use Rattle.journal_core.specs.Journals.{Kept}
use Rattle.network_core.specs.NetworkRuns.{deliveries, how_many, is_delivery}

module _ (p : ℕ → Operation → Bool) where
  abbrev passes : Kept → Bool
  passes k = p k.node k.step

  pub count_append : (xs ys : List Kept) → how_many p (xs ++ ys) ≡ how_many p xs + how_many p ys
  count_append xs ys = ap length (filter-append passes xs ys) ∙ length-append (filter passes xs) (filter passes ys)

  pub delivered_append : (xs ys : List Kept) → how_many p (deliveries (xs ++ ys)) ≡ how_many p (deliveries xs) + how_many p (deliveries ys)
  delivered_append xs ys = ap (how_many p) (filter-append (λ k. is_delivery k.step) xs ys) ∙ count_append (deliveries xs) (deliveries ys)

  -- a list without a delivery that passes has none at its beginning
  pub first_fails : (x : Kept) (xs : List Kept) → is_delivery x.step ≡ true → how_many p (deliveries (x ∷ xs)) ≡ 0 → passes x ≡ false
  first_fails x xs is none = go (passes x) (ap (λ b. how_many p (cond b (x ∷ deliveries xs) (deliveries xs))) (sym is) ∙ none)
    where
      go : (b : Bool) → length (cond b (x ∷ filter passes (deliveries xs)) (filter passes (deliveries xs))) ≡ 0 → b ≡ false
      go true h = absurd (omega (arith, h))
      go false h = refl

  pub rest_fails : (x : Kept) (xs : List Kept) → how_many p (deliveries (x ∷ xs)) ≡ 0 → how_many p (deliveries xs) ≡ 0
  rest_fails x xs none = go (is_delivery x.step) none
    where
      pick : (b : Bool) → length (cond b (x ∷ filter passes (deliveries xs)) (filter passes (deliveries xs))) ≡ 0 → how_many p (deliveries xs) ≡ 0
      pick true h = absurd (omega (arith, h))
      pick false h = h

      go : (b : Bool) → how_many p (cond b (x ∷ deliveries xs) (deliveries xs)) ≡ 0 → how_many p (deliveries xs) ≡ 0
      go true h = pick (passes x) h
      go false h = h

  -- no step passes
  pub none_pass : (xs : List Kept) → ((x : Kept) → passes x ≡ false) → how_many p xs ≡ 0
  none_pass [] all = refl
  none_pass (x ∷ xs) all = ap (λ b. length (cond b (x ∷ filter passes xs) (filter passes xs))) (all x) ∙ none_pass xs all
