-- Steps of a journal, held against those of another.
use Rattle.std.proofs.Common.{◌≡◌, ◌≢◌, ◌⊎◌, inl, inr, Bool, subst, subst₂, ℕ, ◌+◌, ◌<◌, ◌≤◌, true, false, List, length, slice_get, Some, None, refl, sym, ◌∙◌, arith}
use Rattle.std.specs.Bool.{IsTrue}
use Rattle.std.proofs.lemmas.Bool.{cases_eq, false≢true}
use Rattle.std.proofs.lemmas.Option.{slice_get_within}
use Rattle.journal_core.specs.Journals.{Kept}
use Rattle.bench_core.specs.declared.movable.Movable.{Movable}
use Rattle.bench_core.specs.Movables.{AreStepsOf, IsSameAt}

module _ (ks js : List Kept) where
  -- a place of which there is no step
  pub second_gone : (place second : ℕ) → slice_get js second ≡ None →
      (IsTrue false → IsSameAt ks place js second) × (IsSameAt ks place js second → IsTrue false)
  second_gone place second none = (λ h. absurd (false≢true h), λ s. let at = s.second_at in absurd (cc (at, none)))

  -- more steps, or fewer
  pub other_count : (ms : List Movable) (count : ℕ) → (length ms ≡ count → ⊥) → count ≡ length js →
      (IsTrue false → AreStepsOf ks ms js) × (AreStepsOf ks ms js → IsTrue false)
  other_count ms count other is = (λ h. absurd (false≢true h), λ s. absurd (other (s.count ∙ sym is)))

  -- the same at each place
  pub all_same : (ms : List Movable) (count end : ℕ) → length ms ≡ count → count ≡ length js → length ms ≤ end →
      ((i : ℕ) (m : Movable) → i < end → slice_get ms i ≡ Some m → IsSameAt ks m.place js i) →
      (IsTrue true → AreStepsOf ks ms js) × (AreStepsOf ks ms js → IsTrue true)
  all_same ms count end same is all below = (
    λ _. record { count = same ∙ is; each = λ i m at. let low = slice_get_within ms i m at in below i m (omega arith) at },
    λ _. refl,
  )

  -- a place at which they differ
  pub not_same : (ms : List Movable) (i : ℕ) (x : Movable) (same : Bool) → slice_get ms i ≡ Some x → same ≡ false →
      (IsTrue same → IsSameAt ks x.place js i) × (IsSameAt ks x.place js i → IsTrue same) →
      (IsTrue false → AreStepsOf ks ms js) × (AreStepsOf ks ms js → IsTrue false)
  not_same ms i x same at differs decides =
      (λ h. absurd (false≢true h), λ s. absurd (false≢true (sym differs ∙ decides.1 (s.each i x at))))

  -- one more place at which they are the same
  pub one_more : (ms : List Movable) (n : ℕ) (x : Movable) (same : Bool) → slice_get ms n ≡ Some x → same ≡ true →
      (IsTrue same → IsSameAt ks x.place js n) × (IsSameAt ks x.place js n → IsTrue same) →
      ((i : ℕ) (m : Movable) → i < n → slice_get ms i ≡ Some m → IsSameAt ks m.place js i) →
      (i : ℕ) (m : Movable) → i < n + 1 → slice_get ms i ≡ Some m → IsSameAt ks m.place js i
  one_more ms n x same at alike decides below i m low is = go (cases_eq i n)
    where
      go : (i ≡ n) ⊎ (i ≢ n) → IsSameAt ks m.place js i
      go (inl e) =
          let there : slice_get ms n ≡ Some m = subst (λ k. slice_get ms k ≡ Some m) e is in
          let x_is : x ≡ m = cc (at, there) in
          subst₂ (λ (y : Movable) k. IsSameAt ks y.place js k) x_is (sym e) (decides.0 alike)
      go (inr other) = below i m (omega arith) is
