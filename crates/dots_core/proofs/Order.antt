-- The order of dots is total, and dots that tie are one.
use Rattle.std.proofs.Common.{◌≡◌, ◌≢◌, ◌⊎◌, inl, inr, ℕ, Bool, true, false, T, Ordering, Less, Equal, Greater, refl, sym, ap, ◌∙◌, true≢false}
use Rattle.std.proofs.lemmas.Bool.{false_from_ne_true}
use Rattle.std.proofs.lemmas.Cmp.{on_total, then_total}
use Rattle.std.proofs.lemmas.Map.Lookups.{exact_pairs, exact_unsigned}
use Rattle.std.specs.Cmp.{IsTotalOrder, nat_cmp_total, tied_itself, Equal-is}
use Rattle.std.specs.Ordering.{nat_cmp, eq_by_cmp, is_eq, is_lt, ordering_reverse}
use Rattle.std.specs.FinMap as fin
use Rattle.dots_core.specs.declared.dot.Dot.{Dot}
use Rattle.dots_core.specs.Dots.{dot, dot_cmp}

pub dot_total : IsTotalOrder dot_cmp
dot_total = then_total (on_total (λ (d : Dot). d.name) nat_cmp_total) (on_total (λ (d : Dot). d.clock) nat_cmp_total)

pub dot_exact : fin.IsAntisymmetric dot_cmp
dot_exact a b h =
    ap (λ (p : ℕ × ℕ). dot p.0 p.1) (exact_pairs nat_cmp nat_cmp exact_unsigned exact_unsigned (a.name, a.clock) (b.name, b.clock) h)

-- what a test says of a dot, it says of those that tie with it
pub same_of_tied : (test : Dot → Bool) (a b : Dot) → dot_cmp a b ≡ Equal → test b ≡ test a
same_of_tied test a b h = ap test (sym (dot_exact a b h))

-- whether two dots are one
abbrev pub is_dot : Dot → Dot → Bool
is_dot a b = eq_by_cmp dot_cmp a b

pub is_dot-true : (a b : Dot) → is_dot a b ≡ true → a ≡ b
is_dot-true a b h = dot_exact a b ((Equal-is (dot_cmp a b)).0 h)

pub is_dot_same : (a : Dot) → is_dot a a ≡ true
is_dot_same a = ap is_eq (tied_itself dot_total a)

pub is_dot_other : (a b : Dot) → a ≢ b → is_dot a b ≡ false
is_dot_other a b h = false_from_ne_true (is_dot a b) (λ e. h (is_dot-true a b e))

pub less : (o : Ordering) → T (is_lt o) → o ≡ Less
less Less h = refl
less Equal h = absurd h
less Greater h = absurd h

-- a dot below another is not it, and not above it
pub is_dot_below : (a b : Dot) → T (is_lt (dot_cmp a b)) → is_dot a b ≡ false
is_dot_below a b h = ap is_eq (less (dot_cmp a b) h)

pub is_dot_above : (a b : Dot) → T (is_lt (dot_cmp a b)) → is_dot b a ≡ false
is_dot_above a b h = ap is_eq (dot_total.antisymm b a ∙ ap ordering_reverse (less (dot_cmp a b) h))

pub dot_cases : (a b : Dot) → (a ≡ b) ⊎ (a ≢ b)
dot_cases a b = go (is_dot a b) refl
  where
    go : (t : Bool) → is_dot a b ≡ t → (a ≡ b) ⊎ (a ≢ b)
    go true h = inl (is_dot-true a b h)
    go false h = inr (λ e. true≢false (sym (is_dot_same b) ∙ ap (λ x. is_dot x b) (sym e) ∙ h))
