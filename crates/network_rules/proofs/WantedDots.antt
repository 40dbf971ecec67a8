-- Dots that are asked for stand in the list of them.
use Rattle.std.proofs.Common.{◌≡◌, ℕ, zero, suc, ◌==◌, ◌<◌, length, arith, ◌||◌, Bool, true, false, List, [], ◌∷◌, slice_get, Some, refl, sym, ap, true≢false}
use Rattle.std.proofs.lemmas.Bool.{eqb-true}
use Rattle.std.specs.List.{list_any}
use Rattle.dots_core.specs.declared.dot.Dot.{Dot}
use Rattle.network_rules.specs.Tables.{is_wanted, same_dot}
use Rattle.network_rules.proofs.Tests.{both_true}

same_dot_is : (d e : Dot) → same_dot d e ≡ true → d ≡ e
same_dot_is d e h =
    let both = both_true (d.name == e.name) (d.clock == e.clock) h in
    let one = eqb-true d.name e.name both.0 in
    let two = eqb-true d.clock e.clock both.1 in
    λ i. record { name = one i; clock = two i }

-- at which place it stands
pub wanted_at : (dots : List Dot) (d : Dot) → is_wanted dots d ≡ true → (i : ℕ) × (slice_get dots i ≡ Some d)
wanted_at [] d h = absurd (true≢false (sym h))
wanted_at (e ∷ dots) d h = go (same_dot e d) refl h (λ h. wanted_at dots d h)
  where
    go : (b : Bool) → same_dot e d ≡ b → (b || list_any (λ e. same_dot e d) dots) ≡ true → (is_wanted dots d ≡ true → (i : ℕ) × (slice_get dots i ≡ Some d)) → (i : ℕ) × (slice_get (e ∷ dots) i ≡ Some d)
    go true is h rest = (0, ap Some (same_dot_is e d is))
    go false is h rest = (suc (rest h).0, (rest h).1)

pub get_low : {X : Type 0} (xs : List X) (i : ℕ) (x : X) → slice_get xs i ≡ Some x → i < length xs
get_low [] i x h = absurd (cc)
get_low (y ∷ xs) zero x h = omega arith
get_low (y ∷ xs) (suc i) x h = let lt = get_low xs i x h in omega (arith, lt)
