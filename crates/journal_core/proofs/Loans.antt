-- A lent inverse, put back or taken out.
use Rattle.std.proofs.Common.{◌≡◌, ℕ, ◌==◌, Bool, true, false, if◌then◌else◌, List, [], ◌∷◌, Some, None, refl, sym, ap}
use Rattle.node_core.specs.Inverses.{Inverse}
use Rattle.journal_core.specs.Holdings.{Held, IsLent, find_held, inverse_of, with_inverse, without_held}

-- an inverse that was lent and is put back
pub lent_back : (hs : List Held) (n : ℕ) (i : Inverse) → inverse_of (find_held hs n) ≡ Some i →
    with_inverse (with_inverse hs n None) n (Some i) ≡ hs
lent_back [] n i is = absurd (cc)
lent_back (x ∷ hs) n i is = go (x.kept.number == n) refl is (lent_back hs n i)
  where
    go : (b : Bool) → (x.kept.number == n) ≡ b → inverse_of (if b then Some x else find_held hs n) ≡ Some i →
        (inverse_of (find_held hs n) ≡ Some i → with_inverse (with_inverse hs n None) n (Some i) ≡ hs) →
        with_inverse (if b then record { kept = x.kept; inverse = None } ∷ hs else x ∷ with_inverse hs n None) n (Some i) ≡ x ∷ hs
    go true at is more = rw at (ap (λ o. record { kept = x.kept; inverse = o } ∷ hs) (sym is))
    go false at is more = rw at (ap (λ (l : List Held). x ∷ l) (more is))

-- and one that is lent, and then taken out with its step
pub lent_out : (hs : List Held) (n : ℕ) → without_held (with_inverse hs n None) n ≡ without_held hs n
lent_out [] n = refl
lent_out (x ∷ hs) n = go (x.kept.number == n) refl (lent_out hs n)
  where
    go : (b : Bool) → (x.kept.number == n) ≡ b → without_held (with_inverse hs n None) n ≡ without_held hs n →
        without_held (if b then record { kept = x.kept; inverse = None } ∷ hs else x ∷ with_inverse hs n None) n ≡
        (if b then hs else x ∷ without_held hs n)
    go true at more = rw at refl
    go false at more = rw at (ap (λ (l : List Held). x ∷ l) more)

-- what was held beside a step, and then lent
pub is_lent : (hs : List Held) (n : ℕ) (i : Inverse) → inverse_of (find_held hs n) ≡ Some i → IsLent (with_inverse hs n None) n
is_lent [] n i is = absurd (cc)
is_lent (x ∷ hs) n i is = go (x.kept.number == n) refl is (is_lent hs n i)
  where
    go : (b : Bool) → (x.kept.number == n) ≡ b → inverse_of (if b then Some x else find_held hs n) ≡ Some i →
        (inverse_of (find_held hs n) ≡ Some i → IsLent (with_inverse hs n None) n) →
        IsLent (if b then record { kept = x.kept; inverse = None } ∷ hs else x ∷ with_inverse hs n None) n
    go true at is more = (x.kept, rw at refl)
    go false at is more = let m = more is in (m.0, rw at m.1)
