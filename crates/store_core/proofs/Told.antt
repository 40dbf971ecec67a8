-- What a test of each part tells of a whole.
use Rattle.std.proofs.Common.{◌≡◌, ◌∙◌, ℕ, not, Bool, true, false, Result, Ok}
use Rattle.std.proofs.Common.{List, [], ◌∷◌, length, refl, sym, ap, subst, arith, true≢false}
use Rattle.std.specs.Prelude.{IsTrue, OnOk, ◌↔◌}
use Rattle.store_core.specs.Stores.{Store}

pub store_is : (s t : Store) → s.seen ≡ t.seen → s.entries ≡ t.entries → s ≡ t
store_is s t seen entries = λ i. record { seen = seen i; entries = entries i }

-- what a call ensures where it gives this
pub ok_of : {X E P : Type 0} (r : Result X E) (x : X) → r ≡ Ok x → OnOk r P → P
ok_of {P = P} r x is ensured = subst (λ s. OnOk s P) is ensured

-- nothing is left
pub none_left : {X Y : Type 0} (f : List X → Y) (xs : List X) (n : ℕ) → n ≡ 0 → n ≡ length xs → f xs ≡ f []
none_left f [] n none long = refl
none_left f (x ∷ xs) n none long = absurd (omega (arith, none, long))

-- two stores of the same dots are the same where their entries are
module _ (r : Bool) (one second s t : Store) (one_is : one ≡ s) (second_is : second ≡ t) where
  pub stores_same : one.seen ≡ second.seen → IsTrue r ↔ (one.entries ≡ second.entries) → IsTrue r ↔ (s ≡ t)
  stores_same seen entries = (
    λ yes. sym one_is ∙ (λ i. record { seen = seen i; entries = entries.0 yes i }) ∙ second_is,
    λ same. entries.1 (ap (λ (x : Store). x.entries) (one_is ∙ same ∙ sym second_is)),
  )

  -- and of other dots they differ
  pub stores_differ : IsTrue r ↔ (one.seen ≡ second.seen) → r ≡ false → IsTrue r ↔ (s ≡ t)
  stores_differ seen none = (
    λ yes. absurd (true≢false (sym yes ∙ none)),
    λ same. seen.1 (ap (λ (x : Store). x.seen) (one_is ∙ same ∙ sym second_is)),
  )

-- one thing holds, and a test tells whether another doesn't
pub and_not : {N H : Type 0} (r : Bool) → N → IsTrue r ↔ H → IsTrue (not r) ↔ (N × (H → ⊥))
and_not true here there = (λ yes. absurd (true≢false (sym yes)), λ both. absurd (both.1 (there.0 refl)))
and_not false here there = (λ yes. (here, λ h. true≢false (sym (there.1 h))), λ both. refl)
