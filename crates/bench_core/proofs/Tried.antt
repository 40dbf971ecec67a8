-- What a call ensures that memory may be refused to, where it is known whether it was.
use Rattle.std.proofs.Common.{◌≡◌, ℕ, ◌≤◌, true, false, Result, Ok, Err, arith}
use Rattle.std.specs.Prelude.{OnErr, OnOk, is_err}

module _ {X E : Type 0} (P : Type 0) where
  pub was_made : (r : Result X E) → is_err r ≡ false → OnOk r P → P
  was_made (Ok x) made h = h
  was_made (Err e) made h = absurd (cc)

  pub was_refused : (r : Result X E) → is_err r ≡ true → OnErr r P → P
  was_refused (Ok x) refused h = absurd (cc)
  was_refused (Err e) refused h = h

  pub is_made : (r : Result X E) (x : X) → r ≡ Ok x → OnOk r P → P
  is_made (Ok y) x is h = h
  is_made (Err e) x is h = absurd (cc)

-- a loop that came to its end
pub met : (i end : ℕ) → i ≤ end → end ≤ i → i ≡ end
met i end below above = omega arith
