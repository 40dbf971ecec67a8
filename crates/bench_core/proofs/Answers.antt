-- Steps that may fail, one after another.
use Rattle.std.proofs.Common.{◌≡◌, Result, Ok, Err, refl}
use Rattle.payload_core.specs.Results.{◌>>=◌}

module _ {A B E : Type 0} where
  pub bind_ok : (r : Result A E) (f : A → Result B E) (y : B) → (r >>= f) ≡ Ok y → (x : A) × (r ≡ Ok x) × (f x ≡ Ok y)
  bind_ok (Ok x) f y e = (x, refl, e)
  bind_ok (Err d) f y e = cc

  pub bind_at_ok : (r : Result A E) (f : A → Result B E) (x : A) → r ≡ Ok x → (r >>= f) ≡ f x
  bind_at_ok r f x e = rw e refl

  pub bind_at_err : (r : Result A E) (f : A → Result B E) (d : E) → r ≡ Err d → (r >>= f) ≡ Err d
  bind_at_err r f d e = rw e refl
