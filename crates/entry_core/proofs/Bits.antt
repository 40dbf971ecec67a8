-- Tests of bits.
use Rattle.std.proofs.Common.{◌≡◌, ◌==◌, ◌&&◌, ℕ, zero, suc, ◌-◌, ◌<◌, not, min, refl, arith}

pub not_one : (b : ℕ) → b < 2 → (1 - b == 1) ≡ not (b == 1)
not_one zero small = refl
not_one (suc zero) small = refl
not_one (suc (suc b)) small = absurd (omega (arith, small))

pub both_one : (a b : ℕ) → a < 2 → b < 2 → (min a b == 1) ≡ ((a == 1) && (b == 1))
both_one zero zero s t = refl
both_one zero (suc zero) s t = refl
both_one (suc zero) zero s t = refl
both_one (suc zero) (suc zero) s t = refl
both_one (suc (suc a)) b s t = absurd (omega (arith, s))
both_one zero (suc (suc b)) s t = absurd (omega (arith, t))
both_one (suc zero) (suc (suc b)) s t = absurd (omega (arith, t))
