-- What is left of a walk over lines, beside the receipts.
use Rattle.std.proofs.Common.{◌≡◌, ◌↔◌, ℕ, ◌+◌, ◌≤◌, nat_eq, IsTrue, List, [], ◌∷◌, length, drop, refl, arith}
use Rattle.std.proofs.lemmas.Bool.Decides.{nat_tests}
use Rattle.std.proofs.lemmas.List.{length-drop, drop_all}
use Rattle.bench_core.specs.declared.act.Act.{Act}
use Rattle.bench_core.specs.Acts.{calls_of}
use Rattle.bench_core.specs.Machine.{Event}
use Rattle.receipt_core.specs.Receipts.{Receipt}
use Rattle.receipt_core.specs.Agree.{AreReceiptsOf, lines_from}

-- the lines and the receipts that are left decide what was asked
pub record Left {X : Type 0} (W : Type 0) (after : List Event) (actor last number index told : ℕ) (lines : List (ℕ × Act X)) (receipts : List Receipt) : Type 0 where
  pub number_is : number ≡ index
  pub within : told ≤ length receipts
  pub decides : W ↔ AreReceiptsOf after last (lines_from (number + 1) actor (calls_of (drop index lines))) (drop told receipts)

nothing_told : (after : List Event) (last : ℕ) (rs : List Receipt) → AreReceiptsOf after last [] rs → length rs ≡ 0
nothing_told after last [] a = refl
nothing_told after last (r ∷ rs) a = absurd a

-- where no line is left, it is so where no receipt is
pub at_end : {X : Type 0} (W : Type 0) (after : List Event) (actor last number index told : ℕ) (lines : List (ℕ × Act X)) (receipts : List Receipt) →
    Left W after actor last number index told lines receipts → length lines ≤ index →
    (IsTrue (nat_eq told (length receipts)) → W) × (W → IsTrue (nat_eq told (length receipts)))
at_end W after actor last number index told lines receipts l end =
    let none : drop index lines ≡ [] = drop_all index lines end in
    let decides : W ↔ AreReceiptsOf after last [] (drop told receipts) = rw none at l.decides in (
      (λ t.
          let all : length receipts ≤ told = grind (arith, nat_tests, t) in
          decides.1 (rw (drop_all told receipts all) tt)),
      (λ w.
          let none_left : length (drop told receipts) ≡ 0 = nothing_told after last (drop told receipts) (decides.0 w) in
          let size = length-drop told receipts in
          let within = l.within in
          let same : told ≡ length receipts = omega arith in
          grind (arith, nat_tests)),
    )
