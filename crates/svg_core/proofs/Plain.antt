-- Texts that stand for themselves in XML.
use Rattle.std.proofs.Common.{◌≡◌, ℕ, ◌+◌, ◌<◌, ◌^◌, ◌%◌, true, List, [], ◌∷◌, ◌++◌, refl, ap, ◌∙◌, arith, decimal}
use Rattle.std.proofs.lemmas.Bool.Decides.{nat_tests}
use Rattle.std.proofs.lemmas.Fmt.{decimal_by_steps}
use Rattle.std.proofs.lemmas.List.Concat.{flat_map-append}
use Rattle.svg_core.specs.Escapes.{escape, escaped, is_plain}

pub escaped-append : (a b : List ℕ) → escaped (a ++ b) ≡ escaped a ++ escaped b
unfolding escaped
escaped-append a b = flat_map-append escape a b

plain_one : (c : ℕ) → is_plain c ≡ true → escaped (c ∷ []) ≡ c ∷ []
unfolding escaped
plain_one c plain = rw plain refl

plain_digit : (k : ℕ) → k < 10 → is_plain (48 + k) ≡ true
plain_digit k small = grind (arith, nat_tests)

pub escaped_decimal : (n : ℕ) → n < 2 ^ 64 → escaped (decimal n) ≡ decimal n
escaped_decimal n fits =
    decimal_by_steps (λ m ds. escaped ds ≡ ds) (λ k small. plain_one (48 + k) (plain_digit k small))
    (λ m ds many before. escaped-append ds ((48 + m % 10) ∷ []) ∙ ap (λ t. t ++ escaped ((48 + m % 10) ∷ [])) before ∙ ap (λ t. ds ++ t) (plain_one (48 + m % 10) (plain_digit (m % 10) (omega arith)))) n fits
