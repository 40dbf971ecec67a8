-- Numbers that are written by digits alone.
use Rattle.std.proofs.Common.{◌≡◌, ◌≢◌, ℕ, ◌^◌, ◌<◌, List, true, false, length, drop, Option, Some, None, IfSome, sym, ap, ap₂, ◌∙◌}
use Rattle.std.specs.Prelude.{◌&&◌, if◌then◌else◌, not, slice_index, SomeIff}
use Rattle.std.proofs.lemmas.Bool.{eq-eqb, lt-ltb, ne_eqb}
use Rattle.fast_float.specs.Text.{IsInteger, Parts, digits_of, minus, scan}
use Rattle.serde_json.specs.Data.{unsigned}
use Rattle.serde_json.specs.Read.{float_of, is_integer, number_from, number_of}

integer : (p : Parts) → IsInteger p → is_integer p ≡ true
integer p is = ap₂ (λ a b. a && b) (ap₂ (λ a b. a && not b) (lt-ltb 0 (length p.whole) is.0) is.1) (eq-eqb (length p.exponent) 0 is.2)

unsigned_from : (p : Parts) → IsInteger p → digits_of p < 2 ^ 64 → number_from false p ≡ Some (unsigned (digits_of p))
unsigned_from p is fits =
    ap (λ b. if b then Some (unsigned (digits_of p)) else float_of false p) (ap₂ (λ a b. a && b) (integer p is) (lt-ltb (digits_of p) (2 ^ 64) fits))

-- a text that begins with no minus is a number without a sign
no_sign : (s : List ℕ) → slice_index s 0 ≢ minus → number_of s ≡ number_from false (scan s)
unfolding number_of
no_sign s other = ap (λ b. if b then number_from true (scan (drop 1 s)) else number_from false (scan s)) (ne_eqb (slice_index s 0) minus other)

-- what stands in front of a text that begins with no minus is the text's number, where it is whole and has 64 bits
pub whole_read : (s : List ℕ) (p : Parts) (r : Option ℕ) → slice_index s 0 ≢ minus → p ≡ scan s →
    SomeIff r (IsInteger p × (digits_of p < 2 ^ 64)) (digits_of p) → IfSome r (λ whole. number_of s ≡ Some (unsigned whole))
whole_read s p None other is h = tt
whole_read s p (Some whole) other is h =
    no_sign s other ∙ ap (number_from false) (sym is) ∙ unsigned_from p h.0.0 h.0.1 ∙ ap (λ n. Some (unsigned n)) (sym h.1)
