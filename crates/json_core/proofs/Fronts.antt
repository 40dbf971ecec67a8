-- What stands in a text as JSON writes it.
use Rattle.std.proofs.Common.{◌≡◌, ◌≢◌, ℕ, suc, ◌+◌, ◌^◌, ◌<◌, ◌≤◌, List, [], ◌∷◌, ◌++◌, Bool, true, false, ◌&&◌, ◌==◌, not, nat_le, length, get_or, take, Option, Some, None, Result, Ok, Err, decimal, refl, sym, subst, ap, ap₂, ◌∙◌, arith, append_assoc, inl, inr, ◌⊎◌, ◌/◌, ◌%◌, nat_lt, cond, length-append}
use Rattle.std.proofs.lemmas.Bool.{and_parts, leb-true, le-ltb, ne_eqb}
use Rattle.std.proofs.lemmas.Fmt.{decimal-digits_value}
use Rattle.std.proofs.lemmas.Str.Parse.{numerals_by_value, tells_digits, parse_plain}
use Rattle.std.specs.Prelude.{IfSome, MatchOption}
use Rattle.std.specs.Char.{digit_char}
use Rattle.std.specs.List.{list_all, position_or_len}
use Rattle.std.specs.Prelude.{position}
use Rattle.std.specs.Result.{result_ok}
use Rattle.std.specs.Str.Pattern.{FindsTextPrefix, StripsPrefix}
use Rattle.std.specs.Str.Parse.{AllDigits, ParsesUnsigned}
use Rattle.json.specs.Print.{escape, escape_byte, escape_letter, quoted}
use Rattle.json_core.specs.Compact.{IsRun, is_plain}

-- digits that are parsed as a whole number are what that number is written as, if no sign stands first and no zero before others
module _ {E : Type 0} (digits : List ℕ) (n : ℕ) (some : 0 < length digits) (plus : get_or digits 0 0 ≢ 43)
    (zero : get_or digits 0 0 ≡ 48 → length digits ≡ 1) where
  pub whole_written : (r : Result ℕ E) → ParsesUnsigned 64 10 digits r → result_ok r ≡ Some n → (digits ≡ decimal n) × (n < 2 ^ 64)
  whole_written (Err e) parses is = absurd cc
  whole_written (Ok m) parses is =
      let own = numerals_by_value (AllDigits 10) tells_digits in
      let read = parse_plain own {E = E} 64 digits (Ok m) parses plus in
      let same : n ≡ m = cc in
      (sym (ap decimal (same ∙ read.1) ∙ decimal-digits_value own digits read.0.0 some zero read.0.2), subst (λ k. k < 2 ^ 64) (sym (same ∙ read.1)) read.0.2)

-- a first digit that is no zero, or stands alone
pub one_zero : (digits : List ℕ) {first : ℕ} → 0 < length digits → get_or digits 0 0 ≡ first → ((first ≡ 48) × (length digits ≤ 1)) ⊎ (first ≡ 48 → ⊥) →
    get_or digits 0 0 ≡ 48 → length digits ≡ 1
one_zero digits some is (inl one) zero = omega (arith, one.1, some)
one_zero digits some is (inr other) zero = absurd (other (sym is ∙ zero))

-- a string that needs no escape is written as it is
not_so : (b : Bool) → not b ≡ true → b ≡ false
not_so true is = absurd cc
not_so false is = refl

plain_byte : (byte : ℕ) → is_plain byte ≡ true → escape_byte byte ≡ byte ∷ []
unfolding escape_byte
plain_byte byte plain =
    let rest = and_parts (nat_le 32 byte && not (byte == 34)) (not (byte == 92)) plain in
    let first = and_parts (nat_le 32 byte) (not (byte == 34)) rest.0 in
    let low : 32 ≤ byte = leb-true 32 byte first.0 in
    let not_letter : (k : ℕ) → k < 32 → (byte == k) ≡ false = λ k lt. ne_eqb byte k (λ same. omega (arith, lt, low, same)) in
    rw (
      not_so (byte == 34) first.1,
      not_so (byte == 92) rest.1,
      not_letter 8 (omega arith),
      not_letter 9 (omega arith),
      not_letter 10 (omega arith),
      not_letter 12 (omega arith),
      not_letter 13 (omega arith),
      le-ltb byte 32 low,
    ) refl

pub plain_written : (string : List ℕ) → list_all is_plain string ≡ true → escape string ≡ string
plain_written [] plain = refl
plain_written (byte ∷ string) plain =
    let parts = and_parts (is_plain byte) (list_all is_plain string) plain in
    ap₂ (λ a b. a ++ b) (plain_byte byte parts.0) (plain_written string parts.1)

-- what stands before the first byte that isn't plain is plain
pub plain_first : (bytes : List ℕ) → list_all is_plain (take (position_or_len (λ byte. not (is_plain byte)) bytes) bytes) ≡ true
plain_first [] = refl
plain_first (byte ∷ bytes) = by (is_plain byte) (position_or_len (λ byte. not (is_plain byte)) bytes) refl (plain_first bytes)
  where
    by : (b : Bool) (n : ℕ) → is_plain byte ≡ b → list_all is_plain (take n bytes) ≡ true →
        list_all is_plain (take (cond (not (not b)) (1 + n) 0) (byte ∷ bytes)) ≡ true
    by true n is rest =
        let more : suc n ≡ 1 + n = omega arith in
        subst (λ k. list_all is_plain (take k (byte ∷ bytes)) ≡ true) more (ap₂ (λ a b. a && b) is rest)
    by false n is rest = refl

pub plain_before : (bytes : List ℕ) (n : ℕ) → position (λ byte. not (is_plain byte)) bytes ≡ Some n → list_all is_plain (take n bytes) ≡ true
plain_before bytes n is = by (nat_lt (position_or_len (λ byte. not (is_plain byte)) bytes) (length bytes)) is
  where
    by : (b : Bool) → cond b (Some (position_or_len (λ byte. not (is_plain byte)) bytes)) None ≡ Some n → list_all is_plain (take n bytes) ≡ true
    by true same =
        let end : position_or_len (λ byte. not (is_plain byte)) bytes ≡ n = cc in
        subst (λ k. list_all is_plain (take k bytes) ≡ true) end (plain_first bytes)
    by false same = absurd cc

pub stripped : {A : Type 0} (bytes : A → List ℕ) (front text : List ℕ) (none : Type 0) (rest : Option A) →
    MatchOption rest none (λ x. StripsPrefix (FindsTextPrefix front) text (bytes x)) → IfSome rest (λ x. text ≡ front ++ bytes x)
stripped bytes front text none None cut = tt
stripped bytes front text none (Some x) (n, is, same, len) = is.1 ∙ ap (λ l. front ++ l) (sym same)

pub string_parts : (text inside string quote rest : List ℕ) → text ≡ 34 ∷ inside → inside ≡ string ++ quote → quote ≡ 34 ∷ rest →
    list_all is_plain string ≡ true → text ≡ quoted string ++ rest
string_parts text inside string quote rest opens parts closes plain =
    opens ∙ ap (λ l. 34 ∷ l) (parts ∙ ap₂ (λ a b. a ++ b) (sym (plain_written string plain)) closes) ∙ sym (ap (λ l. 34 ∷ l) (append_assoc (escape string) (34 ∷ []) rest))

-- a run of a string

pub escaped_quote : escape (34 ∷ []) ≡ 92 ∷ 34 ∷ []
unfolding escape_byte
escaped_quote = refl

pub escaped_backslash : escape (92 ∷ []) ≡ 92 ∷ 92 ∷ []
unfolding escape_byte
escaped_backslash = refl

either : (b : Bool) (xs ys : List ℕ) → 0 < length xs → 0 < length ys → 0 < length (cond b xs ys)
either true xs ys some other = some
either false xs ys some other = other

escape_some : (byte : ℕ) → 0 < length (escape_byte byte)
unfolding escape_byte
escape_some byte =
    let hex = 92 ∷ 117 ∷ 48 ∷ 48 ∷ digit_char (byte / 16) ∷ digit_char (byte % 16) ∷ [] in
    let control = nat_lt byte 32 in
    either (nat_lt 0 (escape_letter byte)) (92 ∷ escape_letter byte ∷ []) (cond control hex (byte ∷ [])) (omega arith)
    (either control hex (byte ∷ []) (omega arith) (omega arith))

pub shorter : (text old new rest : List ℕ) → IsRun text old new rest → length rest < length text
shorter text old new rest is = go is.run is.some is.text_is
  where
    go : (run : List ℕ) → 0 < length run → text ≡ escape run ++ rest → length rest < length text
    go [] some same = absurd (omega (arith, some))
    go (byte ∷ run) some same =
        let more = escape_some byte in
        let len = ap length same ∙ length-append (escape_byte byte ++ escape run) rest in
        let first = length-append (escape_byte byte) (escape run) in
        omega (arith, more, len, first)
