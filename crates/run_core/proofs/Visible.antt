-- What is printed of a step are words: names, numbers, topics, keys and metadata.
use Rattle.std.proofs.Common.{◌≡◌, ℕ, ◌+◌, ◌<◌, ◌≤◌, ◌==◌, ◌&&◌, ◌||◌, nat_lt, nat_le, Bool, true, false, not, if◌then◌else◌, List, [], ◌∷◌, ◌++◌, length}
use Rattle.std.proofs.Common.{get_or, slice_index, Ok, Err, refl, sym, ap, ◌∙◌, true≢false, arith, rules, decimal}
use Rattle.std.specs.Char.{is_ascii_digit}
use Rattle.std.specs.List.{list_all, list_any, AllByRecursion}
use Rattle.std.specs.FinSet as set
use Rattle.std.specs.Str.{bytes_eq}
use Rattle.std.specs.Str.Parse.{digits_value}
use Rattle.std.proofs.ByRecursion.{All-get_or as every_at}
use Rattle.std.proofs.lemmas.Fmt.{decimal_is_IsNumeral, length-decimal-le}
use Rattle.std.proofs.lemmas.Str.Parse.{IsNumeralModel, numerals_by_value}
use Rattle.std.proofs.lemmas.Bool.Decides.{nat_tests}
use Rattle.dots_core.specs.Names.{Names}
use Rattle.payload_core.specs.Results.{◌>>=◌}
use Rattle.payload_core.specs.Words.{is_word_byte}
use Rattle.bench_core.specs.declared.names_fault.NamesFault.TheVariants.{BadName, Twice}
use Rattle.bench_core.specs.NameText.{is_name, is_name_byte}
use Rattle.bench_core.specs.NameList.{Texts, with_names, names_of}
use Rattle.grammar_core.specs.Words.{is_visible}
use Rattle.run_core.specs.ReadSteps.{IsWord, IsNumber}
use Rattle.run_core.proofs.ReadNames.{opened}
use Rattle.run_core.proofs.Spaced.{both, chosen_from}

-- a word of at most so many bytes
pub record Fits (most : ℕ) (word : List ℕ) : Type 0 where
  pub seen : is_visible word ≡ true
  pub short : length word ≤ most

visible_by : (p : ℕ → Bool) → ((b : ℕ) → p b ≡ true → is_word_byte b ≡ true) → (w : List ℕ) → list_all p w ≡ true →
    list_all is_word_byte w ≡ true
visible_by p each [] e = refl
visible_by p each (x ∷ xs) e = go (p x) refl (λ h. visible_by p each xs h) e
  where
    go : (b : Bool) → p x ≡ b → (list_all p xs ≡ true → list_all is_word_byte xs ≡ true) → (b && list_all p xs) ≡ true →
        (is_word_byte x && list_all is_word_byte xs) ≡ true
    go true h rest e = ap (λ b. b && list_all is_word_byte xs) (each x h) ∙ rest e
    go false h rest e = absurd (true≢false (sym e))

visible : (w : List ℕ) → 0 < length w → list_all is_word_byte w ≡ true → is_visible w ≡ true
visible w some bytes = let sized : (length w == 0) ≡ false = grind (arith, nat_tests) in rw (sized, bytes) refl

digit_byte : (b : ℕ) → is_ascii_digit b ≡ true → is_word_byte b ≡ true
digit_byte b h = grind (arith, nat_tests)

name_byte : (b : ℕ) → is_name_byte b ≡ true → is_word_byte b ≡ true
name_byte b h = grind (arith, nat_tests)

own : IsNumeralModel (λ ds. list_all is_ascii_digit ds ≡ true) (digits_value 10)
own = numerals_by_value _ (search rules)

pub number_fits : (n : ℕ) → IsNumber n → Fits 200 (decimal n)
number_fits n fits =
    let model = decimal_is_IsNumeral n fits in
    let few = length-decimal-le 20 n (omega arith) (omega (arith, fits)) fits in
    record {
      seen = visible (decimal n) model.0.0 (visible_by is_ascii_digit digit_byte (decimal n) (own.from (decimal n) model.0.1));
      short = omega (arith, few);
    }

pub word_fits : (w : List ℕ) → IsWord w → Fits 200 w
word_fits w h = go (nat_le 1 (length w) && nat_le (length w) 200) refl h
  where
    go : (b : Bool) → (nat_le 1 (length w) && nat_le (length w) 200) ≡ b → (b && list_all is_word_byte w) ≡ true → Fits 200 w
    go true e h = let some : 0 < length w = grind (arith, nat_tests) in record { seen = visible w some h; short = grind (arith, nat_tests) }
    go false e h = absurd (true≢false (sym h))

-- each name of a list is one
pub all_names : (before texts all : Texts) → with_names before texts ≡ Ok all → AllByRecursion (λ w. is_name w ≡ true) texts
all_names before [] all e = tt
all_names before (text ∷ texts) all e =
    go (is_name text) refl (list_any (bytes_eq text) before) (λ h. all_names (before ++ text ∷ []) texts all h) e
  where
    go : (a : Bool) → is_name text ≡ a → (b : Bool) →
        (with_names (before ++ text ∷ []) texts ≡ Ok all → AllByRecursion (λ w. is_name w ≡ true) texts)
        → ((if not a then Err (BadName (length before + 1)) else (if b then Err (Twice (length before + 1)) else Ok (before ++ text ∷ [])))
        >>= λ next. with_names next texts) ≡ Ok all
        → AllByRecursion (λ w. is_name w ≡ true) (text ∷ texts)
    go false is b rest e = absurd (cc)
    go true is true rest e = absurd (cc)
    go true is false rest e = (is, rest e)

pub name_is : (names : Texts) (n : ℕ) → names_of names ≡ Ok names → n < length names → is_name (get_or names n []) ≡ true
name_is names n valid within = every_at (λ w. is_name w ≡ true) names n [] within (all_names [] names names (opened names valid))

pub name_fits : (w : List ℕ) → is_name w ≡ true → Fits 16 w
name_fits w h = go ((length w == 0) || nat_lt 16 (length w)) refl h
  where
    go : (b : Bool) → ((length w == 0) || nat_lt 16 (length w)) ≡ b → (if b then false else list_all is_name_byte w) ≡ true → Fits 16 w
    go true e h = absurd (true≢false (sym h))
    go false e h =
        let some : 0 < length w = grind (arith, nat_tests) in
        record { seen = visible w some (visible_by is_name_byte name_byte w h); short = grind (arith, nat_tests) }

-- a name begins with none but a letter, a digit or _
pub no_comment : (w : List ℕ) → is_name w ≡ true → (slice_index w 0 == 35) ≡ false
no_comment [] h = absurd (cc)
no_comment (x ∷ xs) h = go ((length (x ∷ xs) == 0) || nat_lt 16 (length (x ∷ xs))) h
  where
    go : (b : Bool) → (if b then false else (is_name_byte x && list_all is_name_byte xs)) ≡ true → (x == 35) ≡ false
    go true h = absurd (true≢false (sym h))
    go false h = let first = (both (is_name_byte x) (list_all is_name_byte xs) h).0 in grind (arith, nat_tests)

-- several words

pub all_seen : (most : ℕ) (ws : Texts) → AllByRecursion (Fits most) ws → list_all is_visible ws ≡ true
all_seen most [] all = refl
all_seen most (w ∷ ws) all = ap (λ b. b && list_all is_visible ws) all.0.seen ∙ all_seen most ws all.1

pub all_short : (most : ℕ) (ws : Texts) → AllByRecursion (Fits most) ws → AllByRecursion (λ w. length w ≤ most) ws
all_short most [] all = tt
all_short most (w ∷ ws) all = (all.0.short, all_short most ws all.1)

pub chosen_fit : (chosen : Names) (n : ℕ) (names : Texts) → AllByRecursion (λ w. is_name w ≡ true) names →
    AllByRecursion (Fits 16) (chosen_from chosen n names)
chosen_fit chosen n [] all = tt
chosen_fit chosen n (name ∷ names) all = go (set.contains chosen n) (chosen_fit chosen (n + 1) names all.1)
  where
    go : (b : Bool) → AllByRecursion (Fits 16) (chosen_from chosen (n + 1) names) →
        AllByRecursion (Fits 16) (if b then name ∷ chosen_from chosen (n + 1) names else chosen_from chosen (n + 1) names)
    go true rest = (name_fits name all.0, rest)
    go false rest = rest

pub chosen_few : (chosen : Names) (n : ℕ) (names : Texts) → length (chosen_from chosen n names) ≤ length names
chosen_few chosen n [] = omega arith
chosen_few chosen n (name ∷ names) = go (set.contains chosen n) (chosen_few chosen (n + 1) names)
  where
    go : (b : Bool) → length (chosen_from chosen (n + 1) names) ≤ length names →
        length (if b then name ∷ chosen_from chosen (n + 1) names else chosen_from chosen (n + 1) names) ≤ length (name ∷ names)
    go true rest = omega (arith, rest)
    go false rest = omega (arith, rest)
