-- A compact text is read alike with a line feed behind it.
use Rattle.std.proofs.Common.{◌≡◌, ℕ, List, [], ◌∷◌, ◌++◌, Bool, true, false, Some, append_assoc, append-nil, refl, sym, ap, ap₂, ◌∙◌}
use Rattle.json.specs.Token.{begin_array, end_array, begin_object, end_object, number as number_token}
use Rattle.json.specs.Lex.{token, comma, colon, between, fresh, lex, punctuate, tokens, string_token as text_token}
use Rattle.json.specs.Print.{escape, quoted}
use Rattle.json.specs.Word.{ends_word}
use Rattle.json.proofs.Printed.Decimals.{IsNumber-decimal}
use Rattle.json.proofs.Printed.Numbers.{lex-number}
use Rattle.json.proofs.Printed.Strings.{content-escape, lex-escape}
use Rattle.serde_json.specs.Data.{Data, null, boolean, number, unsigned, negative, float, string, array, object, Items, no_items, item, Members, no_members, member}
use Rattle.serde_json.specs.Written.{compact_text, items_text, members_text}
use Rattle.std.specs.Fmt.{decimal}
use Rattle.json_core.specs.Compact.{IsWhole, AreWhole}

-- two texts that are read alike behind a value
record AreAlike (r s : List ℕ) : Type 0 where
  same : lex between r ≡ lex between s
  one_ends : ends_word r ≡ true
  other_ends : ends_word s ≡ true

lex_quoted : (t r : List ℕ) → lex between (quoted t ++ r) ≡ token (text_token (Some t)) ∷ lex between r
unfolding lex
lex_quoted t r =
    ap (λ l. lex between (34 ∷ l)) (append_assoc (escape t) (34 ∷ []) r)
    ∙ ap₂ (λ o l. token (text_token o) ∷ l) (content-escape t r) (lex-escape t r)

-- a value, and then the rest of its list
behind_value : (d : Data) (rest r s : List ℕ) → lex between (compact_text d ++ (rest ++ r)) ≡ lex between (compact_text d ++ (rest ++ s)) →
    lex between ((compact_text d ++ rest) ++ r) ≡ lex between ((compact_text d ++ rest) ++ s)
behind_value d rest r s same =
    ap (lex between) (append_assoc (compact_text d) rest r) ∙ same ∙ ap (lex between) (sym (append_assoc (compact_text d) rest s))

last_items : (ds : Items) (r s : List ℕ) → lex between (items_text true ds ++ r) ≡ lex between (items_text true ds ++ s) →
    AreAlike (items_text true ds ++ r) (items_text true ds ++ s)
last_items no_items r s same = record { same = same; one_ends = refl; other_ends = refl }
last_items (item d ds) r s same = record { same = same; one_ends = refl; other_ends = refl }

last_members : (ms : Members) (r s : List ℕ) → lex between (members_text true ms ++ r) ≡ lex between (members_text true ms ++ s) →
    AreAlike (members_text true ms ++ r) (members_text true ms ++ s)
last_members no_members r s same = record { same = same; one_ends = refl; other_ends = refl }
last_members (member k d ms) r s same = record { same = same; one_ends = refl; other_ends = refl }

mutual
  unfolding lex

  value_alike : (d : Data) (r s : List ℕ) → IsWhole d → AreAlike r s → lex between (compact_text d ++ r) ≡ lex between (compact_text d ++ s)
  value_alike null r s whole alike = absurd whole
  value_alike (boolean b) r s whole alike = absurd whole
  value_alike (number (unsigned n)) r s whole alike =
      lex-number (decimal n) r (IsNumber-decimal n whole) alike.one_ends ∙ ap (λ l. token (number_token (decimal n)) ∷ l) alike.same
      ∙ sym (lex-number (decimal n) s (IsNumber-decimal n whole) alike.other_ends)
  value_alike (number (negative z)) r s whole alike = absurd whole
  value_alike (number (float x)) r s whole alike = absurd whole
  value_alike (string t) r s whole alike = lex_quoted t r ∙ ap (λ l. token (text_token (Some t)) ∷ l) alike.same ∙ sym (lex_quoted t s)
  value_alike (array ds) r s whole alike = ap (λ l. token begin_array ∷ l) (items_alike false ds r s whole alike)
  value_alike (object ms) r s whole alike = absurd whole

  items_alike : (later : Bool) (ds : Items) (r s : List ℕ) → AreWhole ds → AreAlike r s →
      lex between (items_text later ds ++ r) ≡ lex between (items_text later ds ++ s)
  items_alike true no_items r s whole alike = ap (λ l. token end_array ∷ l) alike.same
  items_alike false no_items r s whole alike = ap (λ l. token end_array ∷ l) alike.same
  items_alike true (item d ds) r s whole alike =
      let rest = last_items ds r s (items_alike true ds r s whole.1 alike) in
      ap (λ l. comma ∷ l) (behind_value d (items_text true ds) r s (value_alike d (items_text true ds ++ r) (items_text true ds ++ s) whole.0 rest))
  items_alike false (item d ds) r s whole alike =
      let rest = last_items ds r s (items_alike true ds r s whole.1 alike) in
      behind_value d (items_text true ds) r s (value_alike d (items_text true ds ++ r) (items_text true ds ++ s) whole.0 rest)

-- the numbers in the values of these members are whole
abbrev pub HaveWhole : Members → Type 0
HaveWhole no_members = Unit {0}
HaveWhole (member k d ms) = IsWhole d × HaveWhole ms

-- a key with its value, and then the rest of its object
behind_key : (k : List ℕ) (d : Data) (rest r s : List ℕ) → lex between (compact_text d ++ (rest ++ r)) ≡ lex between (compact_text d ++ (rest ++ s)) →
    lex between ((quoted k ++ 58 ∷ (compact_text d ++ rest)) ++ r) ≡ lex between ((quoted k ++ 58 ∷ (compact_text d ++ rest)) ++ s)
unfolding lex
behind_key k d rest r s same =
    let value = behind_value d rest r s same in
    ap (lex between) (append_assoc (quoted k) (58 ∷ (compact_text d ++ rest)) r)
    ∙ lex_quoted k (58 ∷ ((compact_text d ++ rest) ++ r))
    ∙ ap (λ l. token (text_token (Some k)) ∷ colon ∷ l) value
    ∙ sym (ap (lex between) (append_assoc (quoted k) (58 ∷ (compact_text d ++ rest)) s) ∙ lex_quoted k (58 ∷ ((compact_text d ++ rest) ++ s)))

members_alike : (later : Bool) (ms : Members) (r s : List ℕ) → HaveWhole ms → AreAlike r s →
    lex between (members_text later ms ++ r) ≡ lex between (members_text later ms ++ s)
unfolding lex
members_alike true no_members r s whole alike = ap (λ l. token end_object ∷ l) alike.same
members_alike false no_members r s whole alike = ap (λ l. token end_object ∷ l) alike.same
members_alike true (member k d ms) r s whole alike =
    let rest = last_members ms r s (members_alike true ms r s whole.1 alike) in
    ap (λ l. comma ∷ l) (behind_key k d (members_text true ms) r s (value_alike d (members_text true ms ++ r) (members_text true ms ++ s) whole.0 rest))
members_alike false (member k d ms) r s whole alike =
    let rest = last_members ms r s (members_alike true ms r s whole.1 alike) in
    behind_key k d (members_text true ms) r s (value_alike d (members_text true ms ++ r) (members_text true ms ++ s) whole.0 rest)

pub line_feed : (ms : Members) → HaveWhole ms → tokens (compact_text (object ms) ++ 10 ∷ []) ≡ tokens (compact_text (object ms))
unfolding lex
line_feed ms whole =
    let alike : AreAlike (10 ∷ []) [] = record { same = refl; one_ends = refl; other_ends = refl } in
    ap (λ l. punctuate fresh (token begin_object ∷ l)) (members_alike false ms (10 ∷ []) [] whole alike)
    ∙ ap tokens (append-nil (compact_text (object ms)))
