-- The text of a word is UTF-8.
use Rattle.std.proofs.Common.{◌≡◌, ℕ, ◌<◌, Bool, true, false, ◌&&◌, List, [], ◌∷◌, arith}
use Rattle.std.proofs.lemmas.Bool.{leb-true}
use Rattle.std.specs.List.{list_all}
use Rattle.std.specs.Str.{IsAscii, IsUtf8}
use Rattle.std.specs.Prelude.{IsTrue}
use Rattle.std.proofs.lemmas.Str.{IsUtf8-from_ascii}
use Rattle.std.proofs.lemmas.Str.Ascii.{IsAscii-nil, IsAscii-cons}
use Rattle.entry_core.specs.Words.{is_word, is_word_byte}

small : (b : ℕ) → is_word_byte b ≡ true → b < 128
small b h = grind (arith, leb-true)

-- both parts of a test
both : (a b : Bool) → (a && b) ≡ true → (a ≡ true) × (b ≡ true)
both true true h = (h, h)
both true false h = absurd (cc)
both false b h = absurd (cc)

ascii : (bs : List ℕ) → list_all is_word_byte bs ≡ true → IsAscii bs
ascii [] h = IsAscii-nil
ascii (b ∷ bs) h =
    let parts = both (is_word_byte b) (list_all is_word_byte bs) h in
    IsAscii-cons b bs (small b parts.0) (ascii bs parts.1)

yes : (b : Bool) → IsTrue b → b ≡ true
yes true h = h
yes false h = h

pub utf8_word : (bs : List ℕ) → IsTrue (is_word bs) → IsUtf8 bs
utf8_word bs h = IsUtf8-from_ascii bs (ascii bs (both _ (list_all is_word_byte bs) (yes (is_word bs) h)).1)
