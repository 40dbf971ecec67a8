-- What may be a topic, a key or metadata.
use Rattle.std.specs.Prelude.{ℕ, Bool, List, length, nat_le, ◌&&◌, Result, Ok, Err, if◌then◌else◌}
use Rattle.std.specs.List.{list_all}
use Rattle.entry_core.specs.declared.word.WordFault.{WordFault}
use Rattle.entry_core.specs.declared.word.WordFault.TheVariants.{BadWord}

-- a visible character of ASCII: 0x21 to 0x7E
abbrev pub is_word_byte : ℕ → Bool
is_word_byte byte = nat_le 33 byte && nat_le byte 126

-- the length of the longest words, in bytes
abbrev pub longest_word : ℕ
longest_word = 200

-- 1 to `longest_word` bytes, each of them visible
abbrev pub is_word : List ℕ → Bool
is_word text = (nat_le 1 (length text) && nat_le (length text) longest_word) && list_all is_word_byte text

-- the word of a text, or the fault of a text that is no word
abbrev pub word_of : List ℕ → Result (List ℕ) WordFault
word_of text = if is_word text then Ok text else Err BadWord
