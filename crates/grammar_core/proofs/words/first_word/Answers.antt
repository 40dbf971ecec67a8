use Rattle.std.proofs.Common.{◌≡◌, true}
use Rattle.std.specs.List.{list_all}
use Rattle.std.proofs.lemmas.List.Sums.{prefix_len-le-length}
use Rattle.payload_core.specs.Words.{is_word_byte}
use Rattle.grammar_core.proofs.WordByWord.{IsUtf8-word, behind_begins_none, front_visible}
use Rattle.grammar_core.proofs.words.first_word.Goals as goal

pub split_at-requires : goal.split_at-requires
split_at-requires c = rw c.word_len.ensures (prefix_len-le-length is_word_byte c.args.bytes.now)

pub from_utf8_unchecked-requires : goal.from_utf8_unchecked-requires
from_utf8_unchecked-requires c =
    let visible : list_all is_word_byte c.split_at.result.0.now ≡ true =
    rw (c.split_at.ensures.front, c.word_len.ensures) (front_visible c.args.bytes.now) in
    IsUtf8-word c.split_at.result.0.now visible

pub returns-clause-visible : goal.returns-clause-visible
returns-clause-visible c =
    rw (c.from_utf8_unchecked.ensures, c.split_at.ensures.front, c.word_len.ensures) (front_visible c.args.bytes.now)

pub returns-clause-longest : goal.returns-clause-longest
returns-clause-longest c = rw (c.split_at.ensures.back, c.word_len.ensures) (behind_begins_none c.args.bytes.now)
