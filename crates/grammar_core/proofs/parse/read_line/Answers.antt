use Rattle.grammar_core.proofs.WordByWord.{words_visible}
use Rattle.grammar_core.proofs.parse.read_line.Goals as goal

pub read_words-requires : goal.read_words-requires
read_words-requires g c = rw c.deref.ensures (words_visible c.args.line.now _ c.in_ok-put_words.ensures)
