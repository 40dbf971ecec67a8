use Rattle.std.proofs.Common.{ap, ◌∙◌}
use Rattle.payload_core.specs.Words.{is_word}
use Rattle.spelling_core.proofs.Spellings.{is_word_of, cut_word}
use Rattle.spelling_core.proofs.cutting.word_of.Goals as goal

pub word-requires : goal.word-requires
word-requires g c = is_word_of c.args.spelled.now c.requires c.if-spelled-le-LONGEST_WORD.true

pub word-requires-2 : goal.word-requires-2
word-requires-2 g c = ap is_word (c.deref.ensures ∙ c.in_ok-text.ensures) ∙ cut_word c.args.number c.args.spelled.now c.ranges.number.fits c.requires c.if-spelled-le-LONGEST_WORD.false
