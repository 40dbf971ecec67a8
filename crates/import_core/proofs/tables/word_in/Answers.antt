use Rattle.std.proofs.Common.{◌∙◌, sym, subst}
use Rattle.spelling_core.specs.WordText.{IsVisible}
use Rattle.spelling_core.proofs.Spellings.{visible}
use Rattle.import_core.specs.Tables.{Extends}
use Rattle.import_core.proofs.Numbers.{extends_itself}
use Rattle.import_core.proofs.tables.word_in.Goals as goal
use Rattle.import_core.proofs.tables.word_in.Goals.{then-len-gt-LONGEST_WORD+in_ok-number, else-len-gt-LONGEST_WORD}

pub word_of-requires : goal.word_of-requires
word_of-requires g c = let is = c.in_ok-spelling.ensures in subst (λ s. IsVisible s) (sym (c.deref.ensures ∙ is.is)) (visible is.is_string is.text)

pub returns-clause-extends : goal.returns-clause-extends
returns-clause-extends g c = elim c.if-len-gt-LONGEST_WORD.branch [
  | then-len-gt-LONGEST_WORD+in_ok-number w ↦ subst (λ t. Extends c.args.longs.now t) (sym w.longs-is) w.in_ok-number.ensures.extends
  | else-len-gt-LONGEST_WORD w ↦ subst (λ t. Extends c.args.longs.now t) (sym w.longs-is) (extends_itself c.args.longs.now)
]
