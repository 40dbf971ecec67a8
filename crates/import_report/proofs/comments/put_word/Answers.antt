use Rattle.std.proofs.Common.{◌≡◌, ◌∙◌, sym, subst, true}
use Rattle.grammar_core.specs.Words.{is_text}
use Rattle.import_report.proofs.PlainTexts.{plain_ascii}
use Rattle.import_report.proofs.comments.put_word.Goals as goal

pub shortened-requires : goal.shortened-requires
shortened-requires g c = subst (λ s. is_text s ≡ true) (sym (c.deref.ensures ∙ c.in_ok-ascii_text.ensures)) (plain_ascii c.args.value.now)
