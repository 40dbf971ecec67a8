use Rattle.std.proofs.Common.{◌≡◌, ◌∙◌, sym, subst, true}
use Rattle.grammar_core.specs.Words.{is_text}
use Rattle.import_report.proofs.PlainTexts.{plain_string}
use Rattle.import_report.proofs.comments.put_node.Goals as goal

pub shortened-requires : goal.shortened-requires
shortened-requires g c = subst (λ s. is_text s ≡ true) (sym (c.deref.ensures ∙ c.in_ok-string_text.ensures)) (plain_string c.args.node.now)
