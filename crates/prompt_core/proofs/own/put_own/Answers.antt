use Rattle.std.proofs.Common.{sym}
use Rattle.grammar_core.proofs.LineText.{IsUtf8-is_text}
use Rattle.prompt_core.proofs.own.put_own.Goals as goal

-- the line is text, so it is UTF-8
pub unreachable-requires : goal.unreachable-requires
unreachable-requires g c = c.in_default.ensures.cases.0 (IsUtf8-is_text c.args.line.now (c.requires (sym c.if-not-may_be_own.ensures)))
