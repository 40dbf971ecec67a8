-- The text that teaches the script language.
use Rattle.std.specs.Prelude.{ℕ, List}
use Rattle.command_line.specs.declared.help.TheConstants.{LANGUAGE}

unfoldable pub language : List ℕ
language = LANGUAGE.now
