use Rattle.std.proofs.Common.{◌≡◌, ◌+◌, ◌≤◌, [], None, length, option_copied}
use Rattle.grammar_core.specs.Grammar.{with_lines}
use Rattle.grammar_core.specs.Readings.{reading_view}
use Rattle.grammar_core.specs.Words.{lines_behind, lines_of}
use Rattle.grammar_core.proofs.LineByLine.{most_lines}
use Rattle.grammar_core.proofs.parse.parse_script.Given as goal

-- what was read so far, and then the lines that are left
abbrev pub invariant-loop-left : goal.invariant-loop-left
invariant-loop-left g l = record {
  read : with_lines (reading_view l.reading) l.number (lines_behind (option_copied l.left)) ≡
      with_lines (record { cast = None; lines = [] }) 1 (lines_of l.bytes);
  few : l.number + most_lines (option_copied l.left) ≤ length l.bytes + 2;
}

abbrev pub decreases-loop-left : goal.decreases-loop-left
decreases-loop-left g l = most_lines (option_copied l.left)
