use Rattle.std.proofs.Common.{◌≡◌, ◌++◌, drop}
use Rattle.grammar_core.specs.Scripts.{plain_lines}
use Rattle.run_core.specs.Report.{commands_of}
use Rattle.transcript_core.specs.Scripts.{cast_of}
use Rattle.transcript_core.specs.Steps.{steps_text}
use Rattle.transcript_core.proofs.steps.put_lines.Given as goal

-- the lines so far, and then those that are left
abbrev pub invariant-loop-line : goal.invariant-loop-line
invariant-loop-line g l = record {
  names : l.bench.names ≡ l.fn.bench.names;
  text : l.out.items ++ steps_text (cast_of l.fn.bench l.consoles) l.takers l.bench (commands_of (plain_lines (drop l.line-index l.lines)))
      ≡ l.fn.out.items ++ steps_text (cast_of l.fn.bench l.consoles) l.takers l.fn.bench (commands_of (plain_lines l.lines));
}
