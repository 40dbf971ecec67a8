use Rattle.std.proofs.Common.{◌≡◌, ◌++◌, drop, string_bytes}
use Rattle.grammar_core.specs.Scripts.{plain_lines}
use Rattle.run_core.specs.Report.{after_commands, commands_of, commands_text}
use Rattle.run_core.proofs.run.lines.Given as goal

-- the lines so far, and then those that are left
abbrev pub invariant-loop-next : goal.invariant-loop-next
invariant-loop-next g l = record {
  bench : after_commands l.bench (commands_of (plain_lines (drop l.next-index l.lines))) ≡
      after_commands l.fn.bench (commands_of (plain_lines l.lines));
  text : string_bytes l.text ++ commands_text l.bench (commands_of (plain_lines (drop l.next-index l.lines))) ≡ string_bytes l.fn.text ++
      commands_text l.fn.bench (commands_of (plain_lines l.lines));
}
