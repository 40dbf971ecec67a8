use Rattle.std.proofs.Common.{◌≡◌, [], drop}
use Rattle.bench_core.specs.Acts.{calls_of}
use Rattle.grammar_core.specs.Grammar.{with_calls}
use Rattle.grammar_core.specs.Scripts.{plain_lines}
use Rattle.grammar_core.proofs.script.acts.Given as goal

-- the acts so far, and then the lines that are left
abbrev pub invariant-loop-line : goal.invariant-loop-line
invariant-loop-line g l =
    with_calls (calls_of l.calls.items) (plain_lines (drop l.line-index l.line-items)) ≡ with_calls [] (plain_lines l.script.lines.items)
