use Rattle.std.proofs.Common.{◌+◌, ◌++◌, ◌∙◌, drop, sym, ap}
use Rattle.grammar_core.specs.Scripts.{plain_command, plain_lines}
use Rattle.run_core.specs.Report.{commands_of}
use Rattle.bench_core.specs.Machine.{Machine}
use Rattle.transcript_core.specs.Scripts.{cast_of}
use Rattle.transcript_core.specs.Steps.{command_steps, steps_text}
use Rattle.transcript_core.proofs.StepsTold.{names_stay, steps_more}
use Rattle.transcript_core.proofs.Walks.{left_is}
use Rattle.transcript_core.proofs.steps.put_lines.Goals as goal

pub loop-line-preserved : goal.loop-line-preserved
loop-line-preserved g c =
    let m = c.loop-line.bench in
    let command = plain_command c.line-item.result.command in
    let cast = cast_of c.args.bench.now c.args.consoles.now in
    let takers = c.args.takers.now in
    record {
      names = ap (λ (b : Machine). b.names) c.in_ok-put_line.ensures.bench ∙ names_stay m command ∙ c.loop-line.invariant.names;
      text = steps_more cast takers m c.put_line.new.bench command (commands_of (plain_lines (drop (c.loop-line.line-index + 1) c.args.lines.now)))
          c.loop-line.out.items c.put_line.new.out.items _
          (ap (λ t. c.loop-line.out.items ++ t) (sym (left_is (λ ls. steps_text cast takers m (commands_of (plain_lines ls))) c.args.lines.now c.loop-line.line-index
          c.line-item.result c.loop-line-test.true c.line-item.is)) ∙ c.loop-line.invariant.text)
          (c.in_ok-put_line.ensures.text
          ∙ ap (λ ns. c.loop-line.out.items ++ command_steps (record { nodes = ns; consoles = c.args.consoles.now }) takers m command) c.loop-line.invariant.names)
          c.in_ok-put_line.ensures.bench;
    }
