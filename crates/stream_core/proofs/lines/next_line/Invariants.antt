use Rattle.std.proofs.Common.{◌≡◌}
use Rattle.stream_core.proofs.Taken.{IsBegun}
use Rattle.stream_core.proofs.lines.next_line.Given as goal

-- how much of the line was taken in, without a failed read
abbrev pub invariant-loop-turn : goal.invariant-loop-turn
invariant-loop-turn g l = record {
  begun : IsBegun l.most (g.R.Read.remaining l.fn.reader) (g.R.Read.remaining l.reader) l.line.items l._turn;
  failed : l.steps.failed ≡ l.fn.steps.failed;
}
