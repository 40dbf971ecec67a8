use Rattle.std.proofs.Common.{◌≡◌, ◌+◌, ◌-◌, ◌≤◌, length}
use Rattle.std.specs.Io.KnownBytes.{Consumes}
use Rattle.stream_core.proofs.streams.read_front.Given as goal

-- the bytes so far came from the reader, at least one in each turn, of which none failed
abbrev pub invariant-loop-chunk : goal.invariant-loop-chunk
invariant-loop-chunk g l = record {
  few : length l.bytes.items ≤ l.most;
  taken : Consumes (g.R.Read.remaining l.fn.reader) (g.R.Read.remaining l.reader) l.bytes.items;
  calls : l.steps.calls ≤ l.fn.steps.calls + length l.bytes.items;
  failed : l.steps.failed ≡ l.fn.steps.failed;
}

abbrev pub decreases-loop-chunk : goal.decreases-loop-chunk
decreases-loop-chunk g l = l.most - length l.bytes.items
