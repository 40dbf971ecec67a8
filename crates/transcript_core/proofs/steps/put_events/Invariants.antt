use Rattle.std.proofs.Common.{◌≡◌, ◌++◌, drop, map}
use Rattle.run_core.specs.Report.{call_of}
use Rattle.transcript_core.specs.Scripts.{cast_of}
use Rattle.transcript_core.specs.Steps.{steps_text}
use Rattle.transcript_core.proofs.steps.put_events.Given as goal

-- the calls so far, and then those that are left
abbrev pub invariant-loop-place : goal.invariant-loop-place
invariant-loop-place g l = record {
  names : l.bench.names ≡ l.fn.bench.names;
  text : l.out.items ++ steps_text (cast_of l.fn.bench l.consoles) l.takers l.bench (map call_of (drop l.place l.history))
      ≡ l.fn.out.items ++ steps_text (cast_of l.fn.bench l.consoles) l.takers l.fn.bench (map call_of l.history);
}
