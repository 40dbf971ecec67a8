use Rattle.std.proofs.Common.{◌≡◌, ◌++◌, drop, string_bytes}
use Rattle.transcript_core.specs.Scripts.{cast_of}
use Rattle.page_data.specs.PageData.{calls_text}
use Rattle.page_data.proofs.data.put_events.Given as goal

-- the calls so far, and then those that are left
abbrev pub invariant-loop-place : goal.invariant-loop-place
invariant-loop-place g l = record {
  names : l.bench.names ≡ l.fn.bench.names;
  text : string_bytes l.text ++ calls_text (cast_of l.fn.bench l.consoles) l.bench l.place (drop l.place l.history)
      ≡ string_bytes l.fn.text ++ calls_text (cast_of l.fn.bench l.consoles) l.fn.bench 0 l.history;
}
