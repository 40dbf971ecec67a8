use Rattle.std.proofs.Common.{◌≡◌, ◌≤◌, length, take}
use Rattle.std.specs.Prelude.{vec_len, vec_capacity}
use Rattle.bench_core.specs.Acts.{calls_of}
use Rattle.bench_core.specs.Machine.{AllAnswered}
use Rattle.bench_core.proofs.bench.Bench.run.Given as goal

abbrev pub invariant-loop-actor : goal.invariant-loop-actor
invariant-loop-actor g l = record {
  so_far : AllAnswered l.initial.self (calls_of (take l.actor-index l.calls)) l.replies.items l.self;
  count : vec_len l.replies ≡ l.actor-index;
  room : length l.calls ≤ vec_capacity l.replies;
}
