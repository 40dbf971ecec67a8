use Rattle.std.proofs.Common.{◌≡◌, ◌≤◌, length, take}
use Rattle.std.specs.Prelude.{vec_capacity, vec_len}
use Rattle.bench_core.proofs.history.History.try_copy.Given as goal

abbrev pub invariant-loop-event : goal.invariant-loop-event
invariant-loop-event g l = record {
  so_far : l.events.items ≡ take l.event-index l.event-items;
  count : vec_len l.events ≡ l.event-index;
  room : length l.event-items ≤ vec_capacity l.events;
}
