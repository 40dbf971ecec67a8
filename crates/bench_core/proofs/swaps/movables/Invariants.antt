use Rattle.std.proofs.Common.{◌≡◌, ◌≤◌, [], length, take}
use Rattle.std.specs.Prelude.{vec_capacity, vec_len}
use Rattle.journal_core.specs.Holdings.{kepts}
use Rattle.bench_core.specs.Movables.{movables_after, CountSent}
use Rattle.bench_core.proofs.swaps.movables.Given as goal

abbrev pub invariant-loop-place : goal.invariant-loop-place
invariant-loop-place g l = record {
  so_far : l.movables.items ≡ movables_after [] (take l.place (kepts l.journal.steps));
  counts : CountSent l.nodes (take l.place (kepts l.journal.steps)) l.sent.items;
  count : vec_len l.movables ≡ l.place;
  nodes : length l.sent.items ≡ l.nodes;
  room : length (kepts l.journal.steps) ≤ vec_capacity l.movables;
}
