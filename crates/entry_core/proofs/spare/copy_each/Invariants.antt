use Rattle.std.proofs.Common.{◌≡◌, ◌+◌, ◌≤◌, length, take, vec_capacity, vec_len}
use Rattle.entry_core.proofs.spare.copy_each.Given as goal

-- so far copies, and boxes for the rest
abbrev pub invariant-loop-entry : goal.invariant-loop-entry
invariant-loop-entry g l = record {
  items : l.list.items ≡ take l.entry-index l.entries;
  len : vec_len l.list ≡ l.entry-index;
  capacity : vec_capacity l.list ≡ vec_capacity l.fn.list;
  boxes : length l.entries ≤ vec_len l.boxes + l.entry-index;
}
