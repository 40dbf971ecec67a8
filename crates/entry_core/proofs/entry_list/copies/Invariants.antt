use Rattle.std.proofs.Common.{◌≡◌, ◌≤◌, length, take, vec_capacity, vec_len}
use Rattle.entry_core.proofs.entry_list.copies.Given as goal

-- so far the entries
abbrev pub invariant-loop-entry : goal.invariant-loop-entry
invariant-loop-entry g l = record {
  items : l.list.items ≡ take l.entry-index l.entries;
  len : vec_len l.list ≡ l.entry-index;
  capacity : length l.entries ≤ vec_capacity l.list;
}
