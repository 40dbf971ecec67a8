use Rattle.std.proofs.Common.{◌≡◌}
use Rattle.page_data.specs.Seen.{all_seen}
use Rattle.page_data.proofs.seen.all_seen.Given as goal

-- the names so far
abbrev pub invariant-loop-name : goal.invariant-loop-name
invariant-loop-name g l = l.seen.items ≡ all_seen l.replica l.name
