use Rattle.std.proofs.Common.{◌≡◌}
use Rattle.page_data.specs.Seen.{changes_of}
use Rattle.page_data.proofs.seen.changes_of.Given as goal

-- the names so far
abbrev pub invariant-loop-name : goal.invariant-loop-name
invariant-loop-name g l = l.numbers.items ≡ changes_of l.before l.replica l.name
