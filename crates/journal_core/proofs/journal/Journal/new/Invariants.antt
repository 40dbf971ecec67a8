use Rattle.std.proofs.Common.{◌≡◌, [], length}
use Rattle.journal_core.specs.Causes.{AreIndexed}
use Rattle.journal_core.proofs.journal.Journal.new.Given as goal

abbrev pub invariant-loop : goal.invariant-loop
invariant-loop g l = record { long : length l.causes.items ≡ l.counter; indexed : AreIndexed [] [] l.causes.items }
