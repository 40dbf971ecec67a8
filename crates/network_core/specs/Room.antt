-- Runs in which no node can get more entries than it may hold.
use Rattle.std.specs.Prelude.{◌≢◌, ℕ, ◌+◌, ◌≤◌, if◌then◌else◌, Bool, List, [], ◌∷◌, is_some, Err}
use Rattle.replica_core.specs.declared.node_limits.NodeLimits.{NodeLimits}
use Rattle.node_core.specs.Operations.{Operation}
use Rattle.journal_core.specs.Journals.{Kept}
use Rattle.bench_core.specs.declared.fault.Fault.TheVariants.{EntriesFull}
use Rattle.bench_core.specs.Laws.{presence_made}
use Rattle.bench_core.specs.Runs.{runs}

-- whether a step makes an entry
abbrev pub makes : Operation → Bool
makes s = is_some (presence_made s)

-- how many of the steps make an entry
abbrev pub made : List Kept → ℕ
made [] = 0
made (k ∷ ks) = if makes k.step then made ks + 1 else made ks

-- steps that make no more entries than a node may hold never fill one, in whatever order they stand
abbrev pub NeverFullLaw : Type 0
NeverFullLaw = (l : NodeLimits) (count : ℕ) (ks : List Kept) → made ks ≤ l.entries → runs l count ks ≢ Err EntriesFull
