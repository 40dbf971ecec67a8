-- What a node has seen of each name, as numbers; and what changed in it.
use Rattle.std.specs.Prelude.{ℕ, zero, suc, ◌==◌, ◌&&◌, Bool, if◌then◌else◌, List, [], ◌∷◌, ◌++◌, length, slice_get, unwrap_or, Option, Some, None}
use Rattle.std.specs.FinMap as fin
use Rattle.replica_core.specs.declared.status.Status.{Status}
use Rattle.replica_core.specs.declared.status.Status.TheVariants.{Up, Down}
use Rattle.replica_core.specs.Replicas.{Replica}
use Rattle.node_core.specs.Nodes.{Node}
use Rattle.report_core.specs.Dots.{clock_of, cloud_of}
use Rattle.page_data.specs.declared.seen.Seen.{Seen}

-- 0 if the name isn't known, 1 if it is up, 2 if it is down
abbrev pub status_number : Option Status → ℕ
status_number None = 0
status_number (Some Up) = 1
status_number (Some Down) = 2

-- the status of a name, its context clock, and how many clocks its cloud has
unfoldable pub seen_of : Replica → ℕ → Seen
seen_of r name = record {
  status = status_number (fin.get r.view name);
  clock = clock_of r.store.seen name;
  more = length (cloud_of r.store.seen name);
}

-- what a replica has seen of each of the first names
unfoldable pub all_seen : Replica → ℕ → List Seen
all_seen r zero = []
all_seen r (suc name) = all_seen r name ++ seen_of r name ∷ []

-- what a node has seen of each of the first names; nothing if there is no node
abbrev pub seen_in : Option Node → ℕ → List Seen
seen_in None count = []
seen_in (Some node) count = all_seen node.replica count

abbrev pub nothing_seen : Seen
nothing_seen = record { status = 0; clock = 0; more = 0 }

abbrev pub seen_at : List Seen → ℕ → Seen
seen_at before name = unwrap_or (slice_get before name) nothing_seen

abbrev pub is_same : Seen → Seen → Bool
is_same a b = (a.status == b.status) && ((a.clock == b.clock) && (a.more == b.more))

-- `NAME,STATUS,CLOCK,MORE`, if it differs from before
abbrev pub change_of : ℕ → Seen → Seen → List ℕ
change_of name before now = if is_same before now then [] else name ∷ now.status ∷ now.clock ∷ now.more ∷ []

-- `NAME,STATUS,CLOCK,MORE` for each of the first names for which it changed
unfoldable pub changes_of : List Seen → Replica → ℕ → List ℕ
changes_of before r zero = []
changes_of before r (suc name) = changes_of before r name ++ change_of name (seen_at before name) (seen_of r name)

abbrev pub changes_in : List Seen → Option Node → ℕ → List ℕ
changes_in before None count = []
changes_in before (Some node) count = changes_of before node.replica count
