-- Which entries a run makes, and at which dots: each node's steps other than deliveries decide it, whatever is
-- delivered.
use Rattle.std.specs.Prelude.{◌≡◌, ℕ, Bool, true, List, [], ◌∷◌, ◌++◌, slice_get, Some, Ok}
use Rattle.std.specs.FinMap as fin
use Rattle.dots_core.specs.declared.dot.Dot.{Dot}
use Rattle.payload_core.specs.Presences.{Presence}
use Rattle.replica_core.specs.declared.node_limits.NodeLimits.{NodeLimits}
use Rattle.replica_core.specs.declared.status.Status.TheVariants as statuses
use Rattle.replica_core.specs.Replicas.{Replica, opening, fresh, joined, left_each, tracked_dots, dots_of_process, updated, with_status, forgotten, without_delta}
use Rattle.node_core.specs.Operations.{Operation, Join, Leave, LeaveAll, Update, Broadcast, Extract, Deliver, Request, Answer, Up, Down, Permdown}
use Rattle.node_core.specs.Nodes.{Node}
use Rattle.journal_core.specs.Journals.{Kept}
use Rattle.bench_core.specs.Clusters.{Cluster}
use Rattle.bench_core.specs.Runs.{runs}
use Rattle.diff_core.specs.Rows.{row_of}
use Rattle.bench_core.specs.Laws.{presence_made}
use Rattle.network_core.specs.NetworkRuns.{IsNetworkRun, ordered}
use Rattle.network_core.specs.Rows.{AreWanted, is_row_of}

-- a replica after an accepted step, where nothing is ever delivered: what the step does to own dots, entries, delta and
-- statuses
abbrev pub own_after : Operation → Replica → Replica
own_after (Join p) r = joined p r
own_after (Leave pid topic key) r = left_each (tracked_dots r pid topic key) r
own_after (LeaveAll pid) r = left_each (dots_of_process r pid) r
own_after (Update p) r = updated p r
own_after Broadcast r = without_delta r
own_after (Extract names) r = r
own_after (Deliver sender number) r = r
own_after Request r = r
own_after (Answer sender number) r = r
own_after (Up name) r = with_status name statuses.Up r
own_after (Down name) r = with_status name statuses.Down r
own_after (Permdown name) r = forgotten name r

-- a replica after accepted steps, one after another, where nothing is ever delivered
abbrev pub own_from : Replica → List Kept → Replica
own_from r [] = r
own_from r (k ∷ ks) = own_from (own_after k.step r) ks

-- a join or an update among these steps made presence p at dot d: d is fresh at the step's node after the node's
-- earlier steps
pub record IsMade (l : NodeLimits) (ks : List Kept) (d : Dot) (p : Presence) : Type 0 where
  pub node : ℕ
  pub before : List Kept
  pub after : List Kept
  pub k : Kept
  pub parted : ordered ks node ≡ before ++ k ∷ after
  pub makes : presence_made k.step ≡ Some p
  pub at : d ≡ fresh (own_from (opening node l) before)

-- each entry that a node has at the end of a run was made by a join or an update in the run
abbrev pub MadeLaw : Type 0
MadeLaw =
    (l : NodeLimits) (count : ℕ) (ks : List Kept) (c : Cluster) (n : ℕ) (x : Node) (d : Dot) (p : Presence) → runs l count ks ≡ Ok c → slice_get c n ≡ Some x →
    fin.get x.replica.store.entries d ≡ Some p → IsMade l ks d p

-- which dot is a node's fresh one at the end of a run depends only on the node's steps other than deliveries
abbrev pub FreshLaw : Type 0
FreshLaw =
    (l : NodeLimits) (count : ℕ) (ks : List Kept) (c : Cluster) (n : ℕ) (x : Node) → runs l count ks ≡ Ok c → slice_get c n ≡ Some x →
    fresh x.replica ≡ fresh (own_from (opening n l) (ordered ks n))

-- `wanted` holds of the dot of each entry that the recorded run makes under the topic and the key
abbrev pub WantsMade : NodeLimits → List Kept → (Dot → Bool) → List ℕ → List ℕ → Type 0
WantsMade l j wanted topic key = (d : Dot) (p : Presence) → IsMade l j d p → is_row_of topic key (row_of (d, p)) ≡ true → wanted d ≡ true

-- if `wanted` holds of the dot of each entry that the recorded run makes under the topic and the key, it also holds of
-- the dot of each entry that a node has under them at the end of a run of the network
abbrev pub WantedLaw : Type 0
WantedLaw =
    (l : NodeLimits) (count : ℕ) (j r : List Kept) (lost again n : ℕ) (wanted : Dot → Bool) (topic key : List ℕ) (c : Cluster) (x : Node) →
    WantsMade l j wanted topic key →
    IsNetworkRun j lost again r → runs l count r ≡ Ok c → slice_get c n ≡ Some x → AreWanted wanted topic key x.replica
