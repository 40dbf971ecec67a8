-- The inverses of the remaining steps lead back along their run (Danos and Krivine).
use Rattle.std.specs.Prelude.{◌≡◌, ℕ, ◌==◌, if◌then◌else◌, List, [], ◌∷◌, ◌++◌, slice_get, Some, Result, Ok, Err}
use Rattle.replica_core.specs.declared.node_limits.NodeLimits.{NodeLimits}
use Rattle.node_core.specs.Nodes.{Node, opening_node, take}
use Rattle.node_core.specs.Inverses.{Inverse, LeadsBack}
use Rattle.journal_core.specs.Holdings.{Held}
use Rattle.bench_core.specs.declared.fault.Fault.{Fault}
use Rattle.bench_core.specs.Clusters.{Cluster, opening_of, message_for, step}

-- the inverse kept beside a step leads from the step's node, as it is just after the step, back to what the node was just before the step
pub record Link (c : Cluster) (h : Held) : Type 0 where
  pub inverse : Inverse
  pub kept : h.inverse ≡ Some inverse
  pub earlier : Node
  pub later : Node
  pub at : slice_get c h.kept.node ≡ Some earlier
  pub taken : take earlier h.kept.step (message_for c h.kept.step) ≡ Ok later
  pub leads : LeadsBack inverse later earlier

-- along the run of the steps each inverse leads back, up to the first step that faults, if one does
abbrev pub Chain : Result Cluster Fault → List Held → Type 0
Chain (Err e) hs = Unit {0}
Chain (Ok c) [] = Unit {0}
Chain (Ok c) (h ∷ hs) = Link c h × Chain (step c h.kept.node h.kept.step) hs

-- a step of a run, and the cluster just before it
pub record Passed : Type 0 where
  pub before : Cluster
  pub held : Held

-- node n's steps, newest first, as the run of the steps passes them
abbrev pub own_back : Result Cluster Fault → List Held → ℕ → List Passed
own_back (Err e) hs n = []
own_back (Ok c) [] n = []
own_back (Ok c) (h ∷ hs) n =
    if h.kept.node == n then own_back (step c h.kept.node h.kept.step) hs n ++ record { before = c; held = h } ∷
    [] else own_back (step c h.kept.node h.kept.step) hs n

-- the inverses lead, one after the other, from b back to a, each to what node n was just before its step
abbrev pub LeadBack : ℕ → Node → List Passed → Node → Type 0
LeadBack n b [] a = b ≡ a
LeadBack n b (p ∷ ps) a =
    (i : Inverse) × (mid : Node) × (p.held.inverse ≡ Some i) × LeadsBack i b mid × (slice_get p.before n ≡ Some mid) × LeadBack n mid ps a

-- from each present node, its own inverses lead back to its opening, through what the node was in the run of the steps
abbrev pub OwnChains : NodeLimits → ℕ → Cluster → List Held → Type 0
OwnChains l count c hs =
    (n : ℕ) (x : Node) → slice_get c n ≡ Some x → LeadBack n x (own_back (Ok (opening_of l count)) hs n) (opening_node n l)
