-- What a cluster keeps, while its nodes take steps and go back.
use Rattle.std.proofs.Common.{◌≡◌, ◌≢◌, ◌⊎◌, inl, inr, ℕ, ◌≤◌, ◌&&◌, nat_lt, true, false, if◌then◌else◌, length, set, get_or, slice_get, Option, Some, None, Result, Ok, Err, OnOk, OnErr, refl, sym, ap, ◌∙◌, subst, arith, length-set}
use Rattle.std.proofs.lemmas.Bool.{cases_eq, lt-ltb}
use Rattle.std.proofs.lemmas.Option.{slice_get_within}
use Rattle.std.specs.List.{list_all}
use Rattle.replica_core.specs.declared.node_limits.NodeLimits.{NodeLimits}
use Rattle.replica_core.specs.Limits.{AreNodeLimits}
use Rattle.node_core.specs.declared.inverse.Inverse as declared
use Rattle.node_core.specs.declared.step_fault.StepFault.{StepFault}
use Rattle.node_core.specs.Operations.{Operation, named_in}
use Rattle.node_core.specs.Nodes.{Node, take}
use Rattle.node_core.specs.Invariant.{IsNode}
use Rattle.node_core.specs.Inverses.{Inverse, LeadsBack, LeadsSomewhere, GivesBack}
use Rattle.bench_core.specs.declared.fault.Fault.TheVariants.{UnknownNode}
use Rattle.bench_core.specs.Clusters.{Cluster, opening_of, step, node_step, with_node, of_node, message_for}
use Rattle.bench_core.specs.Benches.{AreNodes, IsCluster, IsTaken, LeadsClusterBack, LeadsNodeBack, NodeGoesBack, Steps}
use Rattle.bench_core.proofs.Clusters.{get-set_same, get-set_other, set-get, set-set_same, step_takes}
use Rattle.bench_core.proofs.Taken.{owns}
use Rattle.bench_core.proofs.Runs.{opening_at}
use Rattle.bench_core.proofs.Openings.{opening_kept, opening_length}
use Rattle.bench_core.proofs.OneStep.{get_at}
use Rattle.bench_core.proofs.Invariant.{nodes_set}

-- the nodes as they open

pub opening_nodes : (l : NodeLimits) (count : ℕ) → count ≤ 32 → AreNodeLimits l → AreNodes (opening_of l count)
opening_nodes l count few limits n x at =
    let low = slice_get_within (opening_of l count) n x at in
    let long = opening_length l count in
    subst IsNode (sym (opening_at l count n x at)) (opening_kept n l (omega (arith, low, long, few)) limits)

pub opening_keeps : (l : NodeLimits) (count : ℕ) (c : Cluster) → count ≤ 32 → AreNodeLimits l → c ≡ opening_of l count → IsCluster c
opening_keeps l count c few limits is =
    let long : length c ≡ count = ap length is ∙ opening_length l count in
    record {
      kept = subst AreNodes (sym is) (opening_nodes l count few limits);
      numbered = λ n x at. ap (λ (x : Node). x.replica.own) (opening_at l count n x (ap (λ (c : Cluster). slice_get c n) (sym is) ∙ at));
      few = omega (arith, long, few);
    }

-- one node replaced by another of its number
pub cluster_set : (c : Cluster) (n : ℕ) (x y : Node) → IsCluster c → slice_get c n ≡ Some x → IsNode y → y.replica.own ≡ x.replica.own →
    IsCluster (set c n y)
cluster_set c n x y old at is own = record {
  kept = nodes_set c n x y old.kept at is;
  numbered = λ m z here. go m z here (cases_eq m n);
  few = let long = length-set c n y in let few = old.few in omega (arith, long, few);
}
  where
    go : (m : ℕ) (z : Node) → slice_get (set c n y) m ≡ Some z → (m ≡ n) ⊎ (m ≢ n) → z.replica.own ≡ m
    go m z here (inl e) =
        let there : slice_get (set c n y) m ≡ Some y = ap (slice_get (set c n y)) e ∙ get-set_same c n x y at in
        let same : z ≡ y = cc in
        ap (λ (x : Node). x.replica.own) same ∙ own ∙ old.numbered n x at ∙ sym e
    go m z here (inr other) = old.numbered m z (sym (get-set_other c n m y other) ∙ here)

-- a step of one of the nodes
pub steps_keep : {X : Type 0} (c d : Cluster) (n : ℕ) (s : Operation) (r : Result (declared.Inverse X) StepFault) → IsCluster c → Steps c n s r d →
    IsCluster d
steps_keep c d n s (Ok i) old t =
    subst IsCluster (sym t.gives) (cluster_set c n t.earlier t.later old t.at t.kept (owns t.earlier s (message_for c s) t.later t.taken))
steps_keep c d n s (Err e) old t = subst IsCluster (sym t.0) old

-- and its way back
pub back_keeps : {X E : Type 0} (c : Cluster) (n : ℕ) (i : Inverse) (x y a : Node) (r : Result X E) → IsCluster c → slice_get c n ≡ Some x →
    LeadsBack i x a → OnOk r (GivesBack i x y) → OnErr r (y ≡ x) → IsCluster (set c n y)
back_keeps c n i x y a (Ok z) old at leads gives stays =
    let same : y ≡ a = gives a leads in
    cluster_set c n x y old at (subst IsNode (sym same) leads.earlier)
    (ap (λ (x : Node). x.replica.own) same ∙ sym (owns a leads.operation leads.message x leads.taken))
back_keeps c n i x y a (Err e) old at leads gives stays = subst IsCluster (sym (ap (set c n) stays ∙ set-get c n x at)) old

-- the node at which its own inverse leads back
pub record LedNode (c : Cluster) (n : ℕ) (i : Inverse) (x : Node) : Type 0 where
  pub at : slice_get c n ≡ Some x
  pub leads : LeadsSomewhere i x

pub led_node : (c : Cluster) (n : ℕ) (i : Inverse) (x : Node) → LeadsNodeBack c n i → x ≡ get_or c n x → LedNode c n i x
led_node c n i x h is =
    let at : slice_get c n ≡ Some x = get_at c n x (slice_get_within c n h.0 h.1) is in
    let same : h.0 ≡ x = let there = h.1 in cc in
    record { at = at; leads = subst (LeadsSomewhere i) same h.2 }

pub back_gives : {X E : Type 0} (c : Cluster) (n : ℕ) (i : Inverse) (x y : Node) (r : Result X E) → slice_get c n ≡ Some x → OnOk r (GivesBack i x y) →
    OnOk r (NodeGoesBack c n i (set c n y))
back_gives c n i x y (Ok z) at gives = λ later earlier there leads.
    let same : later ≡ x = cc in
    ap (set c n) (gives earlier (subst (λ (x : Node). LeadsBack i x earlier) same leads))
back_gives c n i x y (Err e) at gives = tt

-- what a step of the cluster is answered

pub step_taken : {X : Type 0} (c d : Cluster) (n : ℕ) (s : Operation) (r : Result (declared.Inverse X) StepFault) →
    list_all (λ k. nat_lt k (length c)) (named_in s) ≡ true → Steps c n s r d → OnOk r (step c n s ≡ Ok d)
step_taken c d n s (Ok i) named t = step_takes c n s t.earlier (Ok t.later) t.at named t.taken ∙ ap Ok (sym t.gives)
step_taken c d n s (Err e) named t = tt

-- the inverse of a step that was taken leads the cluster back
pub leads_cluster_back : (c d : Cluster) (n : ℕ) (s : Operation) (i : Inverse) → IsTaken c n s i d → LeadsClusterBack d n i c
leads_cluster_back c d n s i t = record {
  earlier = t.earlier;
  later = t.later;
  at = ap (λ (d : Cluster). slice_get d n) t.gives ∙ get-set_same c n t.earlier t.later t.at;
  leads = t.leads;
  gives = sym (ap (λ (d : Cluster). set d n t.earlier) t.gives ∙ set-set_same c n t.later t.earlier ∙ set-get c n t.earlier t.at);
}

-- a step of a node that isn't there, or that names one
pub unknown_node : (c : Cluster) (n : ℕ) (s : Operation) → (nat_lt n (length c) && list_all (λ k. nat_lt k (length c)) (named_in s)) ≡ false →
    step c n s ≡ Err UnknownNode
unknown_node c n s h = go (slice_get c n) refl
  where
    go : (o : Option Node) → slice_get c n ≡ o → with_node c n (node_step (length c) o s (message_for c s)) ≡ Err UnknownNode
    go None at = refl
    go (Some x) at =
        let there : nat_lt n (length c) ≡ true = lt-ltb n (length c) (slice_get_within c n x at) in
        let none : list_all (λ k. nat_lt k (length c)) (named_in s) ≡ false =
        ap (λ b. b && list_all (λ k. nat_lt k (length c)) (named_in s)) (sym there) ∙ h in
        ap (λ b. with_node c n (if b then of_node (take x s (message_for c s)) else Err UnknownNode)) none
