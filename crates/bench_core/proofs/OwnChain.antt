-- From the chain along the run to the chain of each node.
use Rattle.std.proofs.Common.{◌≡◌, ℕ, ◌==◌, Bool, true, false, if◌then◌else◌, List, [], ◌∷◌, ◌++◌, set, slice_get, Some, Result, Ok, refl, sym, ap, ◌∙◌, subst}
use Rattle.std.proofs.lemmas.Bool.{eqb-true, eqb-false}
use Rattle.std.proofs.lemmas.Option.{same_Some}
use Rattle.replica_core.specs.declared.node_limits.NodeLimits.{NodeLimits}
use Rattle.node_core.specs.Inverses.{Inverse, LeadsBack}
use Rattle.node_core.specs.Nodes.{Node, opening_node, take}
use Rattle.journal_core.specs.Holdings.{Held, kepts}
use Rattle.bench_core.specs.Clusters.{Cluster, message_for, opening_of, step}
use Rattle.bench_core.specs.Runs.{then_runs, runs}
use Rattle.bench_core.specs.Chains.{Link, Chain, Passed, own_back, LeadBack, OwnChains}
use Rattle.bench_core.proofs.Clusters.{get-set_same, get-set_other, Stepped, stepped}
use Rattle.bench_core.proofs.Runs.{run_one, run_from_opening}

same_Ok : {X E : Type 0} (x y : X) → ◌≡◌ {A = Result X E} (Ok x) (Ok y) → x ≡ y
same_Ok x y e = cc

lead_more : (n : ℕ) (b mid a : Node) (ps : List Passed) (p : Passed) (i : Inverse) → LeadBack n b ps mid → p.held.inverse ≡ Some i →
    LeadsBack i mid a → slice_get p.before n ≡ Some a → LeadBack n b (ps ++ p ∷ []) a
lead_more n b mid a [] p i more is leads at = (i, a, is, subst (λ (b : Node). LeadsBack i b a) (sym more) leads, at, refl)
lead_more n b mid a (q ∷ ps) p i more is leads at =
    (more.0, more.1, more.2, more.3, more.4, lead_more n more.1 mid a ps p i more.5 is leads at)

own : (c d : Cluster) (hs : List Held) (n : ℕ) (x : Node) → Chain (Ok c) hs → then_runs (Ok c) (kepts hs) ≡ Ok d → slice_get c n ≡ Some x →
    (y : Node) × ((slice_get d n ≡ Some y) × LeadBack n y (own_back (Ok c) hs n) x)
own c d [] n x chain run at = (x, (subst (λ (d : Cluster). slice_get d n ≡ Some x) (same_Ok c d run) at, refl))
own c d (h ∷ hs) n x chain run at =
    let one = run_one c d h.kept (kepts hs) run in
    go one.0 (stepped c h.kept.node h.kept.step one.0 one.1) chain.0 (h.kept.node == n) refl
    (λ z there. later one.0 z (own one.0 d hs n z (subst (λ r. Chain r hs) one.1 chain.1) one.2 there) (sym one.1))
  where
    later : (b : Cluster) (z : Node) → (y : Node) × ((slice_get d n ≡ Some y) × LeadBack n y (own_back (Ok b) hs n) z) →
        Ok b ≡ step c h.kept.node h.kept.step →
        (y : Node) × ((slice_get d n ≡ Some y) × LeadBack n y (own_back (step c h.kept.node h.kept.step) hs n) z)
    later b z more is = (more.0, (more.1.0, subst (λ r. LeadBack n more.0 (own_back r hs n) z) is more.1.1))

    go : (b : Cluster) → Stepped c h.kept.node h.kept.step b → Link c h → (t : Bool) → (h.kept.node == n) ≡ t →
        ((z : Node) → slice_get b n ≡ Some z →
        (y : Node) × ((slice_get d n ≡ Some y) × LeadBack n y (own_back (step c h.kept.node h.kept.step) hs n) z)) →
        (y : Node) × ((slice_get d n ≡ Some y) × LeadBack n y (if t then own_back (step c h.kept.node h.kept.step) hs n ++
        record { before = c; held = h } ∷ [] else own_back (step c h.kept.node h.kept.step) hs n) x)
    go b s link true is more =
        let node : h.kept.node ≡ n = eqb-true h.kept.node n is in
        let here : slice_get c n ≡ Some link.earlier = subst (λ m. slice_get c m ≡ Some link.earlier) node link.at in
        let from_is : link.earlier ≡ x = same_Some link.earlier x (sym here ∙ at) in
        let same : s.from ≡ link.earlier = same_Some s.from link.earlier (sym s.at ∙ link.at) in
        let to_is : s.to ≡ link.later = same_Ok s.to link.later
        (sym s.taken ∙ ap (λ (z : Node). take z h.kept.step (message_for c h.kept.step)) same ∙ link.taken) in
        let there : slice_get b n ≡ Some link.later = ap (λ (d : Cluster). slice_get d n) s.gives
        ∙ subst (λ m. slice_get (set c m s.to) n ≡ Some s.to) (sym node) (get-set_same c n link.earlier s.to here) ∙ ap Some to_is in
        let rest = more link.later there in
        let passed : Passed = record { before = c; held = h } in (
          rest.0,
          (
            rest.1.0,
            lead_more n rest.0 link.later x (own_back (step c h.kept.node h.kept.step) hs n) passed link.inverse rest.1.1
                link.kept (subst (λ (a : Node). LeadsBack link.inverse link.later a) from_is link.leads) at,
          ),
        )
    go b s link false is more =
        more x (ap (λ (d : Cluster). slice_get d n) s.gives ∙ get-set_other c h.kept.node n s.to (λ q. eqb-false h.kept.node n is (sym q))
        ∙ at)

pub own_chains : (l : NodeLimits) (count : ℕ) (hs : List Held) (c : Cluster) → Chain (Ok (opening_of l count)) hs →
    runs l count (kepts hs) ≡ Ok c → OwnChains l count c hs
own_chains l count hs c chain run n x at =
    let o = own (opening_of l count) c hs n (opening_node n l) chain run (run_from_opening l count (kepts hs) c n x run at) in
    let same : o.0 ≡ x = same_Some o.0 x (sym o.1.0 ∙ at) in
    subst (λ (y : Node). LeadBack n y (own_back (Ok (opening_of l count)) hs n) (opening_node n l)) same o.1.1
