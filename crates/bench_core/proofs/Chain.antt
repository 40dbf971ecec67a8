-- The chain of inverses, when a step is added and when one is taken out.
use Rattle.std.proofs.Common.{◌≡◌, ◌≢◌, ℕ, List, [], ◌∷◌, ◌++◌, set, slice_get, Some, None, Result, Ok, Err, sym, ap, ◌∙◌, subst}
use Rattle.replica_core.specs.declared.node_limits.NodeLimits.{NodeLimits}
use Rattle.node_core.specs.Inverses.{Inverse, LeadsBack}
use Rattle.node_core.specs.Nodes.{Node, take}
use Rattle.bench_core.specs.declared.fault.Fault.{Fault}
use Rattle.journal_core.specs.Journals.{Kept, NumbersRise, first_consequence, without, steps_before, is_consequence}
use Rattle.journal_core.specs.Holdings.{Held, kepts, find_held, without_held, AreAllHeld}
use Rattle.bench_core.specs.Clusters.{Cluster, step, opening_of}
use Rattle.bench_core.specs.Runs.{then_runs, runs}
use Rattle.bench_core.specs.Chains.{Link, Chain}
use Rattle.bench_core.proofs.Clusters.{ReadsAlike, get-set_same, get-set_other, set-get, set-set_same, mapped, message-set, step-set, Stepped, stepped}
use Rattle.bench_core.proofs.Runs.{runs_split, run_one, HasNode, Apart, step_has}
use Rattle.journal_core.proofs.Each.{NoneOf, none_follows}
use Rattle.journal_core.proofs.Split.{Parts, parts, found_kept, split_kepts, kepts_out}
use Rattle.bench_core.proofs.Middle.{stands_apart, left_out}

pub chain_nil : (r : Result Cluster Fault) → Chain r []
chain_nil (Ok c) = tt
chain_nil (Err e) = tt

-- a step at the end whose inverse leads back
pub chain_push : (r : Result Cluster Fault) (hs : List Held) (h : Held) (c : Cluster) → Chain r hs → then_runs r (kepts hs) ≡ Ok c →
    Link c h → Chain r (hs ++ h ∷ [])
chain_push (Err e) hs h c chain run link = tt
chain_push (Ok b) [] h c chain run link = (subst (λ (c : Cluster). Link c h) (cc) link, chain_nil (step b h.kept.node h.kept.step))
chain_push (Ok b) (x ∷ hs) h c chain run link = (chain.0, chain_push (step b x.kept.node x.kept.step) hs h c chain.1 run link)

-- while the chain stands, no inverse is lent
pub all_held : (r : Result Cluster Fault) (hs : List Held) (c : Cluster) → Chain r hs → then_runs r (kepts hs) ≡ Ok c → AreAllHeld hs
all_held (Err e) hs c chain run = absurd (cc)
all_held (Ok b) [] c chain run = tt
all_held (Ok b) (h ∷ hs) c chain run = ((chain.0.inverse, chain.0.kept), all_held (step b h.kept.node h.kept.step) hs c chain.1 run)

-- the chain in two parts
chain_first : (r : Result Cluster Fault) (hs js : List Held) → Chain r (hs ++ js) → Chain r hs
chain_first (Err e) hs js chain = tt
chain_first (Ok c) [] js chain = tt
chain_first (Ok c) (h ∷ hs) js chain = (chain.0, chain_first (step c h.kept.node h.kept.step) hs js chain.1)

chain_rest : (r : Result Cluster Fault) (hs js : List Held) → Chain r (hs ++ js) → Chain (then_runs r (kepts hs)) js
chain_rest (Err e) hs js chain = tt
chain_rest (Ok c) [] js chain = chain
chain_rest (Ok c) (h ∷ hs) js chain = chain_rest (step c h.kept.node h.kept.step) hs js chain.1

chain_join : (r : Result Cluster Fault) (hs js : List Held) → Chain r hs → Chain (then_runs r (kepts hs)) js → Chain r (hs ++ js)
chain_join (Err e) hs js chain more = tt
chain_join (Ok c) [] js chain more = more
chain_join (Ok c) (h ∷ hs) js chain more = (chain.0, chain_join (step c h.kept.node h.kept.step) hs js chain.1 more)

-- steps apart from node n have the same inverses when it is replaced
link_set : (c : Cluster) (n : ℕ) (x y : Node) (h : Held) → slice_get c n ≡ Some x → h.kept.node ≢ n →
    ReadsAlike n y.outbox x.outbox h.kept.step → Link c h → Link (set c n y) h
link_set c n x y h has other same link = record {
  inverse = link.inverse;
  kept = link.kept;
  earlier = link.earlier;
  later = link.later;
  at = get-set_other c n h.kept.node y other ∙ link.at;
  taken = ap (take link.earlier h.kept.step) (message-set c n x y h.kept.step has same) ∙ link.taken;
  leads = link.leads;
}

chain_set : (r : Result Cluster Fault) (n : ℕ) (x y : Node) (hs : List Held) → HasNode n x r → Apart n x y (kepts hs) → Chain r hs →
    Chain (mapped (λ c. set c n y) r) hs
chain_set (Err e) n x y hs has apart chain = tt
chain_set (Ok c) n x y [] has apart chain = tt
chain_set (Ok c) n x y (h ∷ hs) has apart chain = (
  link_set c n x y h has apart.0 apart.1.0 chain.0,
  subst (λ r. Chain r hs) (sym (step-set c n h.kept.node y h.kept.step apart.0 (message-set c n x y h.kept.step has apart.1.0)))
      (chain_set (step c h.kept.node h.kept.step) n x y hs (step_has c h.kept n x apart.0 has) apart.1.1 chain.1),
)

-- node n stays through steps apart from it
run_has : (r : Result Cluster Fault) (n : ℕ) (x y : Node) (ks : List Kept) → HasNode n x r → Apart n x y ks → HasNode n x (then_runs r ks)
run_has (Err e) n x y ks has apart = tt
run_has (Ok c) n x y [] has apart = has
run_has (Ok c) n x y (k ∷ ks) has apart = run_has (step c k.node k.step) n x y ks (step_has c k n x apart.0 has) apart.1.1

-- what an undo of step n needs: its inverse leads back from the present node, and then the rest runs and its inverses lead back
pub record Undoing (l : NodeLimits) (count n : ℕ) (hs : List Held) (h : Held) (c : Cluster) : Type 0 where
  pub inverse : Inverse
  pub kept : h.inverse ≡ Some inverse
  pub earlier : Node
  pub later : Node
  pub at : slice_get c h.kept.node ≡ Some later
  pub leads : LeadsBack inverse later earlier
  pub remains : kepts (without_held hs n) ≡ without (kepts hs) n
  pub run : runs l count (without (kepts hs) n) ≡ Ok (set c h.kept.node earlier)
  pub chain : Chain (Ok (opening_of l count)) (without_held hs n)

taken_out : (l : NodeLimits) (count n : ℕ) (hs : List Held) (h : Held) (c : Cluster) → NumbersRise 0 (kepts hs) → find_held hs n ≡ Some h →
    (p : Parts hs n h) (old b : Cluster) → runs l count (steps_before (kepts hs) n) ≡ Ok old →
    then_runs (Ok (opening_of l count)) (kepts p.first) ≡ Ok old → step old h.kept.node h.kept.step ≡ Ok b →
    then_runs (Ok b) (kepts p.rest) ≡ Ok c → NoneOf (is_consequence (kepts hs) h.kept) (kepts hs) →
    Chain (Ok (opening_of l count)) p.first → Link old h → Chain (Ok b) p.rest → Undoing l count n hs h c
taken_out l count n hs h c rises found p old b first first_runs taken rest none chain link more =
    let round = split_kepts 0 hs n h rises found p in
    let one = stepped old h.kept.node h.kept.step b taken in
    let from_is : one.from ≡ link.earlier = cc (one.at, link.at) in
    let to_is : one.to ≡ link.later = cc (one.taken, link.taken) in
    let at : Stepped old h.kept.node h.kept.step b =
    record {
      from = link.earlier;
      to = link.later;
      at = link.at;
      named = one.named;
      taken = link.taken;
      gives = one.gives
          ∙ ap (set old h.kept.node) to_is;
    } in
    let far : Apart h.kept.node link.later link.earlier (kepts p.rest) =
    stands_apart l count n (kepts hs) h.kept old b round first at none in
    let has : slice_get b h.kept.node ≡ Some link.later = ap (λ (d : Cluster). slice_get d h.kept.node) at.gives
    ∙ get-set_same old h.kept.node link.earlier link.later link.at in
    let same : set b h.kept.node link.earlier ≡ old = ap (λ (d : Cluster). set d h.kept.node link.earlier) at.gives
    ∙ set-set_same old h.kept.node link.later link.earlier ∙ set-get old h.kept.node link.earlier link.at in
    let moved = chain_set (Ok b) h.kept.node link.later link.earlier p.rest has far more in
    record {
      inverse = link.inverse;
      kept = link.kept;
      earlier = link.earlier;
      later = link.later;
      at = subst (HasNode h.kept.node link.later) rest (run_has (Ok b) h.kept.node link.later link.earlier (kepts p.rest) has far);
      leads = link.leads;
      remains = kepts_out 0 hs n h rises found;
      run = left_out l count n (kepts hs) h.kept old b c round first at rest far;
      chain =
          subst (Chain (Ok (opening_of l count))) (sym p.out)
          (chain_join (Ok (opening_of l count)) p.first p.rest chain (subst (λ r. Chain r p.rest) (ap Ok same ∙ sym first_runs) moved));
    }

pub undoing : (l : NodeLimits) (count n : ℕ) (hs : List Held) (h : Held) (c : Cluster) → NumbersRise 0 (kepts hs) →
    runs l count (kepts hs) ≡ Ok c → find_held hs n ≡ Some h → first_consequence (kepts hs) n ≡ None →
    Chain (Ok (opening_of l count)) hs → Undoing l count n hs h c
undoing l count n hs h c rises run found free chain =
    let p = parts hs n h found in
    let found_step = found_kept hs n h found in
    let start : Result Cluster Fault = Ok (opening_of l count) in
    let two = runs_split start (steps_before (kepts hs) n) (h.kept ∷ kepts p.rest) c
    (ap (then_runs start) (sym (split_kepts 0 hs n h rises found p).whole) ∙ run) in
    let one = run_one two.0 c h.kept (kepts p.rest) two.2 in
    let split : Chain start (p.first ++ h ∷ p.rest) = subst (Chain start) p.whole chain in
    let first_runs : then_runs start (kepts p.first) ≡ Ok two.0 = ap (then_runs start) p.before_is ∙ two.1 in
    let links : Chain (Ok two.0) (h ∷ p.rest) =
    subst (λ r. Chain r (h ∷ p.rest)) first_runs (chain_rest start p.first (h ∷ p.rest) split) in
    taken_out l count n hs h c rises found p two.0 one.0 two.1 first_runs one.1 one.2 (none_follows (kepts hs) n h.kept found_step free)
    (chain_first start p.first (h ∷ p.rest) split) links.0 (subst (λ r. Chain r p.rest) one.1 links.1)
