-- Clusters that are alike in what matters stay so, step by step.
use Rattle.std.specs.Prelude.{◌≡◌, ◌≢◌, List, Result, Ok, Err}
use Rattle.journal_core.specs.Journals.{Kept}
use Rattle.bench_core.specs.declared.fault.Fault.{Fault}
use Rattle.bench_core.specs.declared.fault.Fault.TheVariants.{EntriesFull}
use Rattle.bench_core.specs.Clusters.{Cluster, step}
use Rattle.bench_core.specs.Runs.{then_runs}
use Rattle.network_core.specs.Alike.{Cares, ClusterAlike, Narrows, Follows}

-- what a step of two clusters comes to: one of them refuses it as `EntriesFull`; or both refuse it with the same fault;
-- or both take it, and are alike afterwards
pub data StepTogether (u : Cares) (one two : Result Cluster Fault) : Type 0 where
  IsFull : one ≡ Err EntriesFull → StepTogether u one two
  IsFullToo : two ≡ Err EntriesFull → StepTogether u one two
  Refused : (fault : Fault) → one ≡ Err fault → two ≡ Err fault → StepTogether u one two
  Taken : (c d : Cluster) → one ≡ Ok c → two ≡ Ok d → ClusterAlike u c d → StepTogether u one two

-- one step, asked of two clusters that are alike in what matters before it, has one of the results of `StepTogether`,
-- if what matters after it comes from what matters before it
abbrev pub StepLaw : Type 0
StepLaw = (t u : Cares) (c d : Cluster) (k : Kept) → ClusterAlike t c d → Narrows c k t u → StepTogether u (step c k.node k.step) (step d k.node k.step)

-- if a cluster takes these steps, and what matters after each comes from what matters before it, then a cluster that is
-- alike to it takes them too, and both end alike, unless the second refuses a step as `EntriesFull`
abbrev pub StepsLaw : Type 0
StepsLaw =
    (t end : Cares) (c d e : Cluster) (ks : List Kept) → ClusterAlike t c d → Follows c t ks end → then_runs (Ok c) ks ≡ Ok e →
    then_runs (Ok d) ks ≢ Err EntriesFull → (f : Cluster) × (then_runs (Ok d) ks ≡ Ok f) × ClusterAlike end e f
