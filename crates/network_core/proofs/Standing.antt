-- A beginning that will do for another.
use Rattle.std.proofs.Common.{◌≡◌, ◌≢◌, ℕ, ◌≤◌, List, ◌++◌, length, Ok, Err, sym, ap, ◌∙◌, subst, arith}
use Rattle.std.proofs.lemmas.List.Elements.{filter-append}
use Rattle.replica_core.specs.declared.node_limits.NodeLimits.{NodeLimits}
use Rattle.journal_core.specs.Journals.{Kept}
use Rattle.bench_core.specs.declared.fault.Fault.TheVariants.{EntriesFull}
use Rattle.bench_core.specs.Clusters.{Cluster, opening_of}
use Rattle.bench_core.specs.Runs.{runs, then_runs}
use Rattle.bench_core.proofs.Runs.{runs_append}
use Rattle.network_core.specs.Alike.{Cares, ClusterAlike}
use Rattle.network_core.specs.Cones.{Cone, LeaveSame, StandsLaw, cares}
use Rattle.network_core.specs.NetworkRuns.{IsNetworkRun, deliveries, is_ordered, ordered}
use Rattle.network_core.specs.Room.{made}
use Rattle.network_core.proofs.Clusters.{steps_hold}
use Rattle.network_core.proofs.Cones.{follows}
use Rattle.network_core.proofs.Counts.{count_append, delivered_append}
use Rattle.network_core.proofs.NeverFull.{never_full_holds}
use Rattle.network_core.proofs.SameMade.{same_made}

-- at the end of a run of the network the same matters as at the end of the recorded one
pub ended : (j w : List Kept) (t : Cone) → ((n : ℕ) → ordered w n ≡ ordered j n) → cares t w ≡ cares t j
ended j w t own = λ i. record { at = λ n. t.at n (length (own n i)); of = t.of }

-- what goes on from a cluster
pub runs_on : (l : NodeLimits) (count : ℕ) (first rest : List Kept) (c : Cluster) → runs l count first ≡ Ok c → runs l count (first ++ rest) ≡ then_runs (Ok c) rest
runs_on l count first rest c ran = runs_append (Ok (opening_of l count)) first rest ∙ ap (λ r. then_runs r rest) ran

-- a run of the network fills no node
pub has_room : (l : NodeLimits) (count : ℕ) (j first rest : List Kept) (c : Cluster) → made (first ++ rest) ≤ l.entries → runs l count first ≡ Ok c →
    then_runs (Ok c) rest ≢ Err EntriesFull
has_room l count j first rest c room ran full = never_full_holds l count (first ++ rest) room (runs_on l count first rest c ran ∙ full)

pub few : (l : NodeLimits) (j r : List Kept) → made j ≤ l.entries → ((n : ℕ) → ordered r n ≡ ordered j n) → made r ≤ l.entries
few l j r room own = let same = same_made j r own in omega (arith, same, room)

module _ (j : List Kept) (lost again : ℕ) (first other rest : List Kept) (s : LeaveSame first other) (r : IsNetworkRun j lost again (first ++ rest)) where
  pub still_run : IsNetworkRun j lost again (other ++ rest)
  still_run = record {
    own = λ n. filter-append (is_ordered n) other rest ∙ ap (λ (ks : List Kept). ks ++ ordered rest n) (s.own n) ∙ sym (filter-append (is_ordered n) first rest) ∙ r.own n;
    missing = r.missing;
    repeated = r.repeated;
    once = r.once;
    few_missing = r.few_missing;
    few_repeated = r.few_repeated;
    of_these = r.of_these;
    delivered = λ p.
        (let one = count_append p (deliveries (other ++ rest)) r.missing in
        let two = count_append p (deliveries (first ++ rest)) r.missing in
        let here = delivered_append p other rest in
        let there = delivered_append p first rest in
        let same = s.delivered p in
        let all = r.delivered p in
        omega (arith, one, two, here, there, same, all));
  }

pub stands_holds : StandsLaw
stands_holds l count j lost again t first other old new c cone room ran ran_other left alike g =
    let is_run = still_run j lost again first other g.rest left g.is_run in
    let s = steps_hold (cares t first) (cares t (first ++ g.rest)) old new c g.rest alike (follows l count j lost again t cone first g.rest old g.is_run ran)
    (sym (runs_on l count first g.rest old ran) ∙ g.ends)
    (has_room l count j other g.rest new (few l j (other ++ g.rest) room is_run.own) ran_other) in
    record {
      end = s.0;
      alike = subst (λ (u : Cares). ClusterAlike u c s.0) (ended j (first ++ g.rest) t g.is_run.own) s.2;
      goes = record { rest = g.rest; is_run = is_run; ends = runs_on l count other g.rest new ran_other ∙ s.1 };
    }
