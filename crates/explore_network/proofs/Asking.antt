-- The dots of presences that are asked for, one step further.
use Rattle.std.proofs.Common.{◌≡◌, ◌⊎◌, inl, inr, ℕ, ◌+◌, ◌≤◌, true, List, [], ◌∷◌, ◌++◌, cond, length, drop, take, slice_get, Some, Ok, sym, ap, ◌∙◌, subst}
use Rattle.dots_core.specs.declared.dot.Dot.{Dot}
use Rattle.payload_core.specs.Presences.{Presence}
use Rattle.replica_core.specs.declared.node_limits.NodeLimits.{NodeLimits}
use Rattle.journal_core.specs.Journals.{Kept}
use Rattle.bench_core.specs.Clusters.{Cluster, opening_of, step}
use Rattle.bench_core.specs.Runs.{runs, then_runs}
use Rattle.bench_core.proofs.Clusters.{stepped}
use Rattle.bench_core.proofs.Runs.{runs_append, run_one}
use Rattle.diff_core.specs.Rows.{row_of}
use Rattle.network_core.specs.Made.{IsMade, WantsMade}
use Rattle.network_core.specs.Rows.{is_row_of}
use Rattle.network_core.proofs.Made.{fresh_holds}
use Rattle.network_core.proofs.OwnParts.{known_more_run, made_cases, IsNewest}
use Rattle.order_core.proofs.Places.{from_on, up_to}
use Rattle.explore_network.specs.Asked.{asked_dots, fresh_of}
use Rattle.explore_network.specs.Explorations.{is_asked, is_asked_of}
use Rattle.network_rules.specs.Tables.{is_wanted}
use Rattle.explore_network.specs.Walks.{with_step}
use Rattle.explore_network.proofs.CountLoops.{all_taken}
use Rattle.explore_network.proofs.OwnDots.{wanted_first, wanted_last}

-- of the first steps of a run that leads to an end
pub record AskedSo (l : NodeLimits) (count : ℕ) (steps : List Kept) (place : ℕ) (topic key : List ℕ) (dots : List Dot) (cluster end : Cluster) : Type 0 where
  pub left : then_runs (Ok cluster) (drop place steps) ≡ Ok end
  pub ran : runs l count (take place steps) ≡ Ok cluster
  pub wants : WantsMade l (take place steps) (is_wanted dots) topic key

pub asked_first : (l : NodeLimits) (count : ℕ) (steps : List Kept) (topic key : List ℕ) (dots : List Dot) (cluster end : Cluster) → cluster ≡ opening_of l count → runs l count steps ≡ Ok end →
    AskedSo l count steps 0 topic key dots cluster end
asked_first l count steps topic key dots cluster end is run = record {
  left = ap (λ (c : Cluster). then_runs (Ok c) steps) is ∙ run;
  ran = ap Ok (sym is);
  wants = λ d p m of. absurd (no_parts m.k m.after m.before m.parted);
}
  where
    no_parts : (k : Kept) (after before : List Kept) → [] ≡ before ++ k ∷ after → ⊥
    no_parts k after [] e = cc
    no_parts k after (b ∷ bs) e = cc

pub asked_more : (l : NodeLimits) (count : ℕ) (steps : List Kept) (place : ℕ) (topic key : List ℕ) (dots new : List Dot) (cluster later end : Cluster) (k : Kept) → slice_get steps place ≡ Some k →
    new ≡ dots ++ asked_dots topic key k (slice_get cluster k.node) → ((c : Cluster) → then_runs (Ok cluster) (with_step (slice_get steps place) []) ≡ Ok c → later ≡ c) → AskedSo l count steps place topic key dots cluster end →
    AskedSo l count steps (place + 1) topic key new later end
asked_more l count steps place topic key dots new cluster later end k at more plays a = record {
  left = ap (λ (c : Cluster). then_runs (Ok c) (drop (place + 1) steps)) same ∙ one.2;
  ran = ran_on ∙ ap Ok (sym same);
  wants = λ e p m of. wanted e p of (made_cases l count (take place steps) k cluster one.0 a.ran one.1 (stepped cluster k.node k.step one.0 one.1) (known_more_run l count (take place steps) cluster a.ran) e p
      (subst (λ (ks : List Kept). IsMade l ks e p) (up_to steps place k at) m));
}
  where
    one : (d : Cluster) × (step cluster k.node k.step ≡ Ok d) × (then_runs (Ok d) (drop (place + 1) steps) ≡ Ok end)
    one = run_one cluster end k (drop (place + 1) steps) (ap (then_runs (Ok cluster)) (sym (from_on steps place k at)) ∙ a.left)

    same : later ≡ one.0
    same = plays one.0 (ap (λ o. then_runs (Ok cluster) (with_step o [])) at ∙ ap (λ r. then_runs r []) one.1)

    ran_on : runs l count (take (place + 1) steps) ≡ Ok one.0
    ran_on = ap (runs l count) (up_to steps place k at) ∙ runs_append (Ok (opening_of l count)) (take place steps) (k ∷ []) ∙ ap (λ r. then_runs r (k ∷ [])) a.ran ∙ ap (λ r. then_runs r []) one.1

    wanted : (e : Dot) (p : Presence) → is_row_of topic key (row_of (e, p)) ≡ true →
        IsMade l (take place steps) e p ⊎ IsNewest l count (take place steps) k cluster one.0 a.ran one.1 (stepped cluster k.node k.step one.0 one.1) (known_more_run l count (take place steps) cluster a.ran) e p →
        is_wanted new e ≡ true
    wanted e p of (inl old) = ap (λ ds. is_wanted ds e) more ∙ wanted_first dots (asked_dots topic key k (slice_get cluster k.node)) e (a.wants e p old of)
    wanted e p of (inr newest) =
        let st = stepped cluster k.node k.step one.0 one.1 in
        let asked : is_asked topic key k.step ≡ true = ap (is_asked_of topic key) newest.1 ∙ of in
        let here : asked_dots topic key k (slice_get cluster k.node) ≡ e ∷ [] =
        ap (λ b. cond b (fresh_of (slice_get cluster k.node)) []) asked ∙ ap fresh_of st.at ∙ ap (λ d. d ∷ []) (fresh_holds l count (take place steps) cluster k.node st.from a.ran st.at ∙ sym newest.0) in
        ap (λ ds. is_wanted ds e) (more ∙ ap (λ l. dots ++ l) here) ∙ wanted_last dots e

pub all_asked : (l : NodeLimits) (count : ℕ) (steps : List Kept) (place : ℕ) (topic key : List ℕ) (dots : List Dot) (cluster end : Cluster) → length steps ≤ place → AskedSo l count steps place topic key dots cluster end →
    WantsMade l steps (is_wanted dots) topic key
all_asked l count steps place topic key dots cluster end le a = subst (λ (ks : List Kept). WantsMade l ks (is_wanted dots) topic key) (all_taken steps place le) a.wants
