-- A path that is played.
use Rattle.std.proofs.Common.{◌≡◌, ℕ, ◌+◌, ◌≤◌, List, [], ◌∷◌, length, drop, slice_get, Option, Some, None, Result, Ok, Err, refl, sym, ap, ◌∙◌}
use Rattle.std.proofs.lemmas.List.{drop_all}
use Rattle.journal_core.specs.Journals.{Kept}
use Rattle.bench_core.specs.declared.fault.Fault.{Fault}
use Rattle.bench_core.specs.Clusters.{Cluster, step}
use Rattle.bench_core.specs.Runs.{then_runs}
use Rattle.order_core.proofs.Places.{from_on}
use Rattle.explore_network.specs.Walks.{steps_at, with_step}

-- a step, and those behind it
split : (o : Option Kept) (c end : Cluster) (ks : List Kept) → then_runs (Ok c) (with_step o ks) ≡ Ok end → (mid : Cluster) × ((then_runs (Ok c) (with_step o []) ≡ Ok mid) × (then_runs (Ok mid) ks ≡ Ok end))
split None c end ks run = (c, (refl, run))
split (Some k) c end ks run = go (step c k.node k.step) refl run
  where
    go : (r : Result Cluster Fault) → step c k.node k.step ≡ r → then_runs r ks ≡ Ok end → (mid : Cluster) × ((then_runs (step c k.node k.step) [] ≡ Ok mid) × (then_runs (Ok mid) ks ≡ Ok end))
    go (Ok mid) is h = (mid, (ap (λ r. then_runs r []) is, h))
    go (Err e) is h = absurd (none ks h)
      where
        none : (ks : List Kept) → then_runs (Err e) ks ≡ Ok end → ⊥
        none [] h = cc
        none (k ∷ ks) h = cc

pub played_more : (steps : List Kept) (path : List ℕ) (turn place : ℕ) (c later end : Cluster) → slice_get path turn ≡ Some place →
    ((d : Cluster) → then_runs (Ok c) (with_step (slice_get steps place) []) ≡ Ok d → later ≡ d) → then_runs (Ok c) (steps_at steps (drop turn path)) ≡ Ok end →
    then_runs (Ok later) (steps_at steps (drop (turn + 1) path)) ≡ Ok end
played_more steps path turn place c later end at plays run =
    let s = split (slice_get steps place) c end (steps_at steps (drop (turn + 1) path)) (ap (λ l. then_runs (Ok c) (steps_at steps l)) (sym (from_on path turn place at)) ∙ run) in
    ap (λ (d : Cluster). then_runs (Ok d) (steps_at steps (drop (turn + 1) path))) (plays s.0 s.1.0) ∙ s.1.1

pub played_all : (steps : List Kept) (path : List ℕ) (turn : ℕ) (c end : Cluster) → length path ≤ turn → then_runs (Ok c) (steps_at steps (drop turn path)) ≡ Ok end → c ≡ end
played_all steps path turn c end le run = let h : Ok c ≡ Ok end = ap (λ l. then_runs (Ok c) (steps_at steps l)) (sym (drop_all turn path le)) ∙ run in cc

-- a step that is played, and one that is refused

pub plays : (steps : List Kept) (place : ℕ) (k : Kept) (c d end : Cluster) → slice_get steps place ≡ Some k → step c k.node k.step ≡ Ok d → then_runs (Ok c) (with_step (slice_get steps place) []) ≡ Ok end → d ≡ end
plays steps place k c d end at took run =
    let both : Ok d ≡ Ok end = sym (ap (λ o. then_runs (Ok c) (with_step o [])) at ∙ ap (λ r. then_runs r []) took) ∙ run in cc

pub plays_not : (steps : List Kept) (place : ℕ) (k : Kept) (c end : Cluster) (f : Fault) → slice_get steps place ≡ Some k → step c k.node k.step ≡ Err f → then_runs (Ok c) (with_step (slice_get steps place) []) ≡ Ok end → ⊥
plays_not steps place k c end f at refused run =
    let both : Err f ≡ Ok end = sym (ap (λ o. then_runs (Ok c) (with_step o [])) at ∙ ap (λ r. then_runs r []) refused) ∙ run in cc
