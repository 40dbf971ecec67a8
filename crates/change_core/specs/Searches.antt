-- Runs whose ends are known, and runs that are played beside them, for the code's own use alone.
use Rattle.std.specs.Prelude.{◌≡◌, ℕ, Bool, true, false, List, length, Option, Some, Ok, option_map, refl}
use Rattle.std.specs.Coded.{Coded, code_by, coded×, coded_ℕ, coded_list}
use Rattle.journal_core.specs.Journals.{Kept}
use Rattle.diff_core.specs.Rows.{Row}
use Rattle.bench_core.specs.Clusters.{Cluster, opening_of}
use Rattle.bench_core.specs.Limits.{node_limits}
use Rattle.bench_core.specs.Machine.{Machine}
use Rattle.bench_core.specs.Runs.{then_runs}
use Rattle.change_core.specs.declared.change.Change.{Change}
use Rattle.change_core.specs.Ends.{reached, rows_after}
use Rattle.change_core.specs.Questions.{Question, rows_at}
use Rattle.change_core.specs.Walks.{steps_in, walk_code, IsWalk, IsWalkOf, Walk}

-- the places of a run's steps, and the rows at its end
pub record Known : Type 0 where
  pub places : List ℕ
  pub rows : List Row

-- two walks, and what is known of the recorded run and of the last run that was possible
pub record Search : Type 0 where
  pub here : Walk
  pub there : Walk
  pub recorded : Known
  pub last : Known

abbrev pub row_code : Coded Row
row_code =
    code_by (List ℕ × (List ℕ × (ℕ × (ℕ × (ℕ × List ℕ)))))
    (coded× (coded_list coded_ℕ) (coded× (coded_list coded_ℕ) (coded× coded_ℕ (coded× coded_ℕ (coded× coded_ℕ (coded_list coded_ℕ))))))
    (λ r. (r.topic, (r.key, (r.name, (r.pid, (r.clock, r.metadata))))))
    (λ p. record { topic = p.0; key = p.1.0; name = p.1.1.0; pid = p.1.1.1.0; clock = p.1.1.1.1.0; metadata = p.1.1.1.1.1 }) (λ _. refl)

abbrev pub known_code : Coded Known
known_code =
    code_by (List ℕ × List Row) (coded× (coded_list coded_ℕ) (coded_list row_code)) (λ k. (k.places, k.rows))
    (λ p. record { places = p.0; rows = p.1 }) (λ _. refl)

abbrev pub search_code : Coded Search
search_code =
    code_by (Walk × (Walk × (Known × Known))) (coded× walk_code (coded× walk_code (coded× known_code known_code)))
    (λ s. (s.here, (s.there, (s.recorded, s.last)))) (λ p. record { here = p.0; there = p.1.0; recorded = p.1.1.0; last = p.1.1.1 }) (λ _. refl)

-- where the steps at these places lead from a cluster, if each is accepted
abbrev pub end_from : List Kept → Cluster → List ℕ → Option Cluster
end_from ks first places = reached (then_runs (Ok first) (steps_in ks places))

-- the new walk is a walk from each first cluster that the old one is a walk from
abbrev pub Stays : List Kept → Walk → Walk → Type 0
Stays ks old new = (first : Cluster) → IsWalk ks first old → IsWalk ks first new

-- both walks stay walks from their first clusters; and if they met, the steps at these places lead from both old walks'
-- clusters to one end, or from neither to any
pub record MeetsOn (ks : List Kept) (places : List ℕ) (here here_new there there_new : Walk) (met : Bool) : Type 0 where
  pub here_stays : Stays ks here here_new
  pub there_stays : Stays ks there there_new
  pub alike : met ≡ true → end_from ks here.cluster places ≡ end_from ks there.cluster places

-- both walks stay walks from their first clusters; and if they met, the two runs have one end or neither has any, from
-- each first cluster that both old walks have
pub record Meets (ks : List Kept) (run known : List ℕ) (here here_new there there_new : Walk) (met : Bool) : Type 0 where
  pub here_stays : Stays ks here here_new
  pub there_stays : Stays ks there there_new
  pub alike : (first : Cluster) → IsWalk ks first here → IsWalk ks first there → met ≡ true → end_from ks first run ≡ end_from ks first known

abbrev pub known_of : Bool → Search → Known
known_of true s = s.last
known_of false s = s.recorded

-- both walks of the search are walks, each from some first cluster
pub record AreWalks (ks : List Kept) (s : Search) : Type 0 where
  pub here : IsWalkOf ks s.here
  pub there : IsWalkOf ks s.there

-- both walks stay walks from their first clusters, and the known runs stay as they are; if one of these was found, the
-- run has the same end as it, or neither has any, from each first cluster that both old walks have
pub record Finds (ks : List Kept) (run : List ℕ) (old new : Search) (found : Option Bool) : Type 0 where
  pub here_stays : Stays ks old.here new.here
  pub there_stays : Stays ks old.there new.there
  pub recorded : new.recorded ≡ old.recorded
  pub last : new.last ≡ old.last
  pub alike : (first : Cluster) → IsWalk ks first old.here → IsWalk ks first old.there → (is_last : Bool) → found ≡ Some is_last →
      end_from ks first run ≡ end_from ks first (known_of is_last old).places

-- the cluster of empty nodes
abbrev pub empty_of : Machine → Cluster
empty_of m = opening_of (node_limits m.limits) (length m.names)

-- each step of the known run is accepted, and its rows are those at the end of the run
abbrev pub IsKnown : Machine → Question → List Kept → Known → Type 0
IsKnown m q ks k = Some k.rows ≡ option_map (rows_at q) (end_from ks (empty_of m) k.places)

-- what each search on a bench with these steps keeps
pub record IsSearch (m : Machine) (q : Question) (ks : List Kept) (s : Search) : Type 0 where
  pub here : IsWalk ks (empty_of m) s.here
  pub there : IsWalk ks (empty_of m) s.there
  pub recorded : IsKnown m q ks s.recorded
  pub last : IsKnown m q ks s.last

-- the rows are those at the end of the run, if each of its steps is accepted; and the new search keeps what each search
-- keeps
pub record AreRowsOf (m : Machine) (q : Question) (ks : List Kept) (run : List ℕ) (new : Search) (rows : Option (List Row)) : Type 0 where
  pub shown : rows ≡ option_map (rows_at q) (end_from ks (empty_of m) run)
  pub search : IsSearch m q ks new

-- the rows are those after the change, if it is possible; and the new search keeps what each search keeps
pub record AreRowsAfter (m : Machine) (q : Question) (ks : List Kept) (c : Change) (new : Search) (rows : Option (List Row)) : Type 0 where
  pub shown : rows ≡ rows_after m q c
  pub search : IsSearch m q ks new
