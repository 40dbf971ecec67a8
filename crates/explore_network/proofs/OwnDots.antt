-- The dots of their own that the nodes have seen at the end are all that a run of the network can see.
use Rattle.std.proofs.Common.{◌≡◌, ◌⊎◌, inl, inr, ℕ, zero, suc, ◌+◌, ◌<◌, ◌≤◌, ◌&&◌, ◌||◌, Bool, true, false, List, [], ◌∷◌, ◌++◌, length, get_or, slice_get, Option, Some, None, Ok, refl, sym, ap, ◌∙◌, subst, arith, true≢false}
use Rattle.std.proofs.lemmas.Bool.{cases_eq, eq-eqb}
use Rattle.std.proofs.lemmas.Option.{slice_get_cases}
use Rattle.std.specs.List.{AllByRecursion}
use Rattle.dots_core.specs.declared.dot.Dot.{Dot}
use Rattle.dots_core.specs.Dots.{dot}
use Rattle.replica_core.specs.declared.node_limits.NodeLimits.{NodeLimits}
use Rattle.replica_core.specs.Replicas.{last, opening, own_clock}
use Rattle.node_core.specs.Nodes.{Node}
use Rattle.journal_core.specs.Journals.{Kept}
use Rattle.bench_core.specs.Clusters.{Cluster, opening_of}
use Rattle.bench_core.specs.Runs.{runs}
use Rattle.bench_core.proofs.OneEntry.{fine_run}
use Rattle.bench_core.proofs.Openings.{opening_length}
use Rattle.network_core.specs.Made.{own_from}
use Rattle.network_core.specs.NetworkRuns.{ordered}
use Rattle.network_core.specs.Seen.{WantsSeen}
use Rattle.network_core.proofs.Keys.{keeps_length}
use Rattle.network_core.proofs.Made.{fresh_holds}
use Rattle.explore_network.specs.Asked.{dots_up_to, own_of, own_of_all, AreAsked}
use Rattle.explore_network.specs.Questions.{OfCluster, OfNode}
use Rattle.network_rules.specs.Tables.{is_wanted, same_dot}
use Rattle.explore_network.proofs.AllTurns.{all_append}

pub wanted_first : (ds more : List Dot) (e : Dot) → is_wanted ds e ≡ true → is_wanted (ds ++ more) e ≡ true
wanted_first [] more e h = absurd (true≢false (sym h))
wanted_first (d ∷ ds) more e h = go (same_dot d e) h (λ h. wanted_first ds more e h)
  where
    go : (b : Bool) → (b || is_wanted ds e) ≡ true → (is_wanted ds e ≡ true → is_wanted (ds ++ more) e ≡ true) → (b || is_wanted (ds ++ more) e) ≡ true
    go true h rest = refl
    go false h rest = rest h

wanted_second : (ds more : List Dot) (e : Dot) → is_wanted more e ≡ true → is_wanted (ds ++ more) e ≡ true
wanted_second [] more e h = h
wanted_second (d ∷ ds) more e h = go (same_dot d e) (wanted_second ds more e h)
  where
    go : (b : Bool) → is_wanted (ds ++ more) e ≡ true → (b || is_wanted (ds ++ more) e) ≡ true
    go true h = refl
    go false h = h

pub wanted_last : (ds : List Dot) (e : Dot) → is_wanted (ds ++ e ∷ []) e ≡ true
wanted_last ds e = wanted_second ds (e ∷ []) e (λ i. (eq-eqb e.name e.name refl i && eq-eqb e.clock e.clock refl i) || false)

-- a dot of the name, up to the clock
wanted_up_to : (name n : ℕ) (e : Dot) → e.name ≡ name → 1 ≤ e.clock → e.clock ≤ n → is_wanted (dots_up_to name n) e ≡ true
wanted_up_to name zero e is least most = absurd (omega (arith, least, most))
wanted_up_to name (suc n) e is least most = go (cases_eq e.clock (suc n)) (λ less. wanted_up_to name n e is least less)
  where
    go : (e.clock ≡ suc n) ⊎ (e.clock ≡ suc n → ⊥) → (e.clock ≤ n → is_wanted (dots_up_to name n) e ≡ true) → is_wanted (dots_up_to name (suc n)) e ≡ true
    go (inl last) rest =
        let same : e ≡ dot name (suc n) = λ i. record { name = is i; clock = last i } in
        subst (λ (x : Dot). is_wanted (dots_up_to name n ++ x ∷ []) e ≡ true) same (wanted_last (dots_up_to name n) e)
    go (inr other) rest = wanted_first (dots_up_to name n) (dot name (suc n) ∷ []) e (rest (omega (arith, most, other)))

-- of a node among so many
wanted_of_all : (c : Cluster) (count n : ℕ) (x : Node) (e : Dot) → n < count → slice_get c n ≡ Some x → is_wanted (own_of (Some x)) e ≡ true → is_wanted (own_of_all c count) e ≡ true
unfolding own_of_all
wanted_of_all c zero n x e lt at h = absurd (omega (arith, lt))
wanted_of_all c (suc count) n x e lt at h = go (cases_eq n count) (λ less. wanted_of_all c count n x e less at h)
  where
    go : (n ≡ count) ⊎ (n ≡ count → ⊥) → (n < count → is_wanted (own_of_all c count) e ≡ true) → is_wanted (own_of_all c count ++ own_of (slice_get c count)) e ≡ true
    go (inl last) rest =
        wanted_second (own_of_all c count) (own_of (slice_get c count)) e (ap (λ o. is_wanted (own_of o) e) (ap (slice_get c) (sym last) ∙ at) ∙ h)
    go (inr other) rest = wanted_first (own_of_all c count) (own_of (slice_get c count)) e (rest (omega (arith, lt, other)))

pub wants_all : (l : NodeLimits) (count : ℕ) (steps : List Kept) (end : Cluster) → runs l count steps ≡ Ok end → WantsSeen l steps count (is_wanted (own_of_all end count))
wants_all l count steps end run e given =
    let lt = given.node in
    let long : length end ≡ count = keeps_length (opening_of l count) end steps run ∙ opening_length l count in
    there (slice_get end e.name) refl (omega (arith, lt, long))
  where
    there : (o : Option Node) → slice_get end e.name ≡ o → e.name < length end → is_wanted (own_of_all end count) e ≡ true
    there None is within = absurd (missing (slice_get_cases end e.name).1)
      where
        missing : ((x : Node) × (e.name < length end) × (slice_get end e.name ≡ Some x) × (get_or end e.name x ≡ x)) ⊎ ((length end ≤ e.name) × (slice_get end e.name ≡ None)) → ⊥
        missing (inl there) = let at = there.2 in let none = is in cc
        missing (inr past) = let le = past.0 in omega (arith, le, within)
    there (Some x) is within =
        let fresh = fresh_holds l count steps end e.name x run is in
        let clock : own_clock x.replica + 1 ≡ own_clock (own_from (opening e.name l) (ordered steps e.name)) + 1 = ap (λ (d : Dot). d.clock) fresh in
        let most = given.most in
        wanted_of_all end count e.name x e given.node is
        (wanted_up_to x.replica.own (own_clock x.replica) e (sym ((fine_run l count steps end run).each e.name x is).own) given.least (omega (arith, clock, most)))

-- dots of a name that is one of 32
pub up_to_names : (name n : ℕ) → name < 32 → AllByRecursion (λ (d : Dot). d.name < 32) (dots_up_to name n)
up_to_names name zero lt = tt
up_to_names name (suc n) lt = all_append (λ (d : Dot). d.name < 32) (dots_up_to name n) (dot name (suc n) ∷ []) (up_to_names name n lt) (lt, tt)

-- so they are what is asked for
module _ (l : NodeLimits) (count : ℕ) (steps : List Kept) (dots : List Dot) (names : AllByRecursion (λ (d : Dot). d.name < 32) dots)
    (own : (end : Cluster) → runs l count steps ≡ Ok end → dots ≡ own_of_all end count) where
  wants_own : (end : Cluster) → runs l count steps ≡ Ok end → WantsSeen l steps count (is_wanted dots)
  wants_own end run = subst (λ (ds : List Dot). WantsSeen l steps count (is_wanted ds)) (sym (own end run)) (wants_all l count steps end run)

  pub asked_of_cluster : AreAsked l count steps OfCluster dots
  asked_of_cluster = record { names = names; wants = wants_own }

  pub asked_of_node : (n : ℕ) → AreAsked l count steps (OfNode n) dots
  asked_of_node n = record { names = names; wants = wants_own }
