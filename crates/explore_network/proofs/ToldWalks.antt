-- What a plan leaves out makes no difference, to whatever is asked: it is a walk in the sense of the laws.
use Rattle.std.proofs.Common.{◌≡◌, ℕ, suc, ◌+◌, ◌<◌, ◌==◌, ◌&&◌, ◌||◌, not, Bool, true, false, List, [], ◌∷◌, ◌++◌, length, length-append, take, slice_get, Option, Some, None, refl, sym, ap, ◌∙◌, arith}
use Rattle.std.proofs.lemmas.Bool.{eq-eqb, eqb-true}
use Rattle.std.proofs.lemmas.Option.{slice_get_within}
use Rattle.std.specs.List.{AllByRecursion, list_any}
use Rattle.std.specs.FinSet as set
use Rattle.dots_core.specs.declared.dot.Dot.{Dot}
use Rattle.replica_core.specs.Replicas.{Replica}
use Rattle.node_core.specs.Nodes.{Node}
use Rattle.journal_core.specs.Journals.{Kept, sent_by}
use Rattle.bench_core.specs.Clusters.{Cluster, opening_of}
use Rattle.bench_core.proofs.OneEntry.{fine_run}
use Rattle.bench_core.proofs.Openings.{opening_length}
use Rattle.network_core.specs.Alike.{is_compared, BothAre, ClusterAlike, NodeAlike, ReplicaAlike}
use Rattle.network_core.specs.Cones.{cares, position, says, sends_in, IsCone}
use Rattle.network_core.specs.Made.{WantsMade}
use Rattle.network_core.specs.NetworkRuns.{is_delivery, is_ordered, ordered}
use Rattle.network_core.specs.Seen.{WantsSeen}
use Rattle.network_core.specs.Settling.{IsEnd, IsWalk}
use Rattle.network_core.proofs.Cones.{sent_count}
use Rattle.network_core.proofs.Made.{wanted_holds}
use Rattle.network_core.proofs.OnlineRows.{online_rows_hold}
use Rattle.network_core.proofs.Keys.{keeps_length}
use Rattle.network_core.proofs.Rows.{rows_hold}
use Rattle.network_core.proofs.Seen.{same_replica_holds}
use Rattle.change_core.specs.Questions.{rows_in}
use Rattle.explore_network.specs.Plans.{cone_of, walk_of, IsPlan, Plan, Wants}
use Rattle.explore_network.specs.Questions.{node_of, replicas_in, shown, OfCluster, OfNode, OfPresence, Question, Replicas, Rows}
use Rattle.explore_network.specs.SameShown.{same_shown}
use Rattle.network_rules.specs.Tables.{asks, carried, is_wanted, matter, KeepsAt}
use Rattle.explore_network.specs.Walks.{told_by, Outcome}
use Rattle.explore_network.proofs.Nth.{nth, parted, same_parts}
use Rattle.explore_network.proofs.Ranked.{ranked, Ranked}
use Rattle.explore_network.proofs.SameKeys.{flip, no_delivery}
use Rattle.explore_network.proofs.SameShown.{all_replicas}
use Rattle.network_rules.proofs.Tests.{both_true}
use Rattle.explore_network.proofs.TurnKinds.{of_turn, own_count}

pub all_places : {X : Type 0} (P : X → Type 0) (xs : List X) → ((i : ℕ) (x : X) → slice_get xs i ≡ Some x → P x) → AllByRecursion P xs
all_places P [] each = tt
all_places P (x ∷ xs) each = (each 0 x refl, all_places P xs (λ i y at. each (suc i) y at))

and_true : (a b : Bool) → a ≡ true → b ≡ true → (a && b) ≡ true
and_true a b h g = ap (λ c. c && b) h ∙ g

or_right : (a b : Bool) → b ≡ true → (a || b) ≡ true
or_right true b h = refl
or_right false b h = h

module _ (p : Plan) (q : Question) (plan : IsPlan p q) where
  keeps : (place : ℕ) (k : Kept) → slice_get p.steps place ≡ Some k → (r : Ranked p place k) → KeepsAt p.tables k r.rank
  keeps place k here r = plan.closed.keeps place k r.rank here r.at

  pub is_cone : IsCone p.steps (cone_of p.tables)
  is_cone = record {
    before = λ n i d h.
        (let one = both_true (is_wanted p.tables.dots d) _ h in
        let two = both_true (set.contains (matter p.tables n (suc i)) d.name) (not (d.name == n)) one.1 in
        and_true (is_wanted p.tables.dots d) _ one.0 (and_true (set.contains (matter p.tables n i) d.name) _ (plan.closed.falls n i d.name two.0) two.1));
    read = all_places _ p.steps (λ place k here sender number is d h.
        (let one = both_true (is_wanted p.tables.dots d) _ h in
        let two = both_true (set.contains (matter p.tables k.node 0) d.name) (not (d.name == k.node)) one.1 in
        and_true (is_wanted p.tables.dots d) _ one.0 ((keeps place k here (ranked p q plan place k here)).read sender number is d.name two.0)));
    sent = sent;
  }
    where
      sent : (n : ℕ) (first rest : List Kept) (k : Kept) → ordered p.steps n ≡ first ++ k ∷ rest → (d : Dot) → (cone_of p.tables).of n (sends_in first + 1) d ≡ true →
          says k.step d.name ≡ true → is_compared ((cone_of p.tables).at n (length first)) n d ≡ true
      sent n first rest k whole d of said =
          let f = nth (is_ordered n) p.steps (length first) (let long = ap length whole ∙ length-append first (k ∷ rest) in omega (arith, long)) in
          let parts = parted (is_ordered n) p.steps f.place f.step f.at f.is in
          let eq = same_parts (ordered (take f.place p.steps) n) first (f.step ∷ parts.0) (k ∷ rest) (sym parts.1 ∙ whole) f.before in
          let both = eq.rest in
          let step : f.step ≡ k = cc in
          let r = ranked p q plan f.place f.step f.at in
          let mine = both_true (f.step.node == n) (not (is_delivery f.step.step)) f.is in
          let node : f.step.node ≡ n = eqb-true f.step.node n mine.0 in
          let turn = of_turn r.turn f.step r.is in
          let own = turn.1 ∙ no_delivery f.step.step (flip (is_delivery f.step.step) mine.1) in
          let number : r.rank.number ≡ sends_in first + 1 =
          (let long = ap (λ n. length (sent_by (take f.place p.steps) n)) node ∙ sent_count (take f.place p.steps) n ∙ ap sends_in eq.first in let is = r.number in omega (arith, long, is)) in
          let before : r.rank.before ≡ length first =
          r.before ∙ own_count r.turn (take f.place p.steps) own ∙ ap (λ n. length (ordered (take f.place p.steps) n)) (sym turn.0 ∙ node) ∙ ap length eq.first in
          let wanted = both_true (is_wanted p.tables.dots d) (set.contains (carried p.tables n (sends_in first + 1)) d.name) of in
          let has : set.contains (matter p.tables n (length first)) d.name ≡ true =
          (λ i. set.contains (matter p.tables (sym node i) (sym before i)) d.name)
          ∙ (keeps f.place f.step f.at r).sent (flip (is_delivery f.step.step) mine.1) d.name ((λ i. set.contains (carried p.tables (node i) (number i)) d.name) ∙ wanted.1)
          (ap (λ (k : Kept). says k.step d.name) step ∙ said) in
          go (d.name == n) wanted.0 has
        where
          go : (b : Bool) → is_wanted p.tables.dots d ≡ true → set.contains (matter p.tables n (length first)) d.name ≡ true →
              ((is_wanted p.tables.dots d && (set.contains (matter p.tables n (length first)) d.name && not b)) || b) ≡ true
          go true wanted has = or_right (is_wanted p.tables.dots d && (set.contains (matter p.tables n (length first)) d.name && false)) true refl
          go false wanted has = λ i. (wanted i && (has i && true)) || false

  -- at a node that it is asked of, the dots that are asked for matter at the end, and its own
  module _ (n : ℕ) (lt : n < p.count) (asked_there : asks (node_of q) n ≡ true) where
    abbrev asked : Dot → Bool
    asked = is_compared ((cares (cone_of p.tables) p.steps).at n) n

    covers : (d : Dot) → is_wanted p.tables.dots d ≡ true → asked d ≡ true
    covers d wanted = go (d.name == n) wanted
      where
        go : (b : Bool) → is_wanted p.tables.dots d ≡ true →
            ((is_wanted p.tables.dots d && (set.contains (matter p.tables n (position p.steps n)) d.name && not b)) || b) ≡ true
        go true wanted = or_right (is_wanted p.tables.dots d && (set.contains (matter p.tables n (position p.steps n)) d.name && false)) true refl
        go false wanted = λ i. (wanted i && (plan.asked n lt asked_there d wanted i && true)) || false

  module _ (told : Cluster → Bool) (c d : Cluster) (one : IsEnd (walk_of p told) c) (two : IsEnd (walk_of p told) d) (alike : ClusterAlike (cares (cone_of p.tables) p.steps) c d) where
    within : (n : ℕ) (x : Node) → slice_get c n ≡ Some x → n < p.count
    within n x at =
        let lt = slice_get_within c n x at in
        let long : length c ≡ p.count = keeps_length (opening_of p.limits p.count) c one.run one.ends ∙ opening_length p.limits p.count in
        omega (arith, lt, long)

    module _ (n : ℕ) (asked_there : asks (node_of q) n ≡ true) where
      same_asked : (lt : n < p.count) (own : ℕ) (e : Dot) → own ≡ n → is_compared (asked n lt asked_there) own e ≡ true → is_compared ((cares (cone_of p.tables) p.steps).at n) own e ≡ true
      same_asked lt own e is h =
          ap (λ o. is_compared ((cares (cone_of p.tables) p.steps).at n) o e) is
          ∙ go ((cares (cone_of p.tables) p.steps).at n e) (e.name == n) (sym (ap (λ o. is_compared (asked n lt asked_there) o e) is) ∙ h)
        where
          go : (a b : Bool) → ((a || b) || b) ≡ true → (a || b) ≡ true
          go true b h = refl
          go false true h = refl
          go false false h = h

      -- the replicas there are the same as far as those go
      wider : (x y : Node) (at : slice_get c n ≡ Some x) → NodeAlike ((cares (cone_of p.tables) p.steps).at n) ((cares (cone_of p.tables) p.steps).of n) x y →
          ReplicaAlike (asked n (within n x at) asked_there) x.replica y.replica
      wider x y at b =
          let own : x.replica.own ≡ n = ((fine_run p.limits p.count one.run c one.ends).each n x at).own in
          record {
            store = b.replica.store;
            is = b.replica.is;
            alike = record {
              seen = λ e h. b.replica.alike.seen e (same_asked (within n x at) x.replica.own e own h);
              entries = λ e h. b.replica.alike.entries e (same_asked (within n x at) x.replica.own e own h);
            };
          }

      both_rows : (topic key : List ℕ) → WantsMade p.limits p.steps (is_wanted p.tables.dots) topic key → (o u : Option Node) → slice_get c n ≡ o → slice_get d n ≡ u →
          BothAre (NodeAlike ((cares (cone_of p.tables) p.steps).at n) ((cares (cone_of p.tables) p.steps).of n)) o u → rows_in topic key o ≡ rows_in topic key u
      both_rows topic key wants None None at too b = refl
      both_rows topic key wants None (Some y) at too b = absurd b
      both_rows topic key wants (Some x) None at too b = absurd b
      both_rows topic key wants (Some x) (Some y) at too b =
          let lt = within n x at in
          let all : WantsMade p.limits p.steps (asked n lt asked_there) topic key = λ e made is of. covers n lt asked_there e (wants e made is of) in
          online_rows_hold topic key x.replica y.replica
          (rows_hold (asked n lt asked_there) topic key x.replica y.replica (wider x y at b)
          (wanted_holds p.limits p.count p.steps one.run p.lost p.again n (asked n lt asked_there) topic key c x all one.is_run one.ends at)
          (wanted_holds p.limits p.count p.steps two.run p.lost p.again n (asked n lt asked_there) topic key d y all two.is_run two.ends too))

      both_replicas : WantsSeen p.limits p.steps p.count (is_wanted p.tables.dots) → (o u : Option Node) → slice_get c n ≡ o → slice_get d n ≡ u →
          BothAre (NodeAlike ((cares (cone_of p.tables) p.steps).at n) ((cares (cone_of p.tables) p.steps).of n)) o u → replicas_in o ≡ replicas_in u
      both_replicas wants None None at too b = refl
      both_replicas wants None (Some y) at too b = absurd b
      both_replicas wants (Some x) None at too b = absurd b
      both_replicas wants (Some x) (Some y) at too b =
          let lt = within n x at in
          ap (λ (r : Replica). r ∷ []) (sym (same_replica_holds p.limits p.count p.steps one.run two.run p.lost p.again n (asked n lt asked_there) c d x y
          (λ e given. covers n lt asked_there e (wants e given)) one.is_run two.is_run one.ends two.ends at too (wider x y at b)))

    shows_same : (r : Question) → q ≡ r → Wants p.limits p.steps p.count (is_wanted p.tables.dots) r → shown r c ≡ shown r d
    unfolding shown
    shows_same OfCluster is wants =
        ap Replicas (all_replicas c d (λ n. both_replicas n (ap (λ q. asks (node_of q) n) is) wants (slice_get c n) (slice_get d n) refl refl (alike.each n)))
    shows_same (OfNode n) is wants =
        ap Replicas (both_replicas n (ap (λ q. asks (node_of q) n) is ∙ eq-eqb n n refl) wants (slice_get c n) (slice_get d n) refl refl (alike.each n))
    shows_same (OfPresence n topic key) is wants =
        ap Rows (both_rows n (ap (λ q. asks (node_of q) n) is ∙ eq-eqb n n refl) topic key wants (slice_get c n) (slice_get d n) refl refl (alike.each n))

    pub same_at : shown q c ≡ shown q d
    same_at = shows_same q refl plan.wants

  pub is_walk : (os : List Outcome) → IsWalk (walk_of p (told_by q os))
  is_walk os = record {
    room = plan.room;
    cone = is_cone;
    told = λ c d one two alike h. ap (λ s. list_any (λ (o : Outcome). same_shown (shown q o.cluster) s) os) (same_at (told_by q os) c d one two alike) ∙ h;
  }
