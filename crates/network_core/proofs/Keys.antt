-- Clusters in which the dots that matter stand alike are alike, where each node took the same steps.
use Rattle.std.proofs.Common.{◌≡◌, ◌⊎◌, inl, inr, ℕ, zero, suc, ◌<◌, ◌==◌, Bool, true, false, if◌then◌else◌, List, [], ◌∷◌, length, length-set, slice_get, is_some, Option, Some, None, Ok, refl, sym, ap, ◌∙◌, subst, arith}
use Rattle.std.proofs.lemmas.Option.{slice_get_within, slice_get-get_or}
use Rattle.std.specs.FinSet as set
use Rattle.std.specs.FinMap as fin
use Rattle.dots_core.specs.declared.dot.Dot.{Dot}
use Rattle.payload_core.specs.Messages.{Message, AreSeen}
use Rattle.payload_core.specs.Presences.{Presence}
use Rattle.store_core.specs.Stores.{Store, standing, store_of}
use Rattle.replica_core.specs.declared.node_limits.NodeLimits.{NodeLimits}
use Rattle.replica_core.specs.Replicas.{Replica, opening}
use Rattle.node_core.specs.Nodes.{Node}
use Rattle.journal_core.specs.Journals.{Kept}
use Rattle.bench_core.specs.Clusters.{Cluster, opening_of}
use Rattle.bench_core.specs.Runs.{runs, then_runs}
use Rattle.bench_core.proofs.Clusters.{stepped}
use Rattle.bench_core.proofs.OneEntry.{Fine, fine_run}
use Rattle.bench_core.proofs.Runs.{run_one}
use Rattle.network_core.specs.Alike.{BothAre, Cares, ClusterAlike, MessageAlike, NodeAlike, ReplicaAlike, SentAlike, is_compared}
use Rattle.network_core.specs.Keys.{StandAlike, StandAlikeLaw, own_sent, sent_of}
use Rattle.network_core.specs.Made.{IsMade, own_from}
use Rattle.network_core.specs.NetworkRuns.{ordered}
use Rattle.network_core.proofs.AlikeClusters.{replica_sym}
use Rattle.network_core.proofs.Made.{known_run, made_too, nothing, own_part}
use Rattle.network_core.proofs.OwnParts.{AreSentSo, IsSentSo, known_more_run}
use Rattle.network_core.proofs.Stores.{message_same, or_cases, replica_then}

-- how a dot stands tells whether it was seen and has an entry, and a dot has one entry

record SameAt (s t : Store) (q : Dot) : Type 0 where
  seen : set.contains t.seen q ≡ set.contains s.seen q
  entries : fin.get t.entries q ≡ fin.get s.entries q

module _ (s t : Store) (q : Dot) (live : AreSeen s.seen s.entries) (live_too : AreSeen t.seen t.entries)
    (one : (p o : Presence) → fin.get s.entries q ≡ Some p → fin.get t.entries q ≡ Some o → p ≡ o) where
  same_at : standing t q ≡ standing s q → SameAt s t q
  same_at = go (fin.get s.entries q) (fin.get t.entries q) (set.contains s.seen q) (set.contains t.seen q) refl refl refl refl
    where
      go : (o p : Option Presence) (a b : Bool) → fin.get s.entries q ≡ o → fin.get t.entries q ≡ p → set.contains s.seen q ≡ a → set.contains t.seen q ≡ b →
          ◌≡◌ {A = ℕ} (if is_some p then 1 else (if b then 2 else 0)) (if is_some o then 1 else (if a then 2 else 0)) → SameAt s t q
      go (Some p) (Some o) a b is too at at_too same = record {
        seen = live_too q (ap is_some too) ∙ sym (live q (ap is_some is));
        entries = too ∙ ap Some (sym (one p o is too)) ∙ sym is;
      }
      go None None true true is too at at_too same = record { seen = at_too ∙ sym at; entries = too ∙ sym is }
      go None None false false is too at at_too same = record { seen = at_too ∙ sym at; entries = too ∙ sym is }
      go None None true false is too at at_too same = absurd (omega (arith, same))
      go None None false true is too at at_too same = absurd (omega (arith, same))
      go (Some p) None a true is too at at_too same = absurd (omega (arith, same))
      go (Some p) None a false is too at at_too same = absurd (omega (arith, same))
      go None (Some p) true b is too at at_too same = absurd (omega (arith, same))
      go None (Some p) false b is too at at_too same = absurd (omega (arith, same))

-- what two outboxes have at one place that were sent so
data AtPlace (own : ℕ) (os : List (Option Message)) (xs ys : List Message) (i : ℕ) : Type 0 where
  Neither : slice_get xs i ≡ None → slice_get ys i ≡ None → AtPlace own os xs ys i
  Each : (o : Option Message) (m k : Message) → slice_get os i ≡ Some o → slice_get xs i ≡ Some m → slice_get ys i ≡ Some k → IsSentSo own o m → IsSentSo own o k → AtPlace own os xs ys i

at_place : (own : ℕ) (os : List (Option Message)) (xs ys : List Message) (i : ℕ) → AreSentSo own os xs → AreSentSo own os ys → AtPlace own os xs ys i
at_place own [] [] [] i a b = Neither refl refl
at_place own [] (m ∷ ms) ys i a b = absurd a
at_place own [] [] (k ∷ ks) i a b = absurd b
at_place own (o ∷ os) [] ys i a b = absurd a
at_place own (o ∷ os) (m ∷ ms) [] i a b = absurd b
at_place own (o ∷ os) (m ∷ ms) (k ∷ ks) zero a b = Each o m k refl refl refl a.0 b.0
at_place own (o ∷ os) (m ∷ ms) (k ∷ ks) (suc i) a b = go (at_place own os ms ks i a.1 b.1)
  where
    go : AtPlace own os ms ks i → AtPlace own (o ∷ os) (m ∷ ms) (k ∷ ks) (suc i)
    go (Neither x y) = Neither x y
    go (Each p w v at here there so so_too) = Each p w v at here there so so_too

as_long : (own : ℕ) (os : List (Option Message)) (xs ys : List Message) → AreSentSo own os xs → AreSentSo own os ys → length ys ≡ length xs
as_long own [] [] [] a b = refl
as_long own [] (m ∷ ms) ys a b = absurd a
as_long own [] [] (k ∷ ks) a b = absurd b
as_long own (o ∷ os) [] ys a b = absurd a
as_long own (o ∷ os) (m ∷ ms) [] a b = absurd b
as_long own (o ∷ os) (m ∷ ms) (k ∷ ks) a b = ap suc (as_long own os ms ks a.1 b.1)

-- a run keeps the number of nodes
pub keeps_length : (c d : Cluster) (ks : List Kept) → then_runs (Ok c) ks ≡ Ok d → length d ≡ length c
keeps_length c d [] run = let same : c ≡ d = cc in ap length (sym same)
keeps_length c d (k ∷ ks) run =
    let one = run_one c d k ks run in
    let st = stepped c k.node k.step one.0 one.1 in
    keeps_length one.0 d ks one.2 ∙ ap length st.gives ∙ length-set c k.node st.to

module _ (l : NodeLimits) (count : ℕ) (first other : List Kept) (t : Cares) (c d : Cluster) (ran : runs l count first ≡ Ok c) (ran_too : runs l count other ≡ Ok d)
    (own : (n : ℕ) → ordered other n ≡ ordered first n) (stand : StandAlike t l first c d) where
  fine : Fine c
  fine = fine_run l count first c ran

  fine_too : Fine d
  fine_too = fine_run l count other d ran_too

  one_entry : (q : Dot) (p o : Presence) → IsMade l first q p → IsMade l other q o → p ≡ o
  one_entry q p o here there = (known_more_run l count first c ran).one q p o here (made_too l first other q o own there)

  module _ (n : ℕ) (x y : Node) (at : slice_get c n ≡ Some x) (at_too : slice_get d n ≡ Some y) where
    own_alike : ReplicaAlike nothing x.replica y.replica
    own_alike =
        let here = (known_run l count first c ran).own n x at in
        let there = (known_run l count other d ran_too).own n y at_too in
        replica_then nothing x.replica (own_part l first n) y.replica (replica_sym nothing (own_part l first n) x.replica here)
        (subst (λ (r : Replica). ReplicaAlike nothing r y.replica) (ap (own_from (opening n l)) (own n)) there)

    store_is : own_alike.store ≡ y.replica.store
    store_is = ap (λ (r : Replica). r.store) (sym own_alike.is)

    abbrev before : Store
    before = x.replica.store

    abbrev after : Store
    after = y.replica.store

    stands_same : (q : Dot) → t.at n q ≡ true → (q.name == n) ≡ false → SameAt before after q
    stands_same q wanted foreign =
        same_at before after q ((fine.each n x at).sound.live) ((fine_too.each n y at_too).sound.live)
        (λ p o is too. one_entry q p o ((known_run l count first c ran).all q p (n, x, at, inl is)) ((known_run l count other d ran_too).all q o (n, y, at_too, inl too)))
        (stand.nodes n x y at at_too q wanted foreign)

    own_name : x.replica.own ≡ n
    own_name = (fine.each n x at).own

    both_same : (q : Dot) → is_compared (t.at n) x.replica.own q ≡ true → SameAt before own_alike.store q
    both_same q h = go (q.name == x.replica.own) refl (or_cases (t.at n q) (q.name == x.replica.own) h)
      where
        mine : (q.name == x.replica.own) ≡ true → SameAt before own_alike.store q
        mine is = record { seen = own_alike.alike.seen q is; entries = own_alike.alike.entries q is }

        go : (b : Bool) → (q.name == x.replica.own) ≡ b → (t.at n q ≡ true) ⊎ ((q.name == x.replica.own) ≡ true) → SameAt before own_alike.store q
        go true is cases = mine is
        go false is (inl wanted) = subst (λ (s : Store). SameAt before s q) (sym store_is) (stands_same q wanted (ap (λ o. q.name == o) (sym own_name) ∙ is))
        go false is (inr here) = mine here

    replica_alike : ReplicaAlike (t.at n) x.replica y.replica
    replica_alike = record {
      store = own_alike.store;
      is = own_alike.is;
      alike = record { seen = λ q h. (both_same q h).seen; entries = λ q h. (both_same q h).entries };
    }

    abbrev os : List (Option Message)
    os = sent_of l n first

    sent : AreSentSo n os x.outbox
    sent = (known_more_run l count first c ran).sent n x at

    sent_too : AreSentSo n os y.outbox
    sent_too = subst (λ (ps : List (Option Message)). AreSentSo n ps y.outbox) (ap (own_sent (opening n l)) (own n)) ((known_more_run l count other d ran_too).sent n y at_too)

    message_alike : (i : ℕ) (o : Option Message) (m k : Message) → slice_get os i ≡ Some o → slice_get x.outbox i ≡ Some m → slice_get y.outbox i ≡ Some k →
        IsSentSo n o m → IsSentSo n o k → MessageAlike (t.of n (suc i)) m k
    message_alike i (Some told) m k so here there is too = subst (λ (k : Message). MessageAlike (t.of n (suc i)) m k) (is ∙ sym too) (message_same (t.of n (suc i)) m)
    message_alike i None m k so here there is too = record {
      sender = too.0 ∙ sym is.0;
      asks = too.1 ∙ sym is.1;
      store = record { seen = λ q h. (same q h).seen; entries = λ q h. (same q h).entries };
    }
      where
        same : (q : Dot) → t.of n (suc i) q ≡ true → SameAt (store_of m) (store_of k) q
        same q wanted =
            same_at (store_of m) (store_of k) q ((fine.each n x at).messages (suc i) m here) ((fine_too.each n y at_too).messages (suc i) k there)
            (λ p o e f. one_entry q p o ((known_run l count first c ran).all q p (n, x, at, inr (suc i, m, here, e))) ((known_run l count other d ran_too).all q o (n, y, at_too, inr (suc i, k, there, f))))
            (stand.messages n (suc i) x y m k at at_too here there so q wanted)

    messages_alike : SentAlike (t.of n) x.outbox y.outbox
    messages_alike zero = tt
    messages_alike (suc i) = go (at_place n os x.outbox y.outbox i sent sent_too)
      where
        go : AtPlace n os x.outbox y.outbox i → BothAre (MessageAlike (t.of n (suc i))) (slice_get x.outbox i) (slice_get y.outbox i)
        go (Neither here there) =
            subst (λ (o : Option Message). BothAre (MessageAlike (t.of n (suc i))) o (slice_get y.outbox i)) (sym here)
            (subst (λ (o : Option Message). BothAre (MessageAlike (t.of n (suc i))) None o) (sym there) tt)
        go (Each o m k so here there is too) =
            subst (λ (o : Option Message). BothAre (MessageAlike (t.of n (suc i))) o (slice_get y.outbox i)) (sym here)
            (subst (λ (o : Option Message). BothAre (MessageAlike (t.of n (suc i))) (Some m) o) (sym there) (message_alike i o m k so here there is too))

    node_alike : NodeAlike (t.at n) (t.of n) x y
    node_alike = record { replica = replica_alike; long = as_long n os x.outbox y.outbox sent sent_too; sent = messages_alike }

  as_many : length d ≡ length c
  as_many = keeps_length (opening_of l count) d other ran_too ∙ sym (keeps_length (opening_of l count) c first ran)

  clusters_alike : ClusterAlike t c d
  clusters_alike = record { long = as_many; each = λ n. each n (slice_get c n) (slice_get d n) refl refl }
    where
      outside : (e : Cluster) (n : ℕ) (x : Node) → slice_get e n ≡ None → n < length e → ⊥
      outside e n x none within = let at = slice_get-get_or e n x within in let gone = none in cc

      each : (n : ℕ) (o p : Option Node) → slice_get c n ≡ o → slice_get d n ≡ p → BothAre (NodeAlike (t.at n) (t.of n)) o p
      each n None None here there = tt
      each n (Some x) (Some y) here there = node_alike n x y here there
      each n None (Some y) here there = absurd (outside c n y here (let within = slice_get_within d n y there in let long = as_many in omega (arith, within, long)))
      each n (Some x) None here there = absurd (outside d n x there (let within = slice_get_within c n x here in let long = as_many in omega (arith, within, long)))

pub stand_alike_holds : StandAlikeLaw
stand_alike_holds l count first other t c d ran ran_too own stand = clusters_alike l count first other t c d ran ran_too own stand
