-- Clusters that are alike, the other way round and one after the other; and a delivery of which nothing matters.
use Rattle.std.proofs.Common.{◌≡◌, ◌≢◌, ◌⊎◌, inl, inr, ℕ, ◌==◌, ◌&&◌, ◌||◌, Bool, true, false, List, set, slice_get, length-set, Option, Some, None, is_some, Ok, refl, sym, ap, ◌∙◌, subst, true≢false}
use Rattle.std.proofs.lemmas.Bool.{cases_eq}
use Rattle.std.proofs.Math.Bool.{and-false, or-false}
use Rattle.std.specs.FinSet as sets
use Rattle.std.specs.FinMap as fin
use Rattle.dots_core.specs.declared.dot.Dot.{Dot}
use Rattle.payload_core.specs.Presences.{Presence}
use Rattle.payload_core.specs.Messages.{Message, AreSeen, numbered}
use Rattle.store_core.specs.Stores.{Store, store_of}
use Rattle.store_core.proofs.StoreMerges.{entry_after, get-merged, contains-merged}
use Rattle.replica_core.specs.Replicas.{Replica}
use Rattle.replica_core.specs.Deliveries.{is_other_known, merged}
use Rattle.node_core.specs.Operations.{Deliver}
use Rattle.node_core.specs.Nodes.{Node}
use Rattle.bench_core.specs.Clusters.{Cluster, step}
use Rattle.bench_core.proofs.Clusters.{get-set_same, get-set_other}
use Rattle.bench_core.proofs.Deliveries.{Delivered, delivered}
use Rattle.network_core.specs.Alike.{BothAre, Cares, ClusterAlike, MessageAlike, NodeAlike, ReplicaAlike, SentAlike, StoreAlike, is_compared}
use Rattle.network_core.specs.Cones.{IsIdle}
use Rattle.network_core.proofs.Beside.{after}
use Rattle.network_core.proofs.Own.{delivered_alike}
use Rattle.network_core.proofs.Stores.{message_same, or_cases, replica_same, replica_then, store_then}

both_sym : {X : Type 0} (R : X → X → Type 0) → ((x y : X) → R x y → R y x) → (o p : Option X) → BothAre R o p → BothAre R p o
both_sym R back None None b = tt
both_sym R back None (Some y) b = b
both_sym R back (Some x) None b = b
both_sym R back (Some x) (Some y) b = back x y b

both_then : {X : Type 0} (R : X → X → Type 0) → ((x y z : X) → R x y → R y z → R x z) → (o p q : Option X) → BothAre R o p → BothAre R p q → BothAre R o q
both_then R on None None q a b = b
both_then R on None (Some y) q a b = absurd a
both_then R on (Some x) None q a b = absurd a
both_then R on (Some x) (Some y) None a b = b
both_then R on (Some x) (Some y) (Some z) a b = on x y z a b

both_same : {X : Type 0} (R : X → X → Type 0) → ((x : X) → R x x) → (o : Option X) → BothAre R o o
both_same R same None = tt
both_same R same (Some x) = same x

store_sym : (p : Dot → Bool) (s t : Store) → StoreAlike p s t → StoreAlike p t s
store_sym p s t a = record { seen = λ d h. sym (a.seen d h); entries = λ d h. sym (a.entries d h) }

message_sym : (p : Dot → Bool) (m k : Message) → MessageAlike p m k → MessageAlike p k m
message_sym p m k a = record { sender = sym a.sender; asks = sym a.asks; store = store_sym p (store_of m) (store_of k) a.store }

message_then : (p : Dot → Bool) (m k w : Message) → MessageAlike p m k → MessageAlike p k w → MessageAlike p m w
message_then p m k w a b = record { sender = b.sender ∙ a.sender; asks = b.asks ∙ a.asks; store = store_then p (store_of m) (store_of k) (store_of w) a.store b.store }

pub replica_sym : (at : Dot → Bool) (r s : Replica) → ReplicaAlike at r s → ReplicaAlike at s r
replica_sym at r s a = record {
  store = r.store;
  is = ap (λ (x : Replica). record x { store = r.store }) (sym a.is);
  alike = subst (λ (x : Replica). StoreAlike (is_compared at x.own) x.store r.store) (sym a.is) (store_sym (is_compared at r.own) r.store a.store a.alike);
}

sent_sym : (of : ℕ → Dot → Bool) (xs ys : List Message) → SentAlike of xs ys → SentAlike of ys xs
sent_sym of xs ys a i = both_sym (MessageAlike (of i)) (message_sym (of i)) (numbered xs i) (numbered ys i) (a i)

sent_then : (of : ℕ → Dot → Bool) (xs ys zs : List Message) → SentAlike of xs ys → SentAlike of ys zs → SentAlike of xs zs
sent_then of xs ys zs a b i = both_then (MessageAlike (of i)) (message_then (of i)) (numbered xs i) (numbered ys i) (numbered zs i) (a i) (b i)

sent_same : (of : ℕ → Dot → Bool) (xs : List Message) → SentAlike of xs xs
sent_same of xs i = both_same (MessageAlike (of i)) (message_same (of i)) (numbered xs i)

node_sym : (at : Dot → Bool) (of : ℕ → Dot → Bool) (x y : Node) → NodeAlike at of x y → NodeAlike at of y x
node_sym at of x y a = record { replica = replica_sym at x.replica y.replica a.replica; long = sym a.long; sent = sent_sym of x.outbox y.outbox a.sent }

node_then : (at : Dot → Bool) (of : ℕ → Dot → Bool) (x y z : Node) → NodeAlike at of x y → NodeAlike at of y z → NodeAlike at of x z
node_then at of x y z a b = record {
  replica = replica_then at x.replica y.replica z.replica a.replica b.replica;
  long = b.long ∙ a.long;
  sent = sent_then of x.outbox y.outbox z.outbox a.sent b.sent;
}

node_same : (at : Dot → Bool) (of : ℕ → Dot → Bool) (x : Node) → NodeAlike at of x x
node_same at of x = record { replica = replica_same at x.replica; long = refl; sent = sent_same of x.outbox }

pub cluster_sym : (t : Cares) (c d : Cluster) → ClusterAlike t c d → ClusterAlike t d c
cluster_sym t c d a = record { long = sym a.long; each = λ n. both_sym (NodeAlike (t.at n) (t.of n)) (node_sym (t.at n) (t.of n)) (slice_get c n) (slice_get d n) (a.each n) }

pub cluster_then : (t : Cares) (c d e : Cluster) → ClusterAlike t c d → ClusterAlike t d e → ClusterAlike t c e
cluster_then t c d e a b = record {
  long = b.long ∙ a.long;
  each = λ n. both_then (NodeAlike (t.at n) (t.of n)) (node_then (t.at n) (t.of n)) (slice_get c n) (slice_get d n) (slice_get e n) (a.each n) (b.each n);
}

-- a delivery of which nothing matters

unread : (b s : Bool) (e : Option Presence) → entry_after b s e false None ≡ e
unread true true e = refl
unread true false e = refl
unread false s e = refl

no_entry : (m : Message) (d : Dot) (o : Option Presence) → AreSeen m.seen m.entries → sets.contains m.seen d ≡ false → fin.get m.entries d ≡ o → fin.get m.entries d ≡ None
no_entry m d None seen out is = is
no_entry m d (Some p) seen out is = absurd (true≢false (sym (seen d (ap is_some is)) ∙ out))

module _ (at : Dot → Bool) (r : Replica) (m : Message) (seen : AreSeen m.seen m.entries) (nothing : (d : Dot) → at d ≡ true → sets.contains m.seen d ≡ false) where
  idle_seen : (d : Dot) → (at d ≡ true) ⊎ ((d.name == r.own) ≡ true) → sets.contains (merged m r).store.seen d ≡ sets.contains r.store.seen d
  idle_seen d (inl h) =
      contains-merged (is_other_known r) (store_of m) r.store d
      ∙ ap (λ b. sets.contains r.store.seen d || (is_other_known r d.name && b)) (nothing d h)
      ∙ ap (λ b. sets.contains r.store.seen d || b) (and-false (is_other_known r d.name))
      ∙ or-false (sets.contains r.store.seen d)
  idle_seen d (inr h) = (delivered_alike m r).seen d h

  idle_entries : (d : Dot) → (at d ≡ true) ⊎ ((d.name == r.own) ≡ true) → fin.get (merged m r).store.entries d ≡ fin.get r.store.entries d
  idle_entries d (inl h) =
      get-merged (is_other_known r) (store_of m) r.store d
      ∙ (λ i. entry_after (is_other_known r d.name) (sets.contains r.store.seen d) (fin.get r.store.entries d) (nothing d h i) (no_entry m d (fin.get m.entries d) seen (nothing d h) refl i))
      ∙ unread (is_other_known r d.name) (sets.contains r.store.seen d) (fin.get r.store.entries d)
  idle_entries d (inr h) = (delivered_alike m r).entries d h

  idle_replica : ReplicaAlike at r (merged m r)
  idle_replica = record {
    store = (merged m r).store;
    is = refl;
    alike = record { seen = λ d h. idle_seen d (or_cases (at d) (d.name == r.own) h); entries = λ d h. idle_entries d (or_cases (at d) (d.name == r.own) h) };
  }

pub idle_alike : (t : Cares) (c d : Cluster) (n sender number : ℕ) → (idle : IsIdle t c n sender number) → AreSeen idle.message.seen idle.message.entries →
    step c n (Deliver sender number) ≡ Ok d → ClusterAlike t c d
idle_alike t c d n sender number idle seen taken = go (delivered c n sender number d taken)
  where
    go : Delivered c n sender number d → ClusterAlike t c d
    go k = subst (ClusterAlike t c) (sym k.gives) (record { long = length-set c n (after k.message k.from); each = λ q. each q (cases_eq q n) })
      where
        same : k.message ≡ idle.message
        same = let a = k.there in let b = idle.there in cc

        here : NodeAlike (t.at n) (t.of n) k.from (after k.message k.from)
        here = record {
          replica = subst (λ (m : Message). ReplicaAlike (t.at n) k.from.replica (merged m k.from.replica)) (sym same) (idle_replica (t.at n) k.from.replica idle.message seen idle.nothing);
          long = refl;
          sent = sent_same (t.of n) k.from.outbox;
        }

        each : (q : ℕ) → (q ≡ n) ⊎ (q ≢ n) → BothAre (NodeAlike (t.at q) (t.of q)) (slice_get c q) (slice_get (set c n (after k.message k.from)) q)
        each q (inl e) = subst (λ q. BothAre (NodeAlike (t.at q) (t.of q)) (slice_get c q) (slice_get (set c n (after k.message k.from)) q)) (sym e)
            (subst (λ (o : Option Node). BothAre (NodeAlike (t.at n) (t.of n)) o (slice_get (set c n (after k.message k.from)) n)) (sym k.at)
            (subst (λ (o : Option Node). BothAre (NodeAlike (t.at n) (t.of n)) (Some k.from) o) (sym (get-set_same c n k.from (after k.message k.from) k.at)) here))
        each q (inr other) = subst (λ (o : Option Node). BothAre (NodeAlike (t.at q) (t.of q)) (slice_get c q) o) (sym (get-set_other c n q (after k.message k.from) other))
            (both_same (NodeAlike (t.at q) (t.of q)) (node_same (t.at q) (t.of q)) (slice_get c q))
