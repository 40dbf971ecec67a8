-- Stores that are alike as far as some dots go, through what a step does to them.
use Rattle.std.proofs.Common.{◌≡◌, ◌⊎◌, inl, inr, ℕ, ◌==◌, ◌&&◌, ◌||◌, Bool, true, false, cond, None, refl, sym, ap, ◌∙◌, subst, true≢false}
use Rattle.std.specs.FinSet as set
use Rattle.std.specs.FinMap as fin
use Rattle.dots_core.specs.declared.dot.Dot.{Dot}
use Rattle.dots_core.proofs.Sets.{contains-retain}
use Rattle.payload_core.specs.Messages.{Message, message_of_names}
use Rattle.store_core.specs.Stores as stores
use Rattle.store_core.specs.Stores.{Store, store_of, part}
use Rattle.block_core.proofs.EntryMaps.{get-retain}
use Rattle.store_core.proofs.StoreMerges.{entry_after, get-merged, contains-merged}
use Rattle.replica_core.specs.Replicas.{Replica}
use Rattle.network_core.proofs.OwnEdits.{OwnAlike, Edits}
use Rattle.network_core.specs.Alike.{StoreAlike, MessageAlike, ReplicaAlike, is_compared}

-- tests

pub or_left : (a b : Bool) → a ≡ true → (a || b) ≡ true
or_left true b h = refl
or_left false b h = absurd (true≢false (sym h))

pub or_right : (a b : Bool) → b ≡ true → (a || b) ≡ true
or_right true b h = refl
or_right false b h = h

pub or_cases : (a b : Bool) → (a || b) ≡ true → (a ≡ true) ⊎ (b ≡ true)
or_cases true b h = inl refl
or_cases false b h = inr h

pub compared_less : (at to : Dot → Bool) (own : ℕ) → ((d : Dot) → to d ≡ true → at d ≡ true) → (d : Dot) → is_compared to own d ≡ true → is_compared at own d ≡ true
compared_less at to own less d h = go (or_cases (to d) (d.name == own) h)
  where
    go : (to d ≡ true) ⊎ ((d.name == own) ≡ true) → is_compared at own d ≡ true
    go (inl a) = or_left (at d) (d.name == own) (less d a)
    go (inr b) = or_right (at d) (d.name == own) b

-- stores

pub store_less : (p q : Dot → Bool) (s t : Store) → ((d : Dot) → q d ≡ true → p d ≡ true) → StoreAlike p s t → StoreAlike q s t
store_less p q s t less a = record { seen = λ d h. a.seen d (less d h); entries = λ d h. a.entries d (less d h) }

pub store_same : (p : Dot → Bool) (s : Store) → StoreAlike p s s
store_same p s = record { seen = λ d h. refl; entries = λ d h. refl }

pub store_then : (p : Dot → Bool) (s t u : Store) → StoreAlike p s t → StoreAlike p t u → StoreAlike p s u
store_then p s t u a b = record { seen = λ d h. b.seen d h ∙ a.seen d h; entries = λ d h. b.entries d h ∙ a.entries d h }

pub message_less : (p q : Dot → Bool) (m k : Message) → ((d : Dot) → q d ≡ true → p d ≡ true) → MessageAlike p m k → MessageAlike q m k
message_less p q m k less a = record { sender = a.sender; asks = a.asks; store = store_less p q (store_of m) (store_of k) less a.store }

pub message_same : (p : Dot → Bool) (m : Message) → MessageAlike p m m
message_same p m = record { sender = refl; asks = refl; store = store_same p (store_of m) }

pub cond_both : {X : Type 0} (b : Bool) (x y z : X) → (b ≡ true → x ≡ y) → cond b x z ≡ cond b y z
cond_both true x y z h = h refl
cond_both false x y z h = refl

pub and_both : (a b t : Bool) → (t ≡ true → a ≡ b) → (a && t) ≡ (b && t)
and_both true true t h = refl
and_both false false t h = refl
and_both true false true h = h refl
and_both true false false h = refl
and_both false true true h = h refl
and_both false true false h = refl

-- what is sent of some names
pub named_alike : (p q : Dot → Bool) (named : ℕ → Bool) (sender : ℕ) (s t : Store) → StoreAlike p s t → ((d : Dot) → q d ≡ true → named d.name ≡ true → p d ≡ true) →
    MessageAlike q (message_of_names named sender s.seen s.entries) (message_of_names named sender t.seen t.entries)
named_alike p q named sender s t a there = record {
  sender = refl;
  asks = refl;
  store = record {
    seen = λ d h. contains-retain t.seen (λ d. named d.name) d
        ∙ and_both (set.contains t.seen d) (set.contains s.seen d) (named d.name) (λ n. a.seen d (there d h n))
        ∙ sym (contains-retain s.seen (λ d. named d.name) d);
    entries = λ d h. get-retain t.entries (λ d. named d.name) d
        ∙ cond_both (named d.name) (fin.get t.entries d) (fin.get s.entries d) None (λ n. a.entries d (there d h n))
        ∙ sym (get-retain s.entries (λ d. named d.name) d);
  };
}

-- what is left where a name is forgotten
pub part_alike : (p q : Dot → Bool) (named : ℕ → Bool) (s t : Store) → StoreAlike p s t → ((d : Dot) → q d ≡ true → named d.name ≡ true → p d ≡ true) →
    StoreAlike q (part named s) (part named t)
part_alike p q named s t a there = let m = named_alike p q named 0 s t a there in m.store

-- a delivery
pub merged_alike : (p q : Dot → Bool) (named : ℕ → Bool) (m k s t : Store) → StoreAlike p s t → ((d : Dot) → q d ≡ true → p d ≡ true) →
    ((d : Dot) → q d ≡ true → named d.name ≡ true → (set.contains k.seen d ≡ set.contains m.seen d) × (fin.get k.entries d ≡ fin.get m.entries d)) →
    StoreAlike q (stores.merged named m s) (stores.merged named k t)
merged_alike p q named m k s t a less read = record {
  seen = λ d h. contains-merged named k t d ∙ seen d (a.seen d (less d h)) (named d.name) (λ n. (read d h n).0) ∙ sym (contains-merged named m s d);
  entries = λ d h. get-merged named k t d ∙ entry d (a.seen d (less d h)) (a.entries d (less d h)) (named d.name) (read d h) ∙ sym (get-merged named m s d);
}
  where
    seen : (d : Dot) → set.contains t.seen d ≡ set.contains s.seen d → (b : Bool) → (b ≡ true → set.contains k.seen d ≡ set.contains m.seen d) →
        (set.contains t.seen d || (b && set.contains k.seen d)) ≡ (set.contains s.seen d || (b && set.contains m.seen d))
    seen d is true more = λ i. is i || more refl i
    seen d is false more = λ i. is i || false

    entry : (d : Dot) → set.contains t.seen d ≡ set.contains s.seen d → fin.get t.entries d ≡ fin.get s.entries d → (b : Bool) →
        (b ≡ true → (set.contains k.seen d ≡ set.contains m.seen d) × (fin.get k.entries d ≡ fin.get m.entries d)) →
        entry_after b (set.contains t.seen d) (fin.get t.entries d) (set.contains k.seen d) (fin.get k.entries d) ≡
        entry_after b (set.contains s.seen d) (fin.get s.entries d) (set.contains m.seen d) (fin.get m.entries d)
    entry d is same true more = λ i. entry_after true (is i) (same i) ((more refl).0 i) ((more refl).1 i)
    entry d is same false more = ap (λ e. entry_after false (set.contains t.seen d) e (set.contains k.seen d) (fin.get k.entries d)) same

-- replicas

abbrev pub beside : Replica → Store → Replica
beside r t = record r { store = t }

pub own_of : (at : Dot → Bool) (own : ℕ) (s t : Store) → StoreAlike (is_compared at own) s t → OwnAlike own s t
own_of at own s t a = record {
  seen = λ q h. a.seen q (or_right (at q) (q.name == own) h);
  entries = λ q h. a.entries q (or_right (at q) (q.name == own) h);
}

-- an edit of the own entries
pub edited : (at to : Dot → Bool) (r : Replica) (t : Store) (one two : Replica) → StoreAlike (is_compared at r.own) r.store t → ((d : Dot) → to d ≡ true → at d ≡ true) →
    Edits r t one two → ReplicaAlike to one two
edited at to r t one two a less e = record {
  store = e.store;
  is = e.is;
  alike = record {
    seen = λ q h. seen q (q.name == r.own) refl (was q h);
    entries = λ q h. entries q (q.name == r.own) refl (was q h);
  };
}
  where
    was : (q : Dot) → is_compared to one.own q ≡ true → is_compared at r.own q ≡ true
    was q h = compared_less at to r.own less q (ap (λ n. is_compared to n q) (sym e.own) ∙ h)

    seen : (q : Dot) (b : Bool) → (q.name == r.own) ≡ b → is_compared at r.own q ≡ true → set.contains e.store.seen q ≡ set.contains one.store.seen q
    seen q true is h = e.alike.seen q is
    seen q false is h = e.others_too.seen q is ∙ a.seen q h ∙ sym (e.others.seen q is)

    entries : (q : Dot) (b : Bool) → (q.name == r.own) ≡ b → is_compared at r.own q ≡ true → fin.get e.store.entries q ≡ fin.get one.store.entries q
    entries q true is h = e.alike.entries q is
    entries q false is h = e.others_too.entries q is ∙ a.entries q h ∙ sym (e.others.entries q is)

pub replica_less : (at to : Dot → Bool) (r s : Replica) → ((d : Dot) → to d ≡ true → at d ≡ true) → ReplicaAlike at r s → ReplicaAlike to r s
replica_less at to r s less a =
    record { store = a.store; is = a.is; alike = store_less (is_compared at r.own) (is_compared to r.own) r.store a.store (compared_less at to r.own less) a.alike }

pub replica_then : (at : Dot → Bool) (r s t : Replica) → ReplicaAlike at r s → ReplicaAlike at s t → ReplicaAlike at r t
replica_then at r s t a b = record {
  store = b.store;
  is = b.is ∙ ap (λ (x : Replica). record x { store = b.store }) a.is;
  alike = store_then (is_compared at r.own) r.store a.store b.store a.alike (subst (λ (x : Replica). StoreAlike (is_compared at x.own) x.store b.store) a.is b.alike);
}

pub replica_same : (at : Dot → Bool) (r : Replica) → ReplicaAlike at r r
replica_same at r = record { store = r.store; is = refl; alike = store_same (is_compared at r.own) r.store }
