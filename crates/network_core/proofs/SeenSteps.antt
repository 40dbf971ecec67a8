-- Where the dots come from that a node has seen after a step: it saw them before, the message had them, or they are its own.
use Rattle.std.proofs.Common.{◌≡◌, ◌⊎◌, inl, inr, ℕ, ◌==◌, ◌&&◌, not, Bool, true, false, List, [], ◌∷◌, ◌++◌, length, suc, ◌≢◌, Option, Some, None, is_some, Ok, refl, sym, ap, ◌∙◌, subst, true≢false}
use Rattle.std.proofs.Math.Bool.{and-true}
use Rattle.std.proofs.lemmas.Bool.{cases_eq, eqb-false, ne_eqb}
use Rattle.std.specs.List.{AllByRecursion}
use Rattle.std.specs.FinSet as set
use Rattle.dots_core.specs.declared.dot.Dot.{Dot}
use Rattle.dots_core.specs.Dots.{dot_cmp}
use Rattle.dots_core.proofs.Sets.{contains-retain, contains_inserted, contains_insert_more, inserted_cases, of_names_cases}
use Rattle.payload_core.specs.Messages.{Message, message_of_names, numbered}
use Rattle.payload_core.specs.Presences.{Presence, Entries, is_tracked_as}
use Rattle.store_core.specs.Stores.{is_other, store_of}
use Rattle.store_core.proofs.StoreMerges.{contains-merged}
use Rattle.payload_core.proofs.TrackedDots.{EachPasses, dots_of_pass}
use Rattle.replica_core.specs.Deliveries.{is_other_known, merged}
use Rattle.replica_core.specs.declared.replica_fault.ReplicaFault.{ReplicaFault}
use Rattle.replica_core.specs.declared.replica_fault.ReplicaFault.TheVariants.{OwnReplica, NotKnown, NotDown}
use Rattle.replica_core.specs.declared.status.Status.TheVariants as statuses
use Rattle.replica_core.specs.Replicas.{Replica, delta_message, dropped, dropped_each, forgotten, fresh, is_known, is_online, joined, left, left_each, own_dots, request_of, ticked, with_status, without_delta}
use Rattle.replica_core.specs.Refusals.{first_of, has_dots, join_refusal, leave_refusal, leave_all_refusal, up_refusal, down_refusal, permdown_refusal}
use Rattle.node_core.specs.Operations.{Operation, Join, Leave, LeaveAll, Update, Broadcast, Extract, Deliver, Request, Answer, Up, Down, Permdown}
use Rattle.node_core.specs.Nodes.{Node, take, unless, with_replica}
use Rattle.journal_core.proofs.Numbered.{get-append_at, numbered_push_other}
use Rattle.bench_core.proofs.Sound.{IsSound}
use Rattle.bench_core.proofs.Taken.{unless_ok, unless_full_ok, broadcast_ok, deliver_ok, extract_of, answer_ok}
use Rattle.network_core.proofs.Stores.{or_left, or_cases}

-- the dots of which nothing was sent yet were seen
abbrev pub HasDelta : Replica → Type 0
HasDelta r = (d : Dot) → set.contains r.delta.seen d ≡ true → set.contains r.store.seen d ≡ true

abbrev pub HasSeen : Option Message → Dot → Type 0
HasSeen None d = ⊥
HasSeen (Some m) d = set.contains m.seen d ≡ true

-- a change of a replica, by a message or none
pub record Sees (r : Replica) (m : Option Message) (s : Replica) : Type 0 where
  pub store : (d : Dot) → set.contains s.store.seen d ≡ true → (set.contains r.store.seen d ≡ true) ⊎ (HasSeen m d ⊎ (d.name ≡ r.own))
  pub delta : HasDelta r → HasDelta s

-- a change that keeps what was seen

record Grows (r s : Replica) : Type 0 where
  own : s.own ≡ r.own
  store : (d : Dot) → set.contains s.store.seen d ≡ true → (set.contains r.store.seen d ≡ true) ⊎ (d.name ≡ r.own)
  more : (d : Dot) → set.contains r.store.seen d ≡ true → set.contains s.store.seen d ≡ true
  delta : HasDelta r → HasDelta s

grows_not : (r : Replica) → Grows r r
grows_not r = record { own = refl; store = λ d h. inl h; more = λ d h. h; delta = λ h. h }

grows_then : (r s t : Replica) → Grows r s → Grows s t → Grows r t
grows_then r s t a b = record {
  own = b.own ∙ a.own;
  store = λ d h. go d (b.store d h);
  more = λ d h. b.more d (a.more d h);
  delta = λ h. b.delta (a.delta h);
}
  where
    go : (d : Dot) → (set.contains s.store.seen d ≡ true) ⊎ (d.name ≡ s.own) → (set.contains r.store.seen d ≡ true) ⊎ (d.name ≡ r.own)
    go d (inl h) = a.store d h
    go d (inr h) = inr (h ∙ a.own)

grown : (r s : Replica) (m : Option Message) → Grows r s → Sees r m s
grown r s m g = record { store = λ d h. go d (g.store d h); delta = g.delta }
  where
    go : (d : Dot) → (set.contains r.store.seen d ≡ true) ⊎ (d.name ≡ r.own) → (set.contains r.store.seen d ≡ true) ⊎ (HasSeen m d ⊎ (d.name ≡ r.own))
    go d (inl h) = inl h
    go d (inr h) = inr (inr h)

-- a dot of its own more
fresh_cases : (r : Replica) (d : Dot) → (d ≡ fresh r) ⊎ (set.contains r.store.seen d ≡ true) → (set.contains r.store.seen d ≡ true) ⊎ (d.name ≡ r.own)
fresh_cases r d (inl e) = inr (ap (λ (d : Dot). d.name) e)
fresh_cases r d (inr h) = inl h

fresh_delta : (r : Replica) → HasDelta r → (d : Dot) → (d ≡ fresh r) ⊎ (set.contains r.delta.seen d ≡ true) → set.contains (set.insert r.store.seen (fresh r)) d ≡ true
fresh_delta r has d (inl e) = ap (set.contains (set.insert r.store.seen (fresh r))) e ∙ contains_inserted r.store.seen (fresh r)
fresh_delta r has d (inr h) = contains_insert_more r.store.seen (fresh r) d (has d h)

grows_joined : (r : Replica) (p : Presence) → Grows r (joined p r)
grows_joined r p = record {
  own = refl;
  store = λ d h. fresh_cases r d (inserted_cases r.store.seen (fresh r) d h);
  more = λ d h. contains_insert_more r.store.seen (fresh r) d h;
  delta = λ has d h. fresh_delta r has d (inserted_cases r.delta.seen (fresh r) d h);
}

grows_ticked : (r : Replica) → Grows r (ticked r)
grows_ticked r = record {
  own = refl;
  store = λ d h. fresh_cases r d (inserted_cases r.store.seen (fresh r) d h);
  more = λ d h. contains_insert_more r.store.seen (fresh r) d h;
  delta = λ has d h. fresh_delta r has d (inserted_cases r.delta.seen (fresh r) d h);
}

grows_dropped : (r : Replica) (x : Dot) → set.contains r.store.seen x ≡ true → Grows r (dropped x r)
grows_dropped r x seen = record { own = refl; store = λ d h. inl h; more = λ d h. h; delta = λ has d h. go has d (inserted_cases r.delta.seen x d h) }
  where
    go : HasDelta r → (d : Dot) → (d ≡ x) ⊎ (set.contains r.delta.seen d ≡ true) → set.contains r.store.seen d ≡ true
    go has d (inl e) = ap (set.contains r.store.seen) e ∙ seen
    go has d (inr h) = has d h

abbrev AreIn : Replica → List Dot → Type 0
AreIn r ds = AllByRecursion (λ (d : Dot). set.contains r.store.seen d ≡ true) ds

still_in : (r s : Replica) → Grows r s → (ds : List Dot) → AreIn r ds → AreIn s ds
still_in r s g [] all = tt
still_in r s g (d ∷ ds) all = (g.more d all.0, still_in r s g ds all.1)

passing_in : (r : Replica) (test : Presence → Bool) (ds : List Dot) → IsSound r → EachPasses r.own test r.store.entries ds → AreIn r ds
passing_in r test [] sound pass = tt
passing_in r test (d ∷ ds) sound pass = (sound.live d (ap is_some pass.0.1.1), passing_in r test ds sound pass.1)

own_in : (r : Replica) (test : Presence → Bool) → IsSound r → AreIn r (own_dots r test)
own_in r test sound = passing_in r test (own_dots r test) sound (dots_of_pass r.own test r.store.entries)

grows_left_each : (r : Replica) (ds : List Dot) → AreIn r ds → Grows r (left_each ds r)
grows_left_each r [] all = grows_not r
grows_left_each r (d ∷ ds) all =
    let one = grows_then r (dropped d r) (left d r) (grows_dropped r d all.0) (grows_ticked (dropped d r)) in
    grows_then r (left d r) (left_each ds (left d r)) one (grows_left_each (left d r) ds (still_in r (left d r) one ds all.1))

grows_dropped_each : (r : Replica) (ds : List Dot) → AreIn r ds → Grows r (dropped_each ds r)
grows_dropped_each r [] all = grows_not r
grows_dropped_each r (d ∷ ds) all =
    let one = grows_dropped r d all.0 in
    grows_then r (dropped d r) (dropped_each ds (dropped d r)) one (grows_dropped_each (dropped d r) ds (still_in r (dropped d r) one ds all.1))

-- the other changes

sees_merged : (r : Replica) (m : Message) → Sees r (Some m) (merged m r)
sees_merged r m = record {
  store = λ d h. go d (or_cases (set.contains r.store.seen d) (is_other_known r d.name && set.contains m.seen d) (sym (contains-merged (is_other_known r) (store_of m) r.store d) ∙ h));
  delta = λ has d h. contains-merged (is_other_known r) (store_of m) r.store d ∙ or_left (set.contains r.store.seen d) (is_other_known r d.name && set.contains m.seen d) (has d h);
}
  where
    second : (a b : Bool) → (a && b) ≡ true → b ≡ true
    second true b h = h
    second false b h = absurd (true≢false (sym h))

    go : (d : Dot) → (set.contains r.store.seen d ≡ true) ⊎ ((is_other_known r d.name && set.contains m.seen d) ≡ true) → (set.contains r.store.seen d ≡ true) ⊎ (HasSeen (Some m) d ⊎ (d.name ≡ r.own))
    go d (inl h) = inl h
    go d (inr h) = inr (inl (second (is_other_known r d.name) (set.contains m.seen d) h))

sees_forgotten : (r : Replica) (name : ℕ) (m : Option Message) → IsSound r → (name == r.own) ≡ false → Sees r m (forgotten name r)
sees_forgotten r name m sound other = record {
  store = λ d h. inl (first (set.contains r.store.seen d) (is_other name d.name) (sym (contains-retain r.store.seen (λ d. is_other name d.name) d) ∙ h));
  delta = λ has d h. contains-retain r.store.seen (λ d. is_other name d.name) d
      ∙ (λ i. has d h i && not (ne_eqb d.name name (λ e. eqb-false name r.own other (sym e ∙ sound.delta_own d h)) i));
}
  where
    first : (a b : Bool) → (a && b) ≡ true → a ≡ true
    first true b h = refl
    first false b h = h

no_dot : (d : Dot) → set.contains {R = dot_cmp} set.empty d ≡ true → ⊥
no_dot d h = true≢false (sym h ∙ set.contains-empty dot_cmp d)

-- what an accepted step does to its node: the message that it sends has what was seen
pub record Sends (x : Node) (m : Option Message) (y : Node) : Type 0 where
  pub sees : Sees x.replica m y.replica
  pub sent : HasDelta x.replica → (i : ℕ) (k : Message) → numbered y.outbox i ≡ Some k → (numbered x.outbox i ≡ Some k) ⊎ ((d : Dot) → set.contains k.seen d ≡ true → set.contains x.replica.store.seen d ≡ true)

pushed_cases : (xs : List Message) (k w : Message) (i : ℕ) → numbered (xs ++ k ∷ []) i ≡ Some w → (numbered xs i ≡ Some w) ⊎ (w ≡ k)
pushed_cases xs k w i h = go (cases_eq i (suc (length xs)))
  where
    go : (i ≡ suc (length xs)) ⊎ (i ≢ suc (length xs)) → (numbered xs i ≡ Some w) ⊎ (w ≡ k)
    go (inl e) = let at : Some w ≡ Some k = sym h ∙ ap (numbered (xs ++ k ∷ [])) e ∙ get-append_at xs [] k in inr (cc)
    go (inr d) = inl (sym (numbered_push_other xs k i d) ∙ h)

another_name : (t : Bool) (rest : List (Bool × ReplicaFault)) (gives y : Node) → unless (first_of ((t, OwnReplica) ∷ rest)) gives ≡ Ok y → t ≡ false
another_name true rest gives y h = absurd (cc)
another_name false rest gives y h = refl

quietly : (x : Node) (r : Replica) (m : Option Message) (y : Node) → y ≡ with_replica x r → Sees x.replica m r → Sends x m y
quietly x r m y is s = subst (Sends x m) (sym is) (record { sees = s; sent = λ has i k e. inl e })

sending : (x : Node) (r : Replica) (k : Message) (m : Option Message) (y : Node) → y ≡ record { replica = r; outbox = x.outbox ++ k ∷ [] } → Sees x.replica m r →
    (HasDelta x.replica → (d : Dot) → set.contains k.seen d ≡ true → set.contains x.replica.store.seen d ≡ true) → Sends x m y
sending x r k m y is s has = subst (Sends x m) (sym is) (record { sees = s; sent = λ delta i w e. go delta i w (pushed_cases x.outbox k w i e) })
  where
    go : HasDelta x.replica → (i : ℕ) (w : Message) → (numbered x.outbox i ≡ Some w) ⊎ (w ≡ k) → (numbered x.outbox i ≡ Some w) ⊎ ((d : Dot) → set.contains w.seen d ≡ true → set.contains x.replica.store.seen d ≡ true)
    go delta i w (inl e) = inl e
    go delta i w (inr e) = inr (λ d h. has delta d (ap (λ (k : Message). set.contains k.seen d) (sym e) ∙ h))

named_in : (r : Replica) (named : ℕ → Bool) (d : Dot) → set.contains (message_of_names named r.own r.store.seen r.store.entries).seen d ≡ true → set.contains r.store.seen d ≡ true
named_in r named d h = first (set.contains r.store.seen d) (named d.name) (sym (contains-retain r.store.seen (λ d. named d.name) d) ∙ h)
  where
    first : (a b : Bool) → (a && b) ≡ true → a ≡ true
    first true b h = refl
    first false b h = h

same_seen : (r s : Replica) (m : Option Message) → s.store ≡ r.store → HasDelta s → Sees r m s
same_seen r s m is has = record { store = λ d h. inl (ap (λ t. set.contains t.seen d) (sym is) ∙ h); delta = λ _. has }

sees_status : (r : Replica) (m : Option Message) → Sees r m r
sees_status r m = grown r r m (grows_not r)

pub sends : (x : Node) (s : Operation) (m : Option Message) (y : Node) → IsSound x.replica → take x s m ≡ Ok y → Sends x m y
sends x (Join p) m y sound t =
    quietly x _ m y (unless_ok (join_refusal x.replica p.pid p.topic p.key) _ y t) (grown x.replica (joined p x.replica) m (grows_joined x.replica p))
sends x (Leave pid topic key) m y sound t =
    let test = is_tracked_as pid topic key in
    quietly x _ m y (unless_ok (leave_refusal x.replica pid topic key) _ y t)
    (grown x.replica (left_each (own_dots x.replica test) x.replica) m (grows_left_each x.replica (own_dots x.replica test) (own_in x.replica test sound)))
sends x (LeaveAll pid) m y sound t =
    let test : Presence → Bool = λ p. p.pid == pid in
    quietly x _ m y (unless_ok (leave_all_refusal x.replica pid) _ y t)
    (grown x.replica (left_each (own_dots x.replica test) x.replica) m (grows_left_each x.replica (own_dots x.replica test) (own_in x.replica test sound)))
sends x (Update p) m y sound t =
    let test = is_tracked_as p.pid p.topic p.key in
    let r = dropped_each (own_dots x.replica test) x.replica in
    quietly x _ m y (unless_ok (leave_refusal x.replica p.pid p.topic p.key) _ y t)
    (grown x.replica (joined p r) m (grows_then x.replica r (joined p r) (grows_dropped_each x.replica (own_dots x.replica test) (own_in x.replica test sound)) (grows_joined r p)))
sends x Broadcast m y sound t =
    sending x (without_delta x.replica) (delta_message x.replica) m y (broadcast_ok (has_dots x.replica.delta.seen) x y t)
    (record { store = λ d h. inl h; delta = λ has d h. absurd (no_dot d h) }) (λ has d h. has d h)
sends x (Extract names) m y sound t =
    sending x x.replica (extract_of x names) m y (unless_full_ok x _ y t) (sees_status x.replica m) (λ has d h. named_in x.replica (set.contains names) d h)
sends x (Deliver sender number) m y sound t =
    let d = deliver_ok (sender == x.replica.own) x m y t in
    quietly x (merged d.0 x.replica) m y d.2 (subst (λ m. Sees x.replica m (merged d.0 x.replica)) (sym d.1) (sees_merged x.replica d.0))
sends x Request m y sound t =
    sending x x.replica (request_of x.replica) m y (unless_full_ok x _ y t) (sees_status x.replica m) (λ has d h. absurd (no_dot d h))
sends x (Answer sender number) m y sound t =
    let a = answer_ok (sender == x.replica.own) x m y t in
    sending x x.replica (extract_of x a.2.0) m y a.2.1 (sees_status x.replica m) (λ has d h. named_in x.replica (set.contains a.2.0) d h)
sends x (Up name) m y sound t =
    quietly x _ m y (unless_ok (up_refusal x.replica name) _ y t) (record { store = λ d h. inl h; delta = λ has. has })
sends x (Down name) m y sound t =
    quietly x _ m y (unless_ok (down_refusal x.replica name) _ y t) (record { store = λ d h. inl h; delta = λ has. has })
sends x (Permdown name) m y sound t =
    quietly x _ m y (unless_ok (permdown_refusal x.replica name) _ y t)
    (sees_forgotten x.replica name m sound (another_name (name == x.replica.own) ((not (is_known x.replica name), NotKnown) ∷ (is_online x.replica name, NotDown) ∷ []) (with_replica x (forgotten name x.replica)) y t))
