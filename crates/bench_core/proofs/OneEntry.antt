-- In what a journal gives, a dot has one entry, wherever it stands.
use Rattle.std.proofs.Common.{◌≡◌, ◌≢◌, ◌⊎◌, inl, inr, ℕ, zero, suc, ◌==◌, true, false, cond, not, Bool, List, [], ◌∷◌, ◌++◌, length, set, slice_get}
use Rattle.std.proofs.Common.{Option, Some, None, Ok, refl, sym, ap, ◌∙◌, subst, subst₂, true≢false}
use Rattle.std.proofs.lemmas.Bool.{cases_eq}
use Rattle.std.specs.FinSet as sets
use Rattle.std.specs.FinMap as fin
use Rattle.dots_core.specs.declared.dot.Dot.{Dot}
use Rattle.dots_core.proofs.OwnClock.{not_fresh}
use Rattle.payload_core.specs.Presences.{Presence, is_tracked_as}
use Rattle.payload_core.specs.Messages.{Message, AreSeen, numbered, message_of_names}
use Rattle.block_core.proofs.EntryMaps.{get-names}
use Rattle.payload_core.proofs.SeenEntries.{seen_none, seen-names}
use Rattle.replica_core.specs.declared.node_limits.NodeLimits.{NodeLimits}
use Rattle.replica_core.specs.declared.replica_fault.ReplicaFault.{ReplicaFault}
use Rattle.replica_core.specs.declared.replica_fault.ReplicaFault.TheVariants.{OwnReplica, NotKnown, NotDown}
use Rattle.replica_core.specs.declared.status.Status.TheVariants as statuses
use Rattle.replica_core.specs.Replicas.{Replica, fresh, is_known, is_online, forgotten, request_of}
use Rattle.replica_core.specs.Deliveries.{merged}
use Rattle.replica_core.specs.Refusals.{first_of, join_refusal, leave_refusal, leave_all_refusal, up_refusal, down_refusal, permdown_refusal, has_dots}
use Rattle.node_core.specs.Operations.{Operation, Join, Leave, LeaveAll, Update, Broadcast, Extract, Deliver, Request, Answer, Up, Down, Permdown, delivers}
use Rattle.node_core.specs.Nodes.{Node, opening_node, with_replica, with_sent, unless, take}
use Rattle.journal_core.specs.Journals.{Kept}
use Rattle.journal_core.proofs.Numbered.{get-append_at, numbered_push_other}
use Rattle.bench_core.specs.Clusters.{Cluster, outbox_of, message_at, message_for, opening_of, step}
use Rattle.bench_core.specs.Runs.{then_runs, runs}
use Rattle.bench_core.specs.Laws.{presence_made, OneEntryLaw, Stands, AtNode, InDelta, IsSent}
use Rattle.bench_core.proofs.Clusters.{get-set_same, get-set_other, stepped}
use Rattle.bench_core.proofs.Runs.{run_one, opening_at}
use Rattle.bench_core.proofs.Taken.{unless_ok, unless_full_ok, broadcast_ok, deliver_ok, extract_of, answer_ok}
use Rattle.bench_core.proofs.Sound.{IsSound, InMessage, ComesFrom, Change, no_entry, sound_opening, change_nothing, change_joined, change_left_each}
use Rattle.bench_core.proofs.Sound.{change_updated, change_merged, change_status, change_forgotten, change_sent}

-- what an accepted step does to its node

-- the message's entries were seen, and stand in the replica
pub record IsFrom (r : Replica) (k : Message) : Type 0 where
  pub seen : AreSeen k.seen k.entries
  pub stand : (d : Dot) (p : Presence) → fin.get k.entries d ≡ Some p → fin.get r.store.entries d ≡ Some p

-- the replica is changed so by this step, and what was sent is in it
pub record Changed (s : Operation) (x : Node) (m : Option Message) (y : Node) : Type 0 where
  pub change : Change x.replica m (presence_made s) y.replica
  pub sent : (i : ℕ) (k : Message) → numbered y.outbox i ≡ Some k → (numbered x.outbox i ≡ Some k) ⊎ IsFrom y.replica k

any_message : (r s : Replica) (m : Option Message) (new : Option Presence) → Change r None new s → Change r m new s
any_message r s m new c = record { own = c.own; sound = c.sound; keeps = c.keeps; comes = λ d p h. go d p (c.comes d p h); made = c.made }
  where
    go : (d : Dot) (p : Presence) → ComesFrom r None new d p → ComesFrom r m new d p
    go d p (inl e) = inl e
    go d p (inr (inl e)) = absurd e
    go d p (inr (inr e)) = inr (inr e)

by_replica : (s : Operation) (x : Node) (r : Replica) (m : Option Message) (y : Node) → y ≡ with_replica x r → Change x.replica m (presence_made s) r → Changed s x m y
by_replica s x r m y is c = subst (Changed s x m) (sym is) (record { change = c; sent = λ i k e. inl e })

alone : (s : Operation) (x : Node) (r : Replica) (m : Option Message) (y : Node) → y ≡ with_replica x r → Change x.replica None (presence_made s) r → Changed s x m y
alone s x r m y is c = by_replica s x r m y is (any_message x.replica r m (presence_made s) c)

pushed_cases : (xs : List Message) (k w : Message) (i : ℕ) → numbered (xs ++ k ∷ []) i ≡ Some w → (numbered xs i ≡ Some w) ⊎ (w ≡ k)
pushed_cases xs k w i h = go (cases_eq i (suc (length xs)))
  where
    go : (i ≡ suc (length xs)) ⊎ (i ≢ suc (length xs)) → (numbered xs i ≡ Some w) ⊎ (w ≡ k)
    go (inl e) = let at : Some w ≡ Some k = sym h ∙ ap (numbered (xs ++ k ∷ [])) e ∙ get-append_at xs [] k in inr (cc)
    go (inr d) = inl (sym (numbered_push_other xs k i d) ∙ h)

by_sending : (s : Operation) → None ≡ presence_made s → (x : Node) (r : Replica) (k : Message) (m : Option Message) (y : Node) → y ≡ with_sent x k r →
    Change x.replica None None r → IsFrom r k → Changed s x m y
by_sending s none x r k m y is c from = subst (Changed s x m) (sym is) (record {
  change = subst (λ new. Change x.replica m new r) none (any_message x.replica r m None c);
  sent = λ i w e. go i w (pushed_cases x.outbox k w i e);
})
  where
    go : (i : ℕ) (w : Message) → (numbered x.outbox i ≡ Some w) ⊎ (w ≡ k) → (numbered x.outbox i ≡ Some w) ⊎ IsFrom r w
    go i w (inl e) = inl e
    go i w (inr e) = inr (subst (IsFrom r) (sym e) from)

abbrev pub IfSeen : Option Message → Type 0
IfSeen None = Unit {0}
IfSeen (Some m) = AreSeen m.seen m.entries

another_name : (t : Bool) (rest : List (Bool × ReplicaFault)) (gives y : Node) → unless (first_of ((t, OwnReplica) ∷ rest)) gives ≡ Ok y → t ≡ false
another_name true rest gives y h = absurd (cc)
another_name false rest gives y h = refl

extract_from : (r : Replica) (named : ℕ → Bool) → IsSound r → IsFrom r (message_of_names named r.own r.store.seen r.store.entries)
extract_from r named h = record {
  seen = seen-names named r.store.seen r.store.entries h.live;
  stand = λ d p e. go d p (named d.name) (sym (get-names r.store.entries named d) ∙ e);
}
  where
    go : (d : Dot) (p : Presence) (b : Bool) → cond b (fin.get r.store.entries d) None ≡ Some p → fin.get r.store.entries d ≡ Some p
    go d p true e = e
    go d p false e = absurd (cc)

request_from : (r : Replica) → IsFrom r (request_of r)
request_from r = record { seen = seen_none sets.empty; stand = λ d p e. absurd (no_entry d p e) }

pub changed : (x : Node) (s : Operation) (m : Option Message) (y : Node) → IsSound x.replica → IfSeen m → take x s m ≡ Ok y → Changed s x m y
changed x (Join p) m y h seen t =
    alone (Join p) x _ m y (unless_ok (join_refusal x.replica p.pid p.topic p.key) _ y t) (change_joined x.replica p h)
changed x (Leave pid topic key) m y h seen t =
    alone (Leave pid topic key) x _ m y (unless_ok (leave_refusal x.replica pid topic key) _ y t) (change_left_each x.replica (is_tracked_as pid topic key) h)
changed x (LeaveAll pid) m y h seen t =
    alone (LeaveAll pid) x _ m y (unless_ok (leave_all_refusal x.replica pid) _ y t) (change_left_each x.replica (λ p. p.pid == pid) h)
changed x (Update p) m y h seen t =
    alone (Update p) x _ m y (unless_ok (leave_refusal x.replica p.pid p.topic p.key) _ y t)
    (change_updated x.replica (is_tracked_as p.pid p.topic p.key) p h)
changed x Broadcast m y h seen t =
    by_sending Broadcast refl x _ _ m y (broadcast_ok (has_dots x.replica.delta.seen) x y t) (change_sent x.replica h)
    (record { seen = h.delta_live; stand = h.delta_in })
changed x (Extract names) m y h seen t =
    by_sending (Extract names) refl x x.replica (extract_of x names) m y
    (unless_full_ok x _ y t) (change_nothing x.replica h) (extract_from x.replica (sets.contains names) h)
changed x (Deliver sender number) m y h seen t =
    let d = deliver_ok (sender == x.replica.own) x m y t in
    by_replica (Deliver sender number) x (merged d.0 x.replica) m y d.2 (subst (λ m. Change x.replica m None (merged d.0 x.replica)) (sym d.1)
    (change_merged x.replica d.0 h (subst IfSeen d.1 seen)))
changed x Request m y h seen t =
    by_sending Request refl x x.replica (request_of x.replica) m y (unless_full_ok x _ y t) (change_nothing x.replica h) (request_from x.replica)
changed x (Answer sender number) m y h seen t =
    let a = answer_ok (sender == x.replica.own) x m y t in
    by_sending (Answer sender number) refl x x.replica (extract_of x a.2.0) m y a.2.1 (change_nothing x.replica h) (extract_from x.replica (sets.contains a.2.0) h)
changed x (Up name) m y h seen t =
    alone (Up name) x _ m y (unless_ok (up_refusal x.replica name) _ y t) (change_status x.replica name statuses.Up h)
changed x (Down name) m y h seen t =
    alone (Down name) x _ m y (unless_ok (down_refusal x.replica name) _ y t) (change_status x.replica name statuses.Down h)
changed x (Permdown name) m y h seen t =
    alone (Permdown name) x _ m y (unless_ok (permdown_refusal x.replica name) _ y t)
    (change_forgotten x.replica name h (another_name (name == x.replica.own)
    ((not (is_known x.replica name), NotKnown) ∷ (is_online x.replica name, NotDown) ∷ []) (with_replica x (forgotten name x.replica)) y t))

-- clusters of runs

pub record SoundAt (n : ℕ) (x : Node) : Type 0 where
  pub own : x.replica.own ≡ n
  pub sound : IsSound x.replica
  pub messages : (i : ℕ) (k : Message) → numbered x.outbox i ≡ Some k → AreSeen k.seen k.entries

abbrev pub HeldAt : Node → Dot → Presence → Type 0
HeldAt x d p = (fin.get x.replica.store.entries d ≡ Some p) ⊎ ((i : ℕ) × (k : Message) × (numbered x.outbox i ≡ Some k) × (fin.get k.entries d ≡ Some p))

-- at a node or in a message
abbrev pub Held : Cluster → Dot → Presence → Type 0
Held c d p = (n : ℕ) × (x : Node) × (slice_get c n ≡ Some x) × HeldAt x d p

pub record Fine (c : Cluster) : Type 0 where
  pub each : (n : ℕ) (x : Node) → slice_get c n ≡ Some x → SoundAt n x
  -- a dot with an entry was seen at its own node
  pub seen : (d : Dot) (p : Presence) → Held c d p → (o : Node) × (slice_get c d.name ≡ Some o) × (sets.contains o.replica.store.seen d ≡ true)
  pub one : (d : Dot) (p q : Presence) → Held c d p → Held c d q → p ≡ q

-- a message that is read was sent
pub read_from : (c : Cluster) (o : Option (ℕ × ℕ)) (k : Message) → message_at c o ≡ Some k →
    (n i : ℕ) × (x : Node) × (slice_get c n ≡ Some x) × (numbered x.outbox i ≡ Some k)
read_from c None k h = absurd (cc)
read_from c (Some (sender, p)) k h = go (slice_get c sender) p refl h
  where
    go : (o : Option Node) (p : ℕ) → slice_get c sender ≡ o → numbered (outbox_of o) p ≡ Some k →
        (n i : ℕ) × (x : Node) × (slice_get c n ≡ Some x) × (numbered x.outbox i ≡ Some k)
    go None zero is h = absurd (cc)
    go None (suc i) is h = absurd (cc)
    go (Some x) i is h = (sender, i, x, is, h)

pub seen_read : (c : Cluster) (s : Operation) → Fine c → IfSeen (message_for c s)
seen_read c s fine = go (message_for c s) refl
  where
    go : (m : Option Message) → message_for c s ≡ m → IfSeen m
    go None is = tt
    go (Some k) is = let r = read_from c (delivers s) k is in (fine.each r.0 r.2 r.3).messages r.1 k r.4

module _ (c : Cluster) (n : ℕ) (s : Operation) (x y : Node) (at : slice_get c n ≡ Some x) (fine : Fine c) (ch : Changed s x (message_for c s) y) where
  abbrev pub after : Cluster
  after = set c n y

  there : slice_get after n ≡ Some y
  there = get-set_same c n x y at

  -- a node after the step: the one that changed, or one before
  node_cases : (j : ℕ) (z : Node) → slice_get after j ≡ Some z → ((j ≡ n) × (z ≡ y)) ⊎ ((j ≢ n) × (slice_get c j ≡ Some z))
  node_cases j z h = go (cases_eq j n)
    where
      go : (j ≡ n) ⊎ (j ≢ n) → ((j ≡ n) × (z ≡ y)) ⊎ ((j ≢ n) × (slice_get c j ≡ Some z))
      go (inl e) = let same : Some z ≡ Some y = sym h ∙ ap (slice_get after) e ∙ there in inl (e, cc)
      go (inr d) = inr (d, sym (get-set_other c n j y d) ∙ h)

  abbrev pub IsNew : Dot → Presence → Type 0
  IsNew d p = (d ≡ fresh x.replica) × (presence_made s ≡ Some p)

  entry_before : (d : Dot) (p : Presence) → ComesFrom x.replica (message_for c s) (presence_made s) d p → Held c d p ⊎ IsNew d p
  entry_before d p (inl e) = inl (n, x, at, inl e)
  entry_before d p (inr (inl e)) = inl (go (message_for c s) refl e)
    where
      go : (m : Option Message) → message_for c s ≡ m → InMessage m d p → Held c d p
      go None is e = absurd e
      go (Some k) is e = let r = read_from c (delivers s) k is in (r.0, r.2, r.3, inr (r.1, k, r.4, e))
  entry_before d p (inr (inr e)) = inr e

  at_changed : (d : Dot) (p : Presence) → HeldAt y d p → Held c d p ⊎ IsNew d p
  at_changed d p (inl e) = entry_before d p (ch.change.comes d p e)
  at_changed d p (inr e) = go (ch.sent e.0 e.1 e.2)
    where
      go : (numbered x.outbox e.0 ≡ Some e.1) ⊎ IsFrom y.replica e.1 → Held c d p ⊎ IsNew d p
      go (inl old) = inl (n, x, at, inr (e.0, e.1, old, e.3))
      go (inr from) = entry_before d p (ch.change.comes d p (from.stand d p e.3))

  pub held_before : (d : Dot) (p : Presence) → Held after d p → Held c d p ⊎ IsNew d p
  held_before d p (j, z, is, h) = go (node_cases j z is)
    where
      go : ((j ≡ n) × (z ≡ y)) ⊎ ((j ≢ n) × (slice_get c j ≡ Some z)) → Held c d p ⊎ IsNew d p
      go (inl e) = at_changed d p (subst (λ (z : Node). HeldAt z d p) e.1 h)
      go (inr e) = inl (j, z, e.1, h)

  own : x.replica.own ≡ n
  own = (fine.each n x at).own

  abbrev SeenAtOwn : Cluster → Dot → Type 0
  SeenAtOwn e d = (o : Node) × (slice_get e d.name ≡ Some o) × (sets.contains o.replica.store.seen d ≡ true)

  -- a dot that was seen at its own node is seen there
  still_seen : (d : Dot) → SeenAtOwn c d → SeenAtOwn after d
  still_seen d (o, is, h) = go (cases_eq d.name n)
    where
      go : (d.name ≡ n) ⊎ (d.name ≢ n) → SeenAtOwn after d
      go (inl e) =
          let same : o ≡ x = let here : Some o ≡ Some x = sym is ∙ ap (slice_get c) e ∙ at in cc in
          (y, ap (slice_get after) e ∙ there, ch.change.keeps d (e ∙ sym own) (subst (λ (o : Node). sets.contains o.replica.store.seen d ≡ true) same h))
      go (inr apart) = (o, get-set_other c n d.name y apart ∙ is, h)

  -- a fresh dot stood nowhere
  new_nowhere : (d : Dot) (p : Presence) → Held c d p → d ≡ fresh x.replica → ⊥
  new_nowhere d p h e =
      let old = fine.seen d p h in
      let here : d.name ≡ n = ap (λ (d : Dot). d.name) e ∙ own in
      let same : old.0 ≡ x = let one : Some old.0 ≡ Some x = sym old.1 ∙ ap (slice_get c) here ∙ at in cc in
      let was : sets.contains x.replica.store.seen (fresh x.replica) ≡ true =
      subst₂ (λ (o : Node) d. sets.contains o.replica.store.seen d ≡ true) same e old.2 in
      true≢false (sym was ∙ not_fresh x.replica.own x.replica.store.seen (fine.each n x at).sound.clocks)

  each_after : (j : ℕ) (z : Node) → ((j ≡ n) × (z ≡ y)) ⊎ ((j ≢ n) × (slice_get c j ≡ Some z)) → SoundAt j z
  each_after j z (inl e) = subst₂ SoundAt (sym e.0) (sym e.1) (record {
    own = ch.change.own ∙ own;
    sound = ch.change.sound;
    messages = λ i k is. message i k (ch.sent i k is);
  })
    where
      message : (i : ℕ) (k : Message) → (numbered x.outbox i ≡ Some k) ⊎ IsFrom y.replica k → AreSeen k.seen k.entries
      message i k (inl e) = (fine.each n x at).messages i k e
      message i k (inr e) = e.seen
  each_after j z (inr e) = fine.each j z e.1

  seen_after : (d : Dot) (p : Presence) → Held c d p ⊎ IsNew d p → SeenAtOwn after d
  seen_after d p (inl h) = still_seen d (fine.seen d p h)
  seen_after d p (inr e) = (
    y,
    ap (λ (d : Dot). slice_get after d.name) e.0 ∙ ap (slice_get after) own ∙ there,
    ap (sets.contains y.replica.store.seen) e.0 ∙ ch.change.made p e.1,
  )

  one_after : (d : Dot) (p q : Presence) → Held c d p ⊎ IsNew d p → Held c d q ⊎ IsNew d q → p ≡ q
  one_after d p q (inl h) (inl k) = fine.one d p q h k
  one_after d p q (inl h) (inr e) = absurd (new_nowhere d p h e.0)
  one_after d p q (inr e) (inl k) = absurd (new_nowhere d q k e.0)
  one_after d p q (inr e) (inr f) = let a = e.1 in let b = f.1 in cc

  fine_after : Fine after
  fine_after = record {
    each = λ j z is. each_after j z (node_cases j z is);
    seen = λ d p h. seen_after d p (held_before d p h);
    one = λ d p q h k. one_after d p q (held_before d p h) (held_before d q k);
  }

fine_step : (c d : Cluster) (k : Kept) → Fine c → step c k.node k.step ≡ Ok d → Fine d
fine_step c d k fine h =
    let st = stepped c k.node k.step d h in
    let ch = changed st.from k.step (message_for c k.step) st.to (fine.each k.node st.from st.at).sound (seen_read c k.step fine) st.taken in
    subst Fine (sym st.gives) (fine_after c k.node k.step st.from st.to st.at fine ch)

fine_runs : (c d : Cluster) (ks : List Kept) → Fine c → then_runs (Ok c) ks ≡ Ok d → Fine d
fine_runs c d [] fine h = subst Fine (cc) fine
fine_runs c d (k ∷ ks) fine h = let one = run_one c d k ks h in fine_runs one.0 d ks (fine_step c one.0 k fine one.1) one.2

fine_opening : (l : NodeLimits) (count : ℕ) → Fine (opening_of l count)
fine_opening l count = record {
  each = λ n x at. subst (SoundAt n) (sym (opening_at l count n x at))
      (record { own = refl; sound = sound_opening n l; messages = λ i k e. absurd (no_message i k e) });
  seen = λ d p h. absurd (none d p h);
  one = λ d p q h _. absurd (none d p h);
}
  where
    no_message : (i : ℕ) (k : Message) → numbered {X = Message} [] i ≡ Some k → ⊥
    no_message zero k e = cc
    no_message (suc i) k e = cc

    at_none : (n : ℕ) (d : Dot) (p : Presence) → HeldAt (opening_node n l) d p → ⊥
    at_none n d p (inl e) = no_entry d p e
    at_none n d p (inr e) = no_message e.0 e.1 e.2

    none : (d : Dot) (p : Presence) → Held (opening_of l count) d p → ⊥
    none d p (n, x, at, h) = at_none n d p (subst (λ (x : Node). HeldAt x d p) (opening_at l count n x at) h)

pub fine_run : (l : NodeLimits) (count : ℕ) (ks : List Kept) (c : Cluster) → runs l count ks ≡ Ok c → Fine c
fine_run l count ks c h = fine_runs (opening_of l count) c ks (fine_opening l count) h

held : (c : Cluster) (d : Dot) (p : Presence) → Fine c → Stands c d p → Held c d p
held c d p fine (AtNode n x at e) = (n, x, at, inl e)
held c d p fine (InDelta n x at e) = (n, x, at, inl ((fine.each n x at).sound.delta_in d p e))
held c d p fine (IsSent n i x m at is e) = (n, x, at, inr (i, m, is, e))

pub one_entry_holds : OneEntryLaw
one_entry_holds l count ks c d p q h a b =
    let fine = fine_run l count ks c h in
    fine.one d p q (held c d p fine a) (held c d q fine b)
