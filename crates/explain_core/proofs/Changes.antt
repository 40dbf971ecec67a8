-- What a step makes of how a dot stands at its node.
use Rattle.std.proofs.Common.{◌≡◌, ◌≢◌, ◌⊎◌, inl, inr, ℕ, ◌<◌, ◌≤◌, ◌==◌, max, not, Bool, true, false, if◌then◌else◌, List, [], ◌∷◌}
use Rattle.std.proofs.Common.{slice_get, Option, Some, None, is_some, Ok, refl, sym, ap, ap₂, ◌∙◌, subst, subst₂, true≢false, arith}
use Rattle.std.proofs.lemmas.Bool.{cases_eq, ne_eqb}
use Rattle.std.specs.FinMap as fin
use Rattle.std.specs.FinSet as set
use Rattle.dots_core.specs.declared.dot.Dot.{Dot}
use Rattle.dots_core.specs.Dots.{Dots}
use Rattle.dots_core.proofs.OwnClock.{not_fresh}
use Rattle.dots_core.proofs.Sets.{contains_insert_more, of_names_has}
use Rattle.payload_core.specs.Presences.{Presence, is_tracked_as}
use Rattle.payload_core.specs.Messages.{AreSeen, Message}
use Rattle.store_core.specs.Stores.{Store, is_other}
use Rattle.replica_core.specs.declared.replica_fault.ReplicaFault.{ReplicaFault}
use Rattle.replica_core.specs.declared.replica_fault.ReplicaFault.TheVariants.{OwnReplica, NotKnown, NotDown}
use Rattle.replica_core.specs.declared.status.Status.TheVariants as statuses
use Rattle.replica_core.specs.Replicas.{Replica, dots_of_process, dropped, dropped_each, forgotten, fresh, is_known, is_online, joined, left, left_each}
use Rattle.replica_core.specs.Replicas.{tracked_dots, updated, with_status}
use Rattle.replica_core.specs.Deliveries.{is_other_known, merged}
use Rattle.replica_core.specs.Refusals.{first_of, join_refusal, leave_refusal, leave_all_refusal, up_refusal, down_refusal, permdown_refusal, has_dots}
use Rattle.replica_core.proofs.Deliveries.{standing_holds}
use Rattle.node_core.specs.Operations.{Operation, Join, Leave, LeaveAll, Update, Broadcast, Extract, Deliver, Request, Answer, Up, Down, Permdown}
use Rattle.node_core.specs.Operations.{delivers, sends}
use Rattle.node_core.specs.Nodes.{Node, take, unless, with_replica}
use Rattle.journal_core.specs.Journals.{Kept}
use Rattle.bench_core.specs.Clusters.{Cluster, message_for, step}
use Rattle.bench_core.proofs.Clusters.{Stepped, get-set_same, stepped}
use Rattle.bench_core.proofs.OneEntry.{Fine, read_from}
use Rattle.bench_core.proofs.Sound.{Change, ComesFrom, IsSound, change_forgotten, change_joined, change_left_each, change_status, change_updated}
use Rattle.bench_core.proofs.Taken.{answer_ok, broadcast_ok, deliver_ok, unless_full_ok, unless_ok}
use Rattle.explain_core.specs.Standings.{is_above, is_same, outbox_of, standing_by, standing_in, standing_of, standing_told}
use Rattle.explain_core.specs.declared.standing.Standing.{Standing}
use Rattle.explain_core.specs.declared.standing.Standing.TheVariants.{Unseen, Live, Gone}
use Rattle.explain_core.proofs.Along.{outbox_at, told_in}
use Rattle.explain_core.proofs.Hops.{is_itself}

-- standings by their order

abbrev pub rank : Standing → ℕ
rank Unseen = 0
rank Live = 1
rank Gone = 2

few_ranks : (a : Standing) → rank a ≤ 2
few_ranks Unseen = omega arith
few_ranks Live = omega arith
few_ranks Gone = omega arith

pub same_rank : (a b : Standing) → rank a ≡ rank b → a ≡ b
same_rank Unseen Unseen e = refl
same_rank Live Live e = refl
same_rank Gone Gone e = refl
same_rank Unseen Live e = absurd (omega arith)
same_rank Unseen Gone e = absurd (omega arith)
same_rank Live Unseen e = absurd (omega arith)
same_rank Live Gone e = absurd (omega arith)
same_rank Gone Unseen e = absurd (omega arith)
same_rank Gone Live e = absurd (omega arith)

pub above_rank : (a b : Standing) → is_above a b ≡ true → rank b < rank a
above_rank Unseen Unseen e = absurd (cc)
above_rank Unseen Live e = absurd (cc)
above_rank Unseen Gone e = absurd (cc)
above_rank Live Unseen e = omega arith
above_rank Live Live e = absurd (cc)
above_rank Live Gone e = absurd (cc)
above_rank Gone Unseen e = omega arith
above_rank Gone Live e = omega arith
above_rank Gone Gone e = absurd (cc)

pub other_rank : (a b : Standing) → is_above a b ≡ false → rank a ≤ rank b
other_rank Unseen Unseen e = omega arith
other_rank Unseen Live e = omega arith
other_rank Unseen Gone e = omega arith
other_rank Live Unseen e = absurd (cc)
other_rank Live Live e = omega arith
other_rank Live Gone e = omega arith
other_rank Gone Unseen e = absurd (cc)
other_rank Gone Live e = absurd (cc)
other_rank Gone Gone e = omega arith

pub not_above : (a b : Standing) → rank a ≤ rank b → not (is_above a b) ≡ true
not_above Unseen Unseen low = refl
not_above Unseen Live low = refl
not_above Unseen Gone low = refl
not_above Live Unseen low = absurd (omega arith)
not_above Live Live low = refl
not_above Live Gone low = refl
not_above Gone Unseen low = absurd (omega arith)
not_above Gone Live low = absurd (omega arith)
not_above Gone Gone low = refl

rank_by : (o : Option Presence) (b : Bool) → rank (standing_by o b) ≡ (if is_some o then 1 else (if b then 2 else 0))
rank_by (Some p) b = refl
rank_by None true = refl
rank_by None false = refl

-- what a delivery of a message brings in which the dot stands so

pub data Brought (before told after : Standing) : Type 0 where
  Stays : after ≡ before → Brought before told after
  Greater : rank after ≡ max (rank before) (rank told) → Brought before told after

pub raised : (before told after : Standing) → Brought before told after → rank before ≤ rank after
raised before told after (Stays e) = let same = ap rank e in omega arith
raised before told after (Greater e) = omega arith

-- where it stands otherwise afterwards, it stands as it was told
pub came : (before told after : Standing) → Brought before told after → is_same before after ≡ false → (told ≡ after) × (after ≢ Unseen)
came before told after (Stays e) changed =
    absurd (true≢false (sym (is_itself before) ∙ ap (is_same before) (sym e) ∙ changed))
came before told after (Greater e) changed =
    let other : rank before ≢ rank after =
    λ same. true≢false (sym (is_itself before) ∙ ap (is_same before) (same_rank before after same) ∙ changed) in
    (same_rank told after (omega arith), λ unseen. let none : rank after ≡ 0 = ap rank unseen in other (omega arith))

brought_in : (r : Replica) (m : Message) (d : Dot) → IsSound r → AreSeen m.seen m.entries →
    Brought (standing_in r.store.seen r.store.entries d) (standing_in m.seen m.entries d)
    (standing_in (merged m r).store.seen (merged m r).store.entries d)
brought_in r m d sound seen = go (is_other_known r d.name) refl
  where
    before : rank (standing_in r.store.seen r.store.entries d) ≡
        (if is_some (fin.get r.store.entries d) then 1 else (if set.contains r.store.seen d then 2 else 0))
    before = rank_by (fin.get r.store.entries d) (set.contains r.store.seen d)

    told : rank (standing_in m.seen m.entries d) ≡ (if is_some (fin.get m.entries d) then 1 else (if set.contains m.seen d then 2 else 0))
    told = rank_by (fin.get m.entries d) (set.contains m.seen d)

    after : rank (standing_in (merged m r).store.seen (merged m r).store.entries d) ≡
        (if is_some (fin.get (merged m r).store.entries d) then 1 else (if set.contains (merged m r).store.seen d then 2 else 0))
    after = rank_by (fin.get (merged m r).store.entries d) (set.contains (merged m r).store.seen d)

    go : (b : Bool) → is_other_known r d.name ≡ b →
        Brought (standing_in r.store.seen r.store.entries d) (standing_in m.seen m.entries d)
        (standing_in (merged m r).store.seen (merged m r).store.entries d)
    go true is = Greater (after ∙ (standing_holds m r sound.live seen).known d is ∙ ap₂ max (sym before) (sym told))
    go false is = Stays (same_rank _ _ (after ∙ (standing_holds m r sound.live seen).others d is ∙ sym before))

-- steps that neither send nor deliver

by_replica : (x y : Node) (r : Replica) (new : Option Presence) → y ≡ with_replica x r → Change x.replica None new r →
    (new : Option Presence) × Change x.replica None new y.replica
by_replica x y r new is change = (new, subst (λ (z : Node). Change x.replica None new z.replica) (sym is) change)

another_name : (t : Bool) (rest : List (Bool × ReplicaFault)) (gives y : Node) → unless (first_of ((t, OwnReplica) ∷ rest)) gives ≡ Ok y → t ≡ false
another_name true rest gives y h = absurd (cc)
another_name false rest gives y h = refl

quiet : (x y : Node) (s : Operation) (m : Option Message) → IsSound x.replica → sends s ≡ false → delivers s ≡ None → take x s m ≡ Ok y →
    (new : Option Presence) × Change x.replica None new y.replica
quiet x y (Join p) m sound silent none t =
    by_replica x y _ (Some p) (unless_ok (join_refusal x.replica p.pid p.topic p.key) _ y t) (change_joined x.replica p sound)
quiet x y (Leave pid topic key) m sound silent none t =
    by_replica x y _ None (unless_ok (leave_refusal x.replica pid topic key) _ y t) (change_left_each x.replica (is_tracked_as pid topic key) sound)
quiet x y (LeaveAll pid) m sound silent none t =
    by_replica x y _ None (unless_ok (leave_all_refusal x.replica pid) _ y t) (change_left_each x.replica (λ p. p.pid == pid) sound)
quiet x y (Update p) m sound silent none t =
    by_replica x y _ (Some p) (unless_ok (leave_refusal x.replica p.pid p.topic p.key) _ y t)
    (change_updated x.replica (is_tracked_as p.pid p.topic p.key) p sound)
quiet x y Broadcast m sound silent none t = absurd (cc)
quiet x y (Extract names) m sound silent none t = absurd (cc)
quiet x y (Deliver sender number) m sound silent none t = absurd (cc)
quiet x y Request m sound silent none t = absurd (cc)
quiet x y (Answer sender number) m sound silent none t = absurd (cc)
quiet x y (Up name) m sound silent none t =
    by_replica x y _ None (unless_ok (up_refusal x.replica name) _ y t) (change_status x.replica name statuses.Up sound)
quiet x y (Down name) m sound silent none t =
    by_replica x y _ None (unless_ok (down_refusal x.replica name) _ y t) (change_status x.replica name statuses.Down sound)
quiet x y (Permdown name) m sound silent none t =
    by_replica x y _ None (unless_ok (permdown_refusal x.replica name) _ y t)
    (change_forgotten x.replica name sound (another_name (name == x.replica.own)
    ((not (is_known x.replica name), NotKnown) ∷ (is_online x.replica name, NotDown) ∷ []) (with_replica x (forgotten name x.replica)) y t))

-- such a step forgets the dot, or leaves or raises its standing
still : (r s : Replica) (new : Option Presence) (d : Dot) → IsSound r → Change r None new s →
    (standing_in s.store.seen s.store.entries d ≡ Unseen) ⊎ (rank (standing_in r.store.seen r.store.entries d) ≤ rank (standing_in s.store.seen s.store.entries d))
still r s new d sound change =
    go (fin.get r.store.entries d) (set.contains r.store.seen d) (fin.get s.store.entries d) (set.contains s.store.seen d) refl refl refl
  where
    unseen : (q : Presence) → fin.get r.store.entries d ≡ None → set.contains r.store.seen d ≡ true → ComesFrom r None new d q → ⊥
    unseen q was seen (inl e) = cc
    unseen q was seen (inr (inl e)) = e
    unseen q was seen (inr (inr e)) =
        true≢false (sym seen ∙ ap (set.contains r.store.seen) e.0 ∙ not_fresh r.own r.store.seen sound.clocks)

    go : (o : Option Presence) (b : Bool) (q : Option Presence) (t : Bool) → fin.get r.store.entries d ≡ o → set.contains r.store.seen d ≡ b →
        fin.get s.store.entries d ≡ q → (standing_by q t ≡ Unseen) ⊎ (rank (standing_by o b) ≤ rank (standing_by q t))
    go o b None false was seen now = inl refl
    go o b None true was seen now = inr (few_ranks (standing_by o b))
    go (Some p) b (Some q) t was seen now = inr (omega arith)
    go None false (Some q) t was seen now = inr (omega arith)
    go None true (Some q) t was seen now = absurd (unseen q was seen (change.comes d q now))

-- such a step forgets no dot but those of a name that it takes permanently down

left_keeps : (d : Dot) (ds : List Dot) (r : Replica) → set.contains r.store.seen d ≡ true → set.contains (left_each ds r).store.seen d ≡ true
left_keeps d [] r seen = seen
left_keeps d (e ∷ ds) r seen = left_keeps d ds (left e r) (contains_insert_more r.store.seen (fresh (dropped e r)) d seen)

dropped_keeps : (ds : List Dot) (r : Replica) → (dropped_each ds r).store.seen ≡ r.store.seen
dropped_keeps [] r = refl
dropped_keeps (e ∷ ds) r = dropped_keeps ds (dropped e r)

lost : (x y : Node) (r : Replica) (d : Dot) → y ≡ with_replica x r → set.contains r.store.seen d ≡ true → set.contains y.replica.store.seen d ≡ false → ⊥
lost x y r d is seen gone = true≢false (sym seen ∙ ap (λ (z : Node). set.contains z.replica.store.seen d) (sym is) ∙ gone)

forgets : (x y : Node) (s : Operation) (m : Option Message) (d : Dot) → sends s ≡ false → delivers s ≡ None → take x s m ≡ Ok y →
    set.contains x.replica.store.seen d ≡ true → set.contains y.replica.store.seen d ≡ false → s ≡ Permdown d.name
forgets x y (Join p) m d silent none t seen gone =
    absurd (lost x y (joined p x.replica) d (unless_ok (join_refusal x.replica p.pid p.topic p.key) _ y t)
    (contains_insert_more x.replica.store.seen (fresh x.replica) d seen) gone)
forgets x y (Leave pid topic key) m d silent none t seen gone =
    let ds = tracked_dots x.replica pid topic key in
    absurd (lost x y (left_each ds x.replica) d (unless_ok (leave_refusal x.replica pid topic key) _ y t) (left_keeps d ds x.replica seen) gone)
forgets x y (LeaveAll pid) m d silent none t seen gone =
    let ds = dots_of_process x.replica pid in
    absurd (lost x y (left_each ds x.replica) d (unless_ok (leave_all_refusal x.replica pid) _ y t) (left_keeps d ds x.replica seen) gone)
forgets x y (Update p) m d silent none t seen gone =
    let r : Replica = dropped_each (tracked_dots x.replica p.pid p.topic p.key) x.replica in
    let kept = dropped_keeps (tracked_dots x.replica p.pid p.topic p.key) x.replica in
    absurd (lost x y (updated p x.replica) d (unless_ok (leave_refusal x.replica p.pid p.topic p.key) _ y t)
    (contains_insert_more r.store.seen (fresh r) d (ap (λ (s : Dots). set.contains s d) kept ∙ seen)) gone)
forgets x y Broadcast m d silent none t seen gone = absurd (cc)
forgets x y (Extract names) m d silent none t seen gone = absurd (cc)
forgets x y (Deliver sender number) m d silent none t seen gone = absurd (cc)
forgets x y Request m d silent none t seen gone = absurd (cc)
forgets x y (Answer sender number) m d silent none t seen gone = absurd (cc)
forgets x y (Up name) m d silent none t seen gone =
    absurd (lost x y (with_status name statuses.Up x.replica) d (unless_ok (up_refusal x.replica name) _ y t) seen gone)
forgets x y (Down name) m d silent none t seen gone =
    absurd (lost x y (with_status name statuses.Down x.replica) d (unless_ok (down_refusal x.replica name) _ y t) seen gone)
forgets x y (Permdown name) m d silent none t seen gone = go (cases_eq d.name name)
  where
    go : (d.name ≡ name) ⊎ (d.name ≢ name) → Permdown name ≡ Permdown d.name
    go (inl is) = ap Permdown (sym is)
    go (inr other) =
        absurd (lost x y (forgotten name x.replica) d (unless_ok (permdown_refusal x.replica name) _ y t)
        (of_names_has x.replica.store.seen (is_other name) d seen (ap not (ne_eqb d.name name other))) gone)

was_seen : (r : Replica) (d : Dot) → IsSound r → is_above (standing_in r.store.seen r.store.entries d) Unseen ≡ true →
    set.contains r.store.seen d ≡ true
was_seen r d sound high = go (fin.get r.store.entries d) (set.contains r.store.seen d) refl refl high
  where
    go : (o : Option Presence) (b : Bool) → fin.get r.store.entries d ≡ o → set.contains r.store.seen d ≡ b →
        is_above (standing_by o b) Unseen ≡ true → set.contains r.store.seen d ≡ true
    go (Some p) b at is high = sound.live d (ap is_some at)
    go None true at is high = is
    go None false at is high = absurd (cc)

not_seen : (o : Option Presence) (b : Bool) → standing_by o b ≡ Unseen → b ≡ false
not_seen (Some p) b is = absurd (cc)
not_seen None true is = absurd (cc)
not_seen None false is = refl

-- a step that sends changes neither what was seen nor the entries
same_store : (x y : Node) (s : Operation) (m : Option Message) → sends s ≡ true → take x s m ≡ Ok y → y.replica.store ≡ x.replica.store
same_store x y (Join p) m sending t = absurd (cc)
same_store x y (Leave pid topic key) m sending t = absurd (cc)
same_store x y (LeaveAll pid) m sending t = absurd (cc)
same_store x y (Update p) m sending t = absurd (cc)
same_store x y Broadcast m sending t = ap (λ (z : Node). z.replica.store) (broadcast_ok (has_dots x.replica.delta.seen) x y t)
same_store x y (Extract names) m sending t = ap (λ (z : Node). z.replica.store) (unless_full_ok x _ y t)
same_store x y (Deliver sender number) m sending t = absurd (cc)
same_store x y Request m sending t = ap (λ (z : Node). z.replica.store) (unless_full_ok x _ y t)
same_store x y (Answer sender number) m sending t =
    let a = answer_ok (sender == x.replica.own) x m y t in ap (λ (z : Node). z.replica.store) a.2.1
same_store x y (Up name) m sending t = absurd (cc)
same_store x y (Down name) m sending t = absurd (cc)
same_store x y (Permdown name) m sending t = absurd (cc)

pub is_delivery : (s : Operation) (q : ℕ × ℕ) → sends s ≡ false → delivers s ≡ Some q → s ≡ Deliver q.0 q.1
is_delivery (Join p) q silent at = absurd (cc)
is_delivery (Leave pid topic key) q silent at = absurd (cc)
is_delivery (LeaveAll pid) q silent at = absurd (cc)
is_delivery (Update p) q silent at = absurd (cc)
is_delivery Broadcast q silent at = absurd (cc)
is_delivery (Extract names) q silent at = absurd (cc)
is_delivery (Deliver sender number) q silent at =
    let same : ◌≡◌ {A = ℕ × ℕ} (sender, number) q = cc in ap (λ (q : ℕ × ℕ). Deliver q.0 q.1) same
is_delivery Request q silent at = absurd (cc)
is_delivery (Answer sender number) q silent at = absurd (cc)
is_delivery (Up name) q silent at = absurd (cc)
is_delivery (Down name) q silent at = absurd (cc)
is_delivery (Permdown name) q silent at = absurd (cc)

-- a step of a cluster

module _ (c next : Cluster) (k : Kept) (d : Dot) (fine : Fine c) (taken : step c k.node k.step ≡ Ok next) where
  abbrev s : Stepped c k.node k.step next
  s = stepped c k.node k.step next taken

  pub was : standing_of (slice_get c k.node) d ≡ standing_of (Some s.from) d
  was = ap (λ (o : Option Node). standing_of o d) s.at

  pub is : standing_of (slice_get next k.node) d ≡ standing_of (Some s.to) d
  is = ap (λ (o : Option Node). standing_of o d) (ap (λ (d : Cluster). slice_get d k.node) s.gives ∙ get-set_same c k.node s.from s.to s.at)

  pub sent_stays : sends k.step ≡ true → standing_of (slice_get next k.node) d ≡ standing_of (slice_get c k.node) d
  sent_stays sending =
      is ∙ ap (λ (t : Store). standing_in t.seen t.entries d) (same_store s.from s.to k.step (message_for c k.step) sending s.taken) ∙ sym was

  -- a delivery reads a message
  record Reads (q : ℕ × ℕ) : Type 0 where
    message : Message
    there : outbox_of (slice_get c q.0) q.1 ≡ Some message
    gives : s.to ≡ with_replica s.from (merged message s.from.replica)
    seen : AreSeen message.seen message.entries

  reads : (q : ℕ × ℕ) → sends k.step ≡ false → delivers k.step ≡ Some q → Reads q
  reads q silent at =
      let took : take s.from (Deliver q.0 q.1) (message_for c (Deliver q.0 q.1)) ≡ Ok s.to =
      subst (λ (o : Operation). take s.from o (message_for c o) ≡ Ok s.to) (is_delivery k.step q silent at) s.taken in
      let read = deliver_ok (q.0 == s.from.replica.own) s.from (message_for c (Deliver q.0 q.1)) s.to took in
      let sent = read_from c (Some q) read.0 read.1 in
      record {
        message = read.0;
        there = outbox_at (slice_get c q.0) q.1 ∙ read.1;
        gives = read.2;
        seen = (fine.each sent.0 sent.2 sent.3).messages sent.1 read.0 sent.4;
      }

  pub delivery_reads : (q : ℕ × ℕ) → sends k.step ≡ false → delivers k.step ≡ Some q → (m : Message) × (outbox_of (slice_get c q.0) q.1 ≡ Some m)
  delivery_reads q silent at = let read = reads q silent at in (read.message, read.there)

  pub delivery_brings : (q : ℕ × ℕ) → sends k.step ≡ false → delivers k.step ≡ Some q →
      Brought (standing_of (slice_get c k.node) d) (told_in c q.0 q.1 d) (standing_of (slice_get next k.node) d)
  delivery_brings q silent at =
      let read = reads q silent at in
      let told : told_in c q.0 q.1 d ≡ standing_told (Some read.message) d = ap (λ (o : Option Message). standing_told o d) read.there in
      let now : standing_of (slice_get next k.node) d ≡ standing_of (Some (with_replica s.from (merged read.message s.from.replica))) d =
      is ∙ ap (λ (x : Node). standing_of (Some x) d) read.gives in
      let brought = brought_in s.from.replica read.message d (fine.each k.node s.from s.at).sound read.seen in
      subst (λ a. Brought a (told_in c q.0 q.1 d) (standing_of (slice_get next k.node) d)) (sym was)
      (subst₂ (λ b e. Brought (standing_of (Some s.from) d) b e) (sym told) (sym now) brought)

  pub quiet_keeps : sends k.step ≡ false → delivers k.step ≡ None →
      (standing_of (slice_get next k.node) d ≡ Unseen) ⊎ (rank (standing_of (slice_get c k.node) d) ≤ rank (standing_of (slice_get next k.node) d))
  quiet_keeps silent none =
      let sound = (fine.each k.node s.from s.at).sound in
      let change = quiet s.from s.to k.step (message_for c k.step) sound silent none s.taken in
      let before = ap rank was in
      let after = ap rank is in
      elim (still s.from.replica s.to.replica change.0 d sound change.1) [
        | inl e ↦ inl (is ∙ e)
        | inr low ↦ inr (omega arith)
      ]

  pub quiet_forgets : sends k.step ≡ false → delivers k.step ≡ None → standing_of (slice_get next k.node) d ≡ Unseen →
      is_above (standing_of (slice_get c k.node) d) Unseen ≡ true → k.step ≡ Permdown d.name
  quiet_forgets silent none gone high =
      let sound = (fine.each k.node s.from s.at).sound in
      let seen = was_seen s.from.replica d sound (ap (λ a. is_above a Unseen) (sym was) ∙ high) in
      let unseen =
      not_seen (fin.get s.to.replica.store.entries d) (set.contains s.to.replica.store.seen d) (sym is ∙ gone) in
      forgets s.from s.to k.step (message_for c k.step) d silent none s.taken seen unseen
