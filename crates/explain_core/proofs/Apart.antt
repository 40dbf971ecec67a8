-- Dots that a step doesn't reach.
use Rattle.std.proofs.Common.{◌≡◌, ◌≢◌, ℕ, ◌+◌, ◌*◌, ◌≤◌, ◌==◌, ◌&&◌, not, Bool, true, false, cond, if◌then◌else◌, List, [], ◌∷◌, ◌++◌, length, map, filter}
use Rattle.std.proofs.Common.{slice_get, set as set_at, Option, Some, None, Ok, refl, sym, ap, ap₂, ◌∙◌, subst, arith}
use Rattle.std.proofs.lemmas.Bool.{and_parts, eqb-false, eqb-true}
use Rattle.std.specs.FinMap as fin
use Rattle.std.specs.FinSet as set
use Rattle.dots_core.specs.declared.dot.Dot.{Dot}
use Rattle.dots_core.proofs.Sets.{contains-retain, contains_insert_other}
use Rattle.payload_core.specs.Presences.{Presence, is_tracked_as}
use Rattle.payload_core.specs.Messages.{Message}
use Rattle.store_core.specs.Stores.{is_other}
use Rattle.block_core.proofs.EntryMaps.{get-names, get_insert_other, get_remove_other}
use Rattle.replica_core.specs.declared.status.Status.TheVariants as statuses
use Rattle.replica_core.specs.Replicas.{Replica, dots_of_process, dropped, dropped_each, forgotten, fresh, joined, left, left_each, own_dots, tracked_dots, updated, with_status}
use Rattle.replica_core.specs.Refusals.{down_refusal, join_refusal, leave_all_refusal, leave_refusal, permdown_refusal, up_refusal}
use Rattle.node_core.specs.Operations.{Operation, Join, Leave, LeaveAll, Update, Broadcast, Extract, Deliver, Request, Answer, Up, Down, Permdown, delivers, sends}
use Rattle.node_core.specs.Nodes.{Node, take, with_replica}
use Rattle.journal_core.specs.Journals.{Kept, NumbersRise}
use Rattle.bench_core.specs.Clusters.{Cluster, message_for, step}
use Rattle.bench_core.specs.Machine.{Machine}
use Rattle.bench_core.proofs.OneEntry.{Fine}
use Rattle.bench_core.proofs.Taken.{unless_ok}
use Rattle.explain_core.specs.Standings.{is_above, is_same, last_message, standing_at, standing_by, standing_of, standing_sent}
use Rattle.explain_core.specs.Tracks.{Track, delivered_hop, followed, hop_at, hop_of, is_changed, is_told, other_hop, reaches, reaches_by, received_hop, sender_among, sent_hop, with_hop, with_stand}
use Rattle.explain_core.specs.declared.hop.Hop.{Hop}
use Rattle.explain_core.specs.declared.hop.Kind.TheVariants.{Came, Forgot, Missed}
use Rattle.explain_core.specs.declared.hop.Stand.{Stand}
use Rattle.explain_core.specs.declared.standing.Standing.{Standing}
use Rattle.explain_core.specs.declared.standing.Standing.TheVariants.{Unseen, Live, Gone}
use Rattle.explain_core.proofs.Along.{told_in}
use Rattle.explain_core.proofs.Changes.{Brought, Greater, Stays, delivery_brings, is, same_rank, sent_stays, was}
use Rattle.explain_core.proofs.Followed.{Along}
use Rattle.explain_core.proofs.Followed as followed_by
use Rattle.explain_core.proofs.Hops.{hop_delivered, hop_other, is_itself}

-- a replica holds of a dot what another does

record SameAt (r s : Replica) (d : Dot) : Type 0 where
  get : fin.get s.store.entries d ≡ fin.get r.store.entries d
  seen : set.contains s.store.seen d ≡ set.contains r.store.seen d

same_itself : (r : Replica) (d : Dot) → SameAt r r d
same_itself r d = record { get = refl; seen = refl }

same_then : (r s t : Replica) (d : Dot) → SameAt r s d → SameAt s t d → SameAt r t d
same_then r s t d a b = record { get = b.get ∙ a.get; seen = b.seen ∙ a.seen }

-- a dot of another name than the replica's is none of its own

module _ (d : Dot) where
  apart : (own : ℕ) (x : Dot) → d.name ≢ own → x.name ≡ own → d ≢ x
  apart own x other mine same = other (ap (λ (e : Dot). e.name) same ∙ mine)

  dropped_apart : (r : Replica) (x : Dot) → d ≢ x → SameAt r (dropped x r) d
  dropped_apart r x other = record { get = get_remove_other r.store.entries x d other; seen = refl }

  joined_apart : (r : Replica) (p : Presence) → d.name ≢ r.own → SameAt r (joined p r) d
  joined_apart r p other =
      let new = apart r.own (fresh r) other refl in
      record { get = get_insert_other r.store.entries (fresh r) d p new; seen = contains_insert_other r.store.seen (fresh r) d new }

  left_apart : (r : Replica) (x : Dot) → d.name ≢ r.own → x.name ≡ r.own → SameAt r (left x r) d
  left_apart r x other mine =
      record {
        get = get_remove_other r.store.entries x d (apart r.own x other mine);
        seen = contains_insert_other r.store.seen (fresh (dropped x r)) d (apart r.own (fresh (dropped x r)) other refl);
      }

  abbrev AreNamed : ℕ → List Dot → Type 0
  AreNamed name [] = Unit {0}
  AreNamed name (x ∷ xs) = (x.name ≡ name) × AreNamed name xs

  named_among : (name : ℕ) (test : Presence → Bool) (es : List (Dot × Presence)) →
      AreNamed name (map (λ e. e.0) (filter (λ e. (e.0.name == name) && test e.1) es))
  named_among name test [] = tt
  named_among name test (e ∷ es) = go ((e.0.name == name) && test e.1) refl (named_among name test es)
    where
      go : (b : Bool) → ((e.0.name == name) && test e.1) ≡ b →
          AreNamed name (map (λ e. e.0) (filter (λ e. (e.0.name == name) && test e.1) es))
          → AreNamed name (map (λ e. e.0) (cond b (e ∷ filter (λ e. (e.0.name == name) && test e.1) es)
          (filter (λ e. (e.0.name == name) && test e.1) es)))
      go true is rest = (eqb-true e.0.name name (and_parts (e.0.name == name) (test e.1) is).0, rest)
      go false is rest = rest

  own_named : (r : Replica) (test : Presence → Bool) → AreNamed r.own (own_dots r test)
  own_named r test = named_among r.own test (fin.entries r.store.entries)

  left_each_apart : (r : Replica) (xs : List Dot) → d.name ≢ r.own → AreNamed r.own xs → SameAt r (left_each xs r) d
  left_each_apart r [] other mine = same_itself r d
  left_each_apart r (x ∷ xs) other mine =
      same_then r (left x r) (left_each xs (left x r)) d (left_apart r x other mine.0) (left_each_apart (left x r) xs other mine.1)

  record DropsApart (r s : Replica) : Type 0 where
    same : SameAt r s d
    own : s.own ≡ r.own

  dropped_each_apart : (r : Replica) (xs : List Dot) → d.name ≢ r.own → AreNamed r.own xs → DropsApart r (dropped_each xs r)
  dropped_each_apart r [] other mine = record { same = same_itself r d; own = refl }
  dropped_each_apart r (x ∷ xs) other mine =
      let rest = dropped_each_apart (dropped x r) xs other mine.1 in
      record {
        same = same_then r (dropped x r) (dropped_each xs (dropped x r)) d (dropped_apart r x (apart r.own x other mine.0)) rest.same;
        own = rest.own;
      }

  updated_apart : (r : Replica) (p : Presence) → d.name ≢ r.own → SameAt r (updated p r) d
  updated_apart r p other =
      let xs = tracked_dots r p.pid p.topic p.key in
      let drops = dropped_each_apart r xs other (own_named r (is_tracked_as p.pid p.topic p.key)) in
      same_then r (dropped_each xs r) (joined p (dropped_each xs r)) d drops.same
      (joined_apart (dropped_each xs r) p (λ is. other (is ∙ drops.own)))

  both : (b : Bool) → (b && true) ≡ b
  both true = refl
  both false = refl

  forgotten_apart : (r : Replica) (name : ℕ) → (d.name == name) ≡ false → SameAt r (forgotten name r) d
  forgotten_apart r name other =
      let stays : is_other name d.name ≡ true = ap not other in
      record {
        get = get-names r.store.entries (is_other name) d ∙ ap (λ b. cond b (fin.get r.store.entries d) None) stays;
        seen =
            contains-retain r.store.seen (λ e. is_other name e.name) d ∙ ap (λ (b : Bool). set.contains r.store.seen d && b) stays
            ∙ both (set.contains r.store.seen d);
      }

  -- a step that neither sends nor delivers

  by_step : (x y : Node) (r : Replica) → y ≡ with_replica x r → SameAt x.replica r d → SameAt x.replica y.replica d
  by_step x y r is same = subst (λ (z : Node). SameAt x.replica z.replica d) (sym is) same

  quiet_apart : (x y : Node) (s : Operation) (m : Option Message) → sends s ≡ false → delivers s ≡ None → take x s m ≡ Ok y →
      is_changed s x.replica.own d.name ≡ false → SameAt x.replica y.replica d
  quiet_apart x y (Join p) m silent none t other =
      by_step x y (joined p x.replica) (unless_ok (join_refusal x.replica p.pid p.topic p.key) _ y t)
      (joined_apart x.replica p (eqb-false d.name x.replica.own other))
  quiet_apart x y (Leave pid topic key) m silent none t other =
      by_step x y (left_each (tracked_dots x.replica pid topic key) x.replica) (unless_ok (leave_refusal x.replica pid topic key) _ y t)
      (left_each_apart x.replica (tracked_dots x.replica pid topic key) (eqb-false d.name x.replica.own other)
      (own_named x.replica (is_tracked_as pid topic key)))
  quiet_apart x y (LeaveAll pid) m silent none t other =
      by_step x y (left_each (dots_of_process x.replica pid) x.replica) (unless_ok (leave_all_refusal x.replica pid) _ y t)
      (left_each_apart x.replica (dots_of_process x.replica pid) (eqb-false d.name x.replica.own other) (own_named x.replica (λ p. p.pid == pid)))
  quiet_apart x y (Update p) m silent none t other =
      by_step x y (updated p x.replica) (unless_ok (leave_refusal x.replica p.pid p.topic p.key) _ y t)
      (updated_apart x.replica p (eqb-false d.name x.replica.own other))
  quiet_apart x y Broadcast m silent none t other = absurd (cc)
  quiet_apart x y (Extract names) m silent none t other = absurd (cc)
  quiet_apart x y (Deliver sender number) m silent none t other = absurd (cc)
  quiet_apart x y Request m silent none t other = absurd (cc)
  quiet_apart x y (Answer sender number) m silent none t other = absurd (cc)
  quiet_apart x y (Up name) m silent none t other =
      by_step x y (with_status name statuses.Up x.replica) (unless_ok (up_refusal x.replica name) _ y t) (record { get = refl; seen = refl })
  quiet_apart x y (Down name) m silent none t other =
      by_step x y (with_status name statuses.Down x.replica) (unless_ok (down_refusal x.replica name) _ y t) (record { get = refl; seen = refl })
  quiet_apart x y (Permdown name) m silent none t other =
      by_step x y (forgotten name x.replica) (unless_ok (permdown_refusal x.replica name) _ y t) (forgotten_apart x.replica name other)

-- of two standings one of which isn't above another

unseen_low : (s : Standing) → is_above Unseen s ≡ false
unseen_low Unseen = refl
unseen_low Live = refl
unseen_low Gone = refl

none_forgotten : (s : Standing) → (is_same s Unseen && is_above s Unseen) ≡ false
none_forgotten Unseen = refl
none_forgotten Live = refl
none_forgotten Gone = refl

untold : (s : Standing) → not (is_same s Unseen) ≡ false → s ≡ Unseen
untold Unseen is = refl
untold Live is = absurd (cc)
untold Gone is = absurd (cc)

module _ (m : Machine) (d : Dot) (first rest : List Kept) (k : Kept) (c next : Cluster) (asked : Machine) (t : Track)
    (rises : NumbersRise 0 (first ++ k ∷ rest)) (room : 2 * length first + 2 ≤ m.limits.acts)
    (taken : step c k.node k.step ≡ Ok next) (old : Along m d first c asked t) where
  abbrev now : Machine
  now = followed_by.now m d first rest k c next asked t rises room taken old

  abbrev before : Stand
  before = followed_by.before m d first rest k c next asked t rises room taken old

  at_node : (n : ℕ) → standing_at now n d ≡ standing_of (slice_get next n) d
  at_node n = followed_by.at_node m d first rest k c next asked t rises room taken old n

  fine : Fine c
  fine = followed_by.fine m d first rest k c next asked t rises room taken old

  -- the standing stays

  sent_still : sends k.step ≡ true → standing_at now k.node d ≡ before.standing
  sent_still sending = at_node k.node ∙ sent_stays c next k d fine taken sending ∙ sym (old.stands k.node)

  brought_still : (a b : Standing) → Brought a Unseen b → b ≡ a
  brought_still a b (Stays e) = e
  brought_still a b (Greater e) = same_rank b a (omega arith)

  delivered_still : (p : ℕ × ℕ) → sends k.step ≡ false → delivers k.step ≡ Some p → standing_sent now p.0 p.1 d ≡ Unseen →
      standing_at now k.node d ≡ before.standing
  delivered_still p silent at unseen =
      let told : told_in c p.0 p.1 d ≡ Unseen =
      sym (followed_by.told_same m d first rest k c next asked t rises room taken old silent p.0 p.1)
      ∙ sym (followed_by.at_message m d first rest k c next asked t rises room taken old p.0 p.1) ∙ unseen in
      at_node k.node
      ∙ brought_still (standing_of (slice_get c k.node) d) (standing_of (slice_get next k.node) d)
      (subst (λ (s : Standing). Brought (standing_of (slice_get c k.node) d) s (standing_of (slice_get next k.node) d)) told
      (delivery_brings c next k d fine taken p silent at))
      ∙ sym (old.stands k.node)

  quiet_still : sends k.step ≡ false → delivers k.step ≡ None → is_changed k.step k.node d.name ≡ false → standing_at now k.node d ≡ before.standing
  quiet_still silent none other =
      let s = followed_by.s m d first rest k c next asked t rises room taken old in
      let own = (fine.each k.node s.from s.at).own in
      let same = quiet_apart d s.from s.to k.step (message_for c k.step) silent none s.taken (ap (λ n. is_changed k.step n d.name) own ∙ other) in
      at_node k.node ∙ is c next k d fine taken
      ∙ ap₂ (λ (o : Option Presence) (b : Bool). standing_by o b) same.get same.seen
      ∙ sym (was c next k d fine taken) ∙ sym (old.stands k.node)

  -- so the track does

  stands_still : standing_at now k.node d ≡ before.standing → with_stand t.stands k (standing_at now k.node d) ≡ t.stands
  stands_still still =
      ap (λ (b : Bool). if b then t.stands else set_at t.stands k.node (record { standing = standing_at now k.node d; by = Some k.number }))
      (ap (is_same before.standing) still ∙ is_itself before.standing)

  whole : standing_at now k.node d ≡ before.standing → hop_at d now k t.hops before ≡ None → followed d now k t ≡ t
  unfolding followed
  whole still none =
      ap₂ (λ (a : List Stand) (b : List Hop). record { stands = a; hops = b }) (stands_still still) (ap (with_hop t.hops) none)

  sent_none : sends k.step ≡ true → standing_sent now k.node (last_message now k.node) d ≡ Unseen → hop_at d now k t.hops before ≡ None
  unfolding hop_at
  sent_none sending unseen =
      ap (λ (b : Bool). if b then sent_hop k before (last_message now k.node) (standing_sent now k.node (last_message now k.node) d)
      else received_hop d now k t.hops before (standing_at now k.node d) (delivers k.step)) sending
      ∙ ap (sent_hop k before (last_message now k.node)) unseen

  delivered_none : (p : ℕ × ℕ) → sends k.step ≡ false → delivers k.step ≡ Some p → standing_sent now p.0 p.1 d ≡ Unseen →
      standing_at now k.node d ≡ before.standing → hop_at d now k t.hops before ≡ None
  delivered_none p silent at unseen still =
      hop_delivered d now k t.hops before p silent at
      ∙ ap₂ (λ (told here : Standing). delivered_hop k before told here (sender_among t.hops p.0 p.1)) unseen still
      ∙ ap (λ (b : Bool). if b then (if is_above Unseen before.standing then Some (missed p) else None) else Some (came p)) (is_itself before.standing)
      ∙ ap (λ (b : Bool). if b then Some (missed p) else None) (unseen_low before.standing)
    where
      missed : ℕ × ℕ → Hop
      missed p = hop_of k Missed Unseen 0 (sender_among t.hops p.0 p.1)

      came : ℕ × ℕ → Hop
      came p = hop_of k Came before.standing 0 (sender_among t.hops p.0 p.1)

  quiet_none : sends k.step ≡ false → delivers k.step ≡ None → standing_at now k.node d ≡ before.standing → hop_at d now k t.hops before ≡ None
  quiet_none silent none still =
      hop_other d now k t.hops before silent none
      ∙ ap (other_hop k before) still
      ∙ ap (λ (b : Bool). if b then Some (hop_of k Forgot before.standing 0 before.by) else None) (none_forgotten before.standing)

  pub followed_apart : reaches now k d ≡ false → followed d now k t ≡ t
  unfolding reaches
  followed_apart free = go (sends k.step) refl free
    where
      received : (o : Option (ℕ × ℕ)) → sends k.step ≡ false → delivers k.step ≡ o → reaches_by now k d o ≡ false → followed d now k t ≡ t
      received None silent none other =
          let still = quiet_still silent none other in
          whole still (quiet_none silent none still)
      received (Some p) silent at other =
          let unseen = untold (standing_sent now p.0 p.1 d) other in
          let still = delivered_still p silent at unseen in
          whole still (delivered_none p silent at unseen still)

      go : (b : Bool) → sends k.step ≡ b → (if b then is_told now k.node (last_message now k.node) d else reaches_by now k d (delivers k.step)) ≡ false →
          followed d now k t ≡ t
      go true sending other =
          let unseen = untold (standing_sent now k.node (last_message now k.node) d) other in
          whole (sent_still sending) (sent_none sending unseen)
      go false silent other = received (delivers k.step) silent refl other
