-- The own part of a node, whatever was delivered, and where entries were made.
use Rattle.std.proofs.Common.{◌≡◌, ◌≢◌, ◌⊎◌, inl, inr, ℕ, ◌+◌, ◌==◌, ◌&&◌, not, Bool, true, false, cond, List, [], ◌∷◌, ◌++◌, set, slice_get, Option, Some, Ok, refl, sym, ap, ◌∙◌, subst, append_assoc, append-nil, arith}
use Rattle.std.proofs.lemmas.Bool.{cases_eq, eq-eqb, ne_eqb}
use Rattle.std.proofs.lemmas.List.Elements.{filter-append}
use Rattle.std.specs.List.{AllByRecursion}
use Rattle.std.specs.FinMap as fin
use Rattle.dots_core.specs.declared.dot.Dot.{Dot}
use Rattle.dots_core.specs.Dots.{dot, dot_cmp}
use Rattle.payload_core.specs.Messages.{Message}
use Rattle.payload_core.specs.Presences.{Presence, is_tracked_as}
use Rattle.store_core.specs.Stores.{Store, is_other}
use Rattle.payload_core.proofs.TrackedDots.{Found, found_all}
use Rattle.replica_core.specs.declared.node_limits.NodeLimits.{NodeLimits}
use Rattle.replica_core.specs.declared.status.Status.TheVariants as statuses
use Rattle.replica_core.specs.Replicas.{Replica, opening, fresh, own_clock, joined, left_each, dropped_each, tracked_dots, dots_of_process, updated, with_status, forgotten, without_delta}
use Rattle.replica_core.specs.Deliveries.{merged}
use Rattle.replica_core.specs.Refusals.{join_refusal, leave_refusal, leave_all_refusal, up_refusal, down_refusal, permdown_refusal, has_dots}
use Rattle.node_core.specs.Operations.{Operation, Join, Leave, LeaveAll, Update, Broadcast, Extract, Deliver, Request, Answer, Up, Down, Permdown}
use Rattle.node_core.specs.Nodes.{Node, take}
use Rattle.journal_core.specs.Journals.{Kept}
use Rattle.bench_core.specs.Clusters.{Cluster, message_for, opening_of, step}
use Rattle.bench_core.specs.Runs.{runs, then_runs}
use Rattle.bench_core.proofs.Clusters.{get-set_same, get-set_other, stepped}
use Rattle.bench_core.proofs.OneEntry.{Changed, Fine, Held, changed, fine_run, held_before, seen_read}
use Rattle.bench_core.proofs.Runs.{opening_at, runs_append, run_one}
use Rattle.bench_core.proofs.Taken.{unless_ok, unless_full_ok, broadcast_ok, deliver_ok, answer_ok}
use Rattle.diff_core.specs.Rows.{row_of}
use Rattle.bench_core.specs.Laws.{presence_made}
use Rattle.network_core.proofs.NeverFull.{few_opening}
use Rattle.network_core.specs.NetworkRuns.{is_delivery, is_ordered, ordered}
use Rattle.network_core.proofs.OwnEdits.{OwnAlike, Edits, edits_by, still_alike, joined_edits, left_each_edits, dropped_each_edits, same_clock, same_dots_of, dots_are_of}
use Rattle.network_core.proofs.Own.{delivered_alike}
use Rattle.network_core.specs.Alike.{ReplicaAlike, StoreAlike, is_compared}
use Rattle.network_core.specs.Made.{own_after, own_from, FreshLaw, IsMade, MadeLaw, WantsMade, WantedLaw}
use Rattle.network_core.specs.Rows.{AreWanted, is_row_of}
use Rattle.network_core.proofs.Stores.{beside, own_of, edited, part_alike, replica_same}

abbrev pub nothing : Dot → Bool
nothing d = false

-- of own dots alone
pub of_own : (own : ℕ) (s t : Store) → OwnAlike own s t → StoreAlike (is_compared nothing own) s t
of_own own s t a = record { seen = λ q h. a.seen q h; entries = λ q h. a.entries q h }

module _ (r : Replica) (t : Store) (a : StoreAlike (is_compared nothing r.own) r.store t) where
  abbrev own_alike : OwnAlike r.own r.store t
  own_alike = own_of nothing r.own r.store t a

  abbrev As : Replica → Replica → Type 0
  As u v = ReplicaAlike nothing u v

  same : As r (beside r t)
  same = record { store = t; is = refl; alike = a }

  by_edit : (u v : Replica) → Edits r t u v → As u v
  by_edit u v e = edited nothing nothing r t u v a (λ d h. h) e

  tracked : (pid : ℕ) (topic key : List ℕ) → tracked_dots (beside r t) pid topic key ≡ tracked_dots r pid topic key
  tracked pid topic key = same_dots_of r.own (is_tracked_as pid topic key) r.store t own_alike

  process : (pid : ℕ) → dots_of_process (beside r t) pid ≡ dots_of_process r pid
  process pid = same_dots_of r.own (λ p. p.pid == pid) r.store t own_alike

  abbrev x : List Message → Node
  x xs = record { replica = beside r t; outbox = xs }

  of_replica : (u v w : Replica) → v ≡ w → As u w → As u v
  of_replica u v w is h = subst (As u) (sym is) h

  -- what a step makes of the own part
  after_step : (xs : List Message) (s : Operation) (o : Option Message) (y : Node) → take (x xs) s o ≡ Ok y → As (own_after s r) y.replica
  after_step xs (Join p) o y h =
      of_replica (joined p r) y.replica (joined p (beside r t)) (ap (λ (z : Node). z.replica) (unless_ok (join_refusal (beside r t) p.pid p.topic p.key) _ y h))
      (by_edit (joined p r) (joined p (beside r t)) (joined_edits r t own_alike p))
  after_step xs (Leave pid topic key) o y h =
      let ds = tracked_dots r pid topic key in
      of_replica (left_each ds r) y.replica (left_each ds (beside r t))
      (ap (λ (z : Node). z.replica) (unless_ok (leave_refusal (beside r t) pid topic key) _ y h) ∙ ap (λ ds. left_each ds (beside r t)) (tracked pid topic key))
      (by_edit (left_each ds r) (left_each ds (beside r t)) (left_each_edits ds r t own_alike (dots_are_of r.own (is_tracked_as pid topic key) r.store.entries)))
  after_step xs (LeaveAll pid) o y h =
      let ds = dots_of_process r pid in
      of_replica (left_each ds r) y.replica (left_each ds (beside r t))
      (ap (λ (z : Node). z.replica) (unless_ok (leave_all_refusal (beside r t) pid) _ y h) ∙ ap (λ ds. left_each ds (beside r t)) (process pid))
      (by_edit (left_each ds r) (left_each ds (beside r t)) (left_each_edits ds r t own_alike (dots_are_of r.own (λ p. p.pid == pid) r.store.entries)))
  after_step xs (Update p) o y h =
      let ds = tracked_dots r p.pid p.topic p.key in
      let e = dropped_each_edits ds r t own_alike (dots_are_of r.own (is_tracked_as p.pid p.topic p.key) r.store.entries) in
      of_replica (updated p r) y.replica (joined p (dropped_each ds (beside r t)))
      (ap (λ (z : Node). z.replica) (unless_ok (leave_refusal (beside r t) p.pid p.topic p.key) _ y h) ∙ ap (λ ds. joined p (dropped_each ds (beside r t))) (tracked p.pid p.topic p.key))
      (by_edit (updated p r) (joined p (dropped_each ds (beside r t))) (edits_by (joined p) r t (dropped_each ds r) (dropped_each ds (beside r t)) e
      (joined_edits (dropped_each ds r) e.store (still_alike r t (dropped_each ds r) (dropped_each ds (beside r t)) e) p)))
  after_step xs Broadcast o y h =
      of_replica (without_delta r) y.replica (without_delta (beside r t)) (ap (λ (z : Node). z.replica) (broadcast_ok (has_dots r.delta.seen) (x xs) y h))
      (record { store = t; is = refl; alike = a })
  after_step xs (Extract names) o y h = of_replica r y.replica (beside r t) (ap (λ (z : Node). z.replica) (unless_full_ok (x xs) _ y h)) (record { store = t; is = refl; alike = a })
  after_step xs (Deliver sender number) o y h =
      let d = deliver_ok (sender == r.own) (x xs) o y h in
      of_replica r y.replica (merged d.0 (beside r t)) (ap (λ (z : Node). z.replica) d.2)
      (record {
        store = (merged d.0 (beside r t)).store;
        is = refl;
        alike = record {
          seen = λ q h. (delivered_alike d.0 (beside r t)).seen q h ∙ a.seen q h;
          entries = λ q h. (delivered_alike d.0 (beside r t)).entries q h ∙ a.entries q h;
        };
      })
  after_step xs Request o y h = of_replica r y.replica (beside r t) (ap (λ (z : Node). z.replica) (unless_full_ok (x xs) _ y h)) (record { store = t; is = refl; alike = a })
  after_step xs (Answer sender number) o y h =
      let w = answer_ok (sender == r.own) (x xs) o y h in
      of_replica r y.replica (beside r t) (ap (λ (z : Node). z.replica) w.2.1) (record { store = t; is = refl; alike = a })
  after_step xs (Up name) o y h =
      of_replica (with_status name statuses.Up r) y.replica (with_status name statuses.Up (beside r t)) (ap (λ (z : Node). z.replica) (unless_ok (up_refusal (beside r t) name) _ y h))
      (record { store = t; is = refl; alike = a })
  after_step xs (Down name) o y h =
      of_replica (with_status name statuses.Down r) y.replica (with_status name statuses.Down (beside r t)) (ap (λ (z : Node). z.replica) (unless_ok (down_refusal (beside r t) name) _ y h))
      (record { store = t; is = refl; alike = a })
  after_step xs (Permdown name) o y h =
      of_replica (forgotten name r) y.replica (forgotten name (beside r t)) (ap (λ (z : Node). z.replica) (unless_ok (permdown_refusal (beside r t) name) _ y h))
      (record {
        store = (forgotten name (beside r t)).store;
        is = refl;
        alike = part_alike (is_compared nothing r.own) (is_compared nothing r.own) (is_other name) r.store t a (λ d h other. h);
      })

-- any replica that has the own part
own_step : (r s : Replica) (xs : List Message) (k : Operation) (o : Option Message) (y : Node) → ReplicaAlike nothing r s → take (record { replica = s; outbox = xs }) k o ≡ Ok y →
    ReplicaAlike nothing (own_after k r) y.replica
own_step r s xs k o y a h = after_step r a.store a.alike xs k o y (ap (λ (z : Replica). take (record { replica = z; outbox = xs }) k o) (sym a.is) ∙ h)

pub same_fresh : (r s : Replica) → ReplicaAlike nothing r s → fresh s ≡ fresh r
same_fresh r s a = ap fresh a.is ∙ ap (λ c. dot r.own (c + 1)) (same_clock r a.store (own_of nothing r.own r.store a.store a.alike))

-- along a run

pub own_more : (r : Replica) (ks : List Kept) (k : Kept) → own_from r (ks ++ k ∷ []) ≡ own_after k.step (own_from r ks)
own_more r [] k = refl
own_more r (j ∷ ks) k = own_more (own_after j.step r) ks k

delivered_same : (s : Operation) (r : Replica) → is_delivery s ≡ true → own_after s r ≡ r
delivered_same (Deliver sender number) r h = refl
delivered_same (Join p) r h = absurd (cc)
delivered_same (Leave pid topic key) r h = absurd (cc)
delivered_same (LeaveAll pid) r h = absurd (cc)
delivered_same (Update p) r h = absurd (cc)
delivered_same Broadcast r h = absurd (cc)
delivered_same (Extract names) r h = absurd (cc)
delivered_same Request r h = absurd (cc)
delivered_same (Answer sender number) r h = absurd (cc)
delivered_same (Up name) r h = absurd (cc)
delivered_same (Down name) r h = absurd (cc)
delivered_same (Permdown name) r h = absurd (cc)

delivers_none : (s : Operation) (p : Presence) → presence_made s ≡ Some p → is_delivery s ≡ false
delivers_none (Join q) p h = refl
delivers_none (Update q) p h = refl
delivers_none (Deliver sender number) p h = absurd (cc)
delivers_none (Leave pid topic key) p h = refl
delivers_none (LeaveAll pid) p h = refl
delivers_none Broadcast p h = refl
delivers_none (Extract names) p h = refl
delivers_none Request p h = refl
delivers_none (Answer sender number) p h = refl
delivers_none (Up name) p h = refl
delivers_none (Down name) p h = refl
delivers_none (Permdown name) p h = refl

module _ (l : NodeLimits) where
  abbrev pub own_part : List Kept → ℕ → Replica
  own_part ks q = own_from (opening q l) (ordered ks q)

  -- one step more
  pub own_part_more : (first : List Kept) (k : Kept) (q : ℕ) → k.node ≡ q → own_part (first ++ k ∷ []) q ≡ own_after k.step (own_part first q)
  own_part_more first k q mine = ap (own_from (opening q l)) (filter-append (is_ordered q) first (k ∷ [])) ∙ go (is_delivery k.step) refl
    where
      go : (b : Bool) → is_delivery k.step ≡ b → own_from (opening q l) (ordered first q ++ ordered (k ∷ []) q) ≡ own_after k.step (own_part first q)
      go true is =
          ap (λ b. own_from (opening q l) (ordered first q ++ cond b (k ∷ []) [])) ((λ i. eq-eqb k.node q mine i && not (is i)))
          ∙ ap (own_from (opening q l)) (append-nil (ordered first q)) ∙ sym (delivered_same k.step (own_part first q) is)
      go false is =
          ap (λ b. own_from (opening q l) (ordered first q ++ cond b (k ∷ []) [])) ((λ i. eq-eqb k.node q mine i && not (is i)))
          ∙ own_more (opening q l) (ordered first q) k

  pub own_part_other : (first : List Kept) (k : Kept) (q : ℕ) → k.node ≢ q → own_part (first ++ k ∷ []) q ≡ own_part first q
  own_part_other first k q other =
      ap (own_from (opening q l)) (filter-append (is_ordered q) first (k ∷ [])
      ∙ ap (λ b. ordered first q ++ cond b (k ∷ []) []) (ap (λ b. b && not (is_delivery k.step)) (ne_eqb k.node q other)) ∙ append-nil (ordered first q))

  pub record Known (first : List Kept) (c : Cluster) : Type 0 where
    pub own : (q : ℕ) (x : Node) → slice_get c q ≡ Some x → ReplicaAlike nothing (own_part first q) x.replica
    pub all : (d : Dot) (p : Presence) → Held c d p → IsMade l first d p

  made_more : (first : List Kept) (k : Kept) (d : Dot) (p : Presence) → IsMade l first d p → IsMade l (first ++ k ∷ []) d p
  made_more first k d p m = record {
    node = m.node;
    before = m.before;
    after = m.after ++ ordered (k ∷ []) m.node;
    k = m.k;
    parted = filter-append (is_ordered m.node) first (k ∷ []) ∙ ap (λ (ks : List Kept). ks ++ ordered (k ∷ []) m.node) m.parted ∙ append_assoc m.before (m.k ∷ m.after) (ordered (k ∷ []) m.node);
    makes = m.makes;
    at = m.at;
  }

  made_now : (first : List Kept) (k : Kept) (d : Dot) (p : Presence) → presence_made k.step ≡ Some p → d ≡ fresh (own_part first k.node) → IsMade l (first ++ k ∷ []) d p
  made_now first k d p makes at = record {
    node = k.node;
    before = ordered first k.node;
    after = [];
    k = k;
    parted = filter-append (is_ordered k.node) first (k ∷ [])
        ∙ ap (λ b. ordered first k.node ++ cond b (k ∷ []) []) (λ i. eq-eqb k.node k.node refl i && not (delivers_none k.step p makes i));
    makes = makes;
    at = at;
  }

  module _ (count : ℕ) where
    known_set : (first : List Kept) (k : Kept) (c : Cluster) (x y : Node) → runs l count first ≡ Ok c → slice_get c k.node ≡ Some x → take x k.step (message_for c k.step) ≡ Ok y →
        (fine : Fine c) → Changed k.step x (message_for c k.step) y → Known first c → Known (first ++ k ∷ []) (set c k.node y)
    known_set first k c x y ran at taken fine ch known = record {
      own = λ q z is. own q z is (cases_eq q k.node);
      all = λ d p held. all d p (held_before c k.node k.step x y at fine ch d p held);
    }
      where
        mine : ReplicaAlike nothing (own_part first k.node) x.replica
        mine = known.own k.node x at

        own : (q : ℕ) (z : Node) → slice_get (set c k.node y) q ≡ Some z → (q ≡ k.node) ⊎ (q ≢ k.node) → ReplicaAlike nothing (own_part (first ++ k ∷ []) q) z.replica
        own q z is (inl e) =
            let same : Some z ≡ Some y = sym is ∙ ap (slice_get (set c k.node y)) e ∙ get-set_same c k.node x y at in
            let whole : z ≡ y = cc in
            subst (λ (w : Node). ReplicaAlike nothing (own_part (first ++ k ∷ []) q) w.replica) (sym whole)
            (subst (λ (r : Replica). ReplicaAlike nothing r y.replica) (sym (own_part_more first k q (sym e))) (here q e))
          where
            here : (q : ℕ) → q ≡ k.node → ReplicaAlike nothing (own_after k.step (own_part first q)) y.replica
            here q e = subst (λ q. ReplicaAlike nothing (own_after k.step (own_part first q)) y.replica) (sym e)
                (own_step (own_part first k.node) x.replica x.outbox k.step (message_for c k.step) y mine taken)
        own q z is (inr other) =
            subst (λ (r : Replica). ReplicaAlike nothing r z.replica) (sym (own_part_other first k q (λ e. other (sym e))))
            (known.own q z (sym (get-set_other c k.node q y other) ∙ is))

        all : (d : Dot) (p : Presence) → Held c d p ⊎ ((d ≡ fresh x.replica) × (presence_made k.step ≡ Some p)) → IsMade l (first ++ k ∷ []) d p
        all d p (inl old) = made_more first k d p (known.all d p old)
        all d p (inr new) = made_now first k d p new.1 (new.0 ∙ same_fresh (own_part first k.node) x.replica mine)

    known_step : (first : List Kept) (k : Kept) (c d : Cluster) → runs l count first ≡ Ok c → step c k.node k.step ≡ Ok d → Known first c → Known (first ++ k ∷ []) d
    known_step first k c d ran h known =
        let st = stepped c k.node k.step d h in
        let fine = fine_run l count first c ran in
        subst (Known (first ++ k ∷ [])) (sym st.gives) (known_set first k c st.from st.to ran st.at st.taken fine
        (changed st.from k.step (message_for c k.step) st.to (fine.each k.node st.from st.at).sound (seen_read c k.step fine) st.taken) known)

    known_from : (first ks : List Kept) (c d : Cluster) → runs l count first ≡ Ok c → Known first c → then_runs (Ok c) ks ≡ Ok d → Known (first ++ ks) d
    known_from first [] c d ran known run =
        let same : c ≡ d = cc in
        subst (λ (ks : List Kept). Known ks d) (sym (append-nil first)) (subst (Known first) same known)
    known_from first (k ∷ ks) c d ran known run =
        let one = run_one c d k ks run in
        let on : runs l count (first ++ k ∷ []) ≡ Ok one.0 =
        runs_append (Ok (opening_of l count)) first (k ∷ []) ∙ ap (λ r. then_runs r (k ∷ [])) ran ∙ ap (λ r. then_runs r []) one.1 in
        subst (λ (ks : List Kept). Known ks d) (append_assoc first (k ∷ []) ks)
        (known_from (first ++ k ∷ []) ks one.0 d on (known_step first k c one.0 ran one.1 known) one.2)

    known_first : Known [] (opening_of l count)
    known_first = record {
      own = λ q x at. subst (λ (z : Node). ReplicaAlike nothing (opening q l) z.replica) (sym (opening_at l count q x at)) (replica_same nothing (opening q l));
      all = λ d p held. absurd (let f = few_opening l count in let h = f.all d p held in let lt = h.1 in let few = f.few in omega (arith, lt, few));
    }

    pub known_run : (ks : List Kept) (c : Cluster) → runs l count ks ≡ Ok c → Known ks c
    known_run ks c run = known_from [] ks (opening_of l count) c refl known_first run

pub made_holds : MadeLaw
made_holds l count ks c n x d p run at is = let known = known_run l count ks c run in known.all d p (n, x, at, inl is)

-- at a run of the network

pub made_too : (l : NodeLimits) (j r : List Kept) (d : Dot) (p : Presence) → ((q : ℕ) → ordered r q ≡ ordered j q) → IsMade l r d p → IsMade l j d p
made_too l j r d p own m =
    record { node = m.node; before = m.before; after = m.after; k = m.k; parted = sym (own m.node) ∙ m.parted; makes = m.makes; at = m.at }

pub wanted_from : (l : NodeLimits) (count : ℕ) (ks : List Kept) (n : ℕ) (wanted : Dot → Bool) (topic key : List ℕ) (c : Cluster) (x : Node) → WantsMade l ks wanted topic key →
    runs l count ks ≡ Ok c → slice_get c n ≡ Some x → AreWanted wanted topic key x.replica
wanted_from l count ks n wanted topic key c x wants run at =
    go (fin.entries x.replica.store.entries) (found_all (fin.entries x.replica.store.entries) (fin.entries_sorted x.replica.store.entries))
  where
    one : (e : Dot × Presence) → fin.find dot_cmp e.0 (fin.entries x.replica.store.entries) ≡ Some e.1 → is_row_of topic key (row_of e) ≡ true → wanted e.0 ≡ true
    one e is of = wants e.0 e.1 (made_holds l count ks c n x e.0 e.1 run at (fin.get-entries x.replica.store.entries e.0 ∙ is)) of

    go : (es : List (Dot × Presence)) → Found (fin.entries x.replica.store.entries) es →
        AllByRecursion (λ (e : Dot × Presence). is_row_of topic key (row_of e) ≡ true → wanted e.0 ≡ true) es
    go [] all = tt
    go (e ∷ es) all = (one e all.0, go es all.1)

pub wanted_holds : WantedLaw
wanted_holds l count j r lost again n wanted topic key c x wants is_run run at =
    wanted_from l count r n wanted topic key c x (λ d p m of. wants d p (made_too l j r d p is_run.own m) of) run at

pub fresh_holds : FreshLaw
fresh_holds l count ks c n x run at =
    let a = (known_run l count ks c run).own n x at in
    let clock : own_clock x.replica ≡ own_clock (own_from (opening n l) (ordered ks n)) =
    ap own_clock a.is ∙ same_clock (own_from (opening n l) (ordered ks n)) a.store (own_of nothing (own_from (opening n l) (ordered ks n)).own (own_from (opening n l) (ordered ks n)).store a.store a.alike) in
    let own : x.replica.own ≡ (own_from (opening n l) (ordered ks n)).own = ap (λ (r : Replica). r.own) a.is in
    λ i. dot (own i) (clock i + 1)
