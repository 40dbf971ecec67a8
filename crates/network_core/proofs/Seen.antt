-- Each dot that was seen anywhere was seen at its own node; so replicas that are the same as far as those go are the same.
use Rattle.std.proofs.Common.{◌≡◌, ◌≢◌, ◌⊎◌, inl, inr, ℕ, zero, suc, ◌<◌, ◌≤◌, ◌==◌, Bool, true, false, List, [], ◌∷◌, ◌++◌, length, set, slice_get, is_some, Option, Some, None, Ok, refl, sym, ap, ◌∙◌, subst, arith, true≢false}
use Rattle.std.proofs.lemmas.Bool.{cases_eq}
use Rattle.std.proofs.lemmas.Option.{slice_get_within}
use Rattle.std.specs.FinSet as sets
use Rattle.std.specs.FinMap as fin
use Rattle.dots_core.specs.declared.dot.Dot.{Dot}
use Rattle.dots_core.specs.Dots.{dot, dot_cmp}
use Rattle.dots_core.proofs.Sets.{same_dots}
use Rattle.payload_core.specs.Messages.{Message, numbered}
use Rattle.payload_core.specs.Presences.{Presence}
use Rattle.store_core.specs.Stores.{Store}
use Rattle.block_core.proofs.EntryMaps.{same_entries}
use Rattle.replica_core.specs.declared.node_limits.NodeLimits.{NodeLimits}
use Rattle.replica_core.specs.Replicas.{Replica, opening, own_clock}
use Rattle.node_core.specs.Operations.{delivers}
use Rattle.node_core.specs.Nodes.{Node, opening_node}
use Rattle.journal_core.specs.Journals.{Kept}
use Rattle.bench_core.specs.Clusters.{Cluster, message_for, opening_of, step}
use Rattle.bench_core.specs.Runs.{runs, then_runs}
use Rattle.bench_core.proofs.Clusters.{Stepped, get-set_same, get-set_other, stepped}
use Rattle.bench_core.proofs.OneEntry.{Changed, Fine, changed, fine_run, read_from, seen_read}
use Rattle.bench_core.proofs.Openings.{opening_length}
use Rattle.bench_core.proofs.Runs.{opening_at, runs_append, run_one}
use Rattle.network_core.specs.Alike.{ReplicaAlike}
use Rattle.network_core.specs.Made.{own_from}
use Rattle.network_core.specs.NetworkRuns.{IsNetworkRun, ordered}
use Rattle.network_core.specs.Seen.{IsGiven, SameReplicaLaw, SeenLaw, WantsSeen}
use Rattle.network_core.proofs.Keys.{keeps_length}
use Rattle.network_core.proofs.Made.{known_run, nothing, own_part}
use Rattle.network_core.proofs.OwnEdits.{same_clock}
use Rattle.network_core.proofs.SeenSteps.{HasDelta, HasSeen, Sends, sends}
use Rattle.network_core.proofs.Stores.{own_of, or_left}

-- the dot was seen at its own node
abbrev pub SeenAtOwn : Cluster → Dot → Type 0
SeenAtOwn c d = (o : Node) × (slice_get c d.name ≡ Some o) × (sets.contains o.replica.store.seen d ≡ true)

-- at a node or in a message
abbrev pub SeenAt : Node → Dot → Type 0
SeenAt x d = (sets.contains x.replica.store.seen d ≡ true) ⊎ ((i : ℕ) × (k : Message) × (numbered x.outbox i ≡ Some k) × (sets.contains k.seen d ≡ true))

pub record AllSeen (c : Cluster) : Type 0 where
  pub delta : (n : ℕ) (x : Node) → slice_get c n ≡ Some x → HasDelta x.replica
  pub seen : (n : ℕ) (x : Node) (d : Dot) → slice_get c n ≡ Some x → SeenAt x d → SeenAtOwn c d

module _ (c d : Cluster) (k : Kept) (fine : Fine c) (st : Stepped c k.node k.step d) (all : AllSeen c) where
  abbrev n : ℕ
  n = k.node

  there : slice_get d n ≡ Some st.to
  there = ap (λ (e : Cluster). slice_get e n) st.gives ∙ get-set_same c n st.from st.to st.at

  elsewhere : (q : ℕ) → q ≢ n → slice_get d q ≡ slice_get c q
  elsewhere q other = ap (λ (e : Cluster). slice_get e q) st.gives ∙ get-set_other c n q st.to other

  does : Sends st.from (message_for c k.step) st.to
  does = sends st.from k.step (message_for c k.step) st.to (fine.each n st.from st.at).sound st.taken

  ch : Changed k.step st.from (message_for c k.step) st.to
  ch = changed st.from k.step (message_for c k.step) st.to (fine.each n st.from st.at).sound (seen_read c k.step fine) st.taken

  own : st.from.replica.own ≡ n
  own = (fine.each n st.from st.at).own

  -- a dot that was seen at its own node is seen there
  still : (e : Dot) → SeenAtOwn c e → SeenAtOwn d e
  still e (o, is, h) = go (cases_eq e.name n)
    where
      go : (e.name ≡ n) ⊎ (e.name ≢ n) → SeenAtOwn d e
      go (inl at) =
          let same : o ≡ st.from = let here : Some o ≡ Some st.from = sym is ∙ ap (slice_get c) at ∙ st.at in cc in
          (st.to, ap (slice_get d) at ∙ there, ch.change.keeps e (at ∙ sym own) (subst (λ (o : Node). sets.contains o.replica.store.seen e ≡ true) same h))
      go (inr other) = (o, elsewhere e.name other ∙ is, h)

  here : (e : Dot) → sets.contains st.from.replica.store.seen e ≡ true → SeenAtOwn d e
  here e h = still e (all.seen n st.from e st.at (inl h))

  read : (e : Dot) → HasSeen (message_for c k.step) e → SeenAtOwn d e
  read e h = go (message_for c k.step) refl h
    where
      go : (m : Option Message) → message_for c k.step ≡ m → HasSeen m e → SeenAtOwn d e
      go None is h = absurd h
      go (Some m) is h = let r = read_from c (delivers k.step) m is in still e (all.seen r.0 r.2 e r.3 (inr (r.1, m, r.4, h)))

  changed_seen : (e : Dot) → sets.contains st.to.replica.store.seen e ≡ true → SeenAtOwn d e
  changed_seen e h = go (does.sees.store e h)
    where
      go : (sets.contains st.from.replica.store.seen e ≡ true) ⊎ (HasSeen (message_for c k.step) e ⊎ (e.name ≡ st.from.replica.own)) → SeenAtOwn d e
      go (inl old) = here e old
      go (inr (inl came)) = read e came
      go (inr (inr mine)) = (st.to, ap (slice_get d) (mine ∙ own) ∙ there, h)

  changed_sent : (e : Dot) (i : ℕ) (m : Message) → numbered st.to.outbox i ≡ Some m → sets.contains m.seen e ≡ true → SeenAtOwn d e
  changed_sent e i m at h = go (does.sent (all.delta n st.from st.at) i m at)
    where
      go : (numbered st.from.outbox i ≡ Some m) ⊎ ((e : Dot) → sets.contains m.seen e ≡ true → sets.contains st.from.replica.store.seen e ≡ true) → SeenAtOwn d e
      go (inl old) = still e (all.seen n st.from e st.at (inr (i, m, old, h)))
      go (inr new) = here e (new e h)

  same_to : (q : ℕ) (z : Node) → slice_get d q ≡ Some z → q ≡ n → z ≡ st.to
  same_to q z is at = let one : Some z ≡ Some st.to = sym is ∙ ap (slice_get d) at ∙ there in cc

  seen_after : (q : ℕ) (z : Node) (e : Dot) → slice_get d q ≡ Some z → SeenAt z e → SeenAtOwn d e
  seen_after q z e is h = go (cases_eq q n) h
    where
      at_to : SeenAt st.to e → SeenAtOwn d e
      at_to (inl h) = changed_seen e h
      at_to (inr (i, m, at, h)) = changed_sent e i m at h

      go : (q ≡ n) ⊎ (q ≢ n) → SeenAt z e → SeenAtOwn d e
      go (inl at) h = at_to (subst (λ (z : Node). SeenAt z e) (same_to q z is at) h)
      go (inr other) h = still e (all.seen q z e (sym (elsewhere q other) ∙ is) h)

  delta_after : (q : ℕ) (z : Node) → slice_get d q ≡ Some z → HasDelta z.replica
  delta_after q z is = go (cases_eq q n)
    where
      go : (q ≡ n) ⊎ (q ≢ n) → HasDelta z.replica
      go (inl at) = subst (λ (z : Node). HasDelta z.replica) (sym (same_to q z is at)) (does.sees.delta (all.delta n st.from st.at))
      go (inr other) = all.delta q z (sym (elsewhere q other) ∙ is)

  all_after : AllSeen d
  all_after = record { delta = delta_after; seen = seen_after }

module _ (l : NodeLimits) (count : ℕ) where
  all_from : (first ks : List Kept) (c d : Cluster) → runs l count first ≡ Ok c → AllSeen c → then_runs (Ok c) ks ≡ Ok d → AllSeen d
  all_from first [] c d ran all run = let same : c ≡ d = cc in subst AllSeen same all
  all_from first (k ∷ ks) c d ran all run =
      let one = run_one c d k ks run in
      let on : runs l count (first ++ k ∷ []) ≡ Ok one.0 =
      runs_append (Ok (opening_of l count)) first (k ∷ []) ∙ ap (λ r. then_runs r (k ∷ [])) ran ∙ ap (λ r. then_runs r []) one.1 in
      all_from (first ++ k ∷ []) ks one.0 d on (all_after c one.0 k (fine_run l count first c ran) (stepped c k.node k.step one.0 one.1) all) one.2

  none_at : (n : ℕ) (e : Dot) → SeenAt (opening_node n l) e → ⊥
  none_at n e (inl h) = true≢false (sym h ∙ sets.contains-empty dot_cmp e)
  none_at n e (inr (zero, k, at, h)) = absurd (cc)
  none_at n e (inr (suc i, k, at, h)) = absurd (cc)

  all_first : AllSeen (opening_of l count)
  all_first = record {
    delta = λ n x at. subst (λ (z : Node). HasDelta z.replica) (sym (opening_at l count n x at)) (λ e h. h);
    seen = λ n x e at h. absurd (none_at n e (subst (λ (z : Node). SeenAt z e) (opening_at l count n x at) h));
  }

  pub all_run : (ks : List Kept) (c : Cluster) → runs l count ks ≡ Ok c → AllSeen c
  all_run ks c run = all_from [] ks (opening_of l count) c refl all_first run

own_clock_is : (l : NodeLimits) (count : ℕ) (ks : List Kept) (c : Cluster) (n : ℕ) (x : Node) → runs l count ks ≡ Ok c → slice_get c n ≡ Some x → own_clock x.replica ≡ own_clock (own_part l ks n)
own_clock_is l count ks c n x run at =
    let a = (known_run l count ks c run).own n x at in
    ap own_clock a.is ∙ same_clock (own_part l ks n) a.store (own_of nothing (own_part l ks n).own (own_part l ks n).store a.store a.alike)

pub seen_holds : SeenLaw
seen_holds l count ks c n x d run at h =
    let o = (all_run l count ks c run).seen n x d at (inl h) in
    let own = (fine_run l count ks c run).each d.name o.0 o.1 in
    let clocks = (own.sound.clocks d.clock).0 (ap (λ n. sets.contains o.0.replica.store.seen (dot n d.clock)) own.own ∙ o.2) in
    let clock = own_clock_is l count ks c d.name o.0 run o.1 in
    let within = slice_get_within c d.name o.0 o.1 in
    let long : length c ≡ count = keeps_length (opening_of l count) c ks run ∙ opening_length l count in
    record { node = (omega (arith, within, long)); least = clocks.0; most = subst (λ n. d.clock ≤ n) clock clocks.1 }

-- at two ends of runs of the network

given_too : (l : NodeLimits) (count : ℕ) (j r : List Kept) (d : Dot) → ((n : ℕ) → ordered r n ≡ ordered j n) → IsGiven l count r d → IsGiven l count j d
given_too l count j r d own g = record { node = g.node; least = g.least; most = subst (λ (ks : List Kept). d.clock ≤ own_clock (own_from (opening d.name l) ks)) (own d.name) g.most }

module _ (r s : Replica) (wanted : Dot → Bool) (a : ReplicaAlike wanted r s) (live : (d : Dot) → fin.contains_key r.store.entries d ≡ true → sets.contains r.store.seen d ≡ true)
    (live_too : (d : Dot) → fin.contains_key s.store.entries d ≡ true → sets.contains s.store.seen d ≡ true)
    (wants : (d : Dot) → sets.contains r.store.seen d ≡ true → wanted d ≡ true) (wants_too : (d : Dot) → sets.contains s.store.seen d ≡ true → wanted d ≡ true) where
  store_is : s.store ≡ a.store
  store_is = ap (λ (r : Replica). r.store) a.is

  same_seen : (d : Dot) → sets.contains a.store.seen d ≡ sets.contains r.store.seen d
  same_seen d = go (sets.contains r.store.seen d) (sets.contains a.store.seen d) refl refl
    where
      go : (b e : Bool) → sets.contains r.store.seen d ≡ b → sets.contains a.store.seen d ≡ e → sets.contains a.store.seen d ≡ sets.contains r.store.seen d
      go true e is too = a.alike.seen d (or_left (wanted d) (d.name == r.own) (wants d is))
      go false true is too = a.alike.seen d (or_left (wanted d) (d.name == r.own) (wants_too d (ap (λ t. sets.contains t.seen d) store_is ∙ too)))
      go false false is too = too ∙ sym is

  no_entry : (t : Store) (d : Dot) → ((d : Dot) → fin.contains_key t.entries d ≡ true → sets.contains t.seen d ≡ true) → sets.contains t.seen d ≡ false → fin.get t.entries d ≡ None
  no_entry t d live none = go (fin.get t.entries d) refl
    where
      go : (o : Option Presence) → fin.get t.entries d ≡ o → fin.get t.entries d ≡ None
      go None is = is
      go (Some p) is = absurd (true≢false (sym (live d (ap is_some is)) ∙ none))

  same_entry : (d : Dot) → fin.get a.store.entries d ≡ fin.get r.store.entries d
  same_entry d = go (sets.contains r.store.seen d) refl
    where
      go : (b : Bool) → sets.contains r.store.seen d ≡ b → fin.get a.store.entries d ≡ fin.get r.store.entries d
      go true is = a.alike.entries d (or_left (wanted d) (d.name == r.own) (wants d is))
      go false is =
          no_entry a.store d (subst (λ (t : Store). (d : Dot) → fin.contains_key t.entries d ≡ true → sets.contains t.seen d ≡ true) store_is live_too) (same_seen d ∙ is)
          ∙ sym (no_entry r.store d live is)

  same_store : a.store ≡ r.store
  same_store =
      let seen = same_dots a.store.seen r.store.seen same_seen in
      let entries = same_entries a.store.entries r.store.entries same_entry in
      λ i. record { seen = seen i; entries = entries i }

  same_replica : s ≡ r
  same_replica = a.is ∙ ap (λ (t : Store). record r { store = t }) same_store

pub same_replica_holds : SameReplicaLaw
same_replica_holds l count j r s lost again n wanted c d x y wants is_run is_run_too run run_too at at_too alike =
    same_replica x.replica y.replica wanted alike ((fine_run l count r c run).each n x at).sound.live ((fine_run l count s d run_too).each n y at_too).sound.live
    (λ e h. wants e (given_too l count j r e is_run.own (seen_holds l count r c n x e run at h)))
    (λ e h. wants e (given_too l count j s e is_run_too.own (seen_holds l count s d n y e run_too at_too h)))
