-- A run with no more joins and updates than a node may hold never fills one.
use Rattle.std.proofs.Common.{◌≡◌, ◌⊎◌, inl, inr, ℕ, zero, suc, ◌==◌, true, false, cond, Bool, List, [], ◌∷◌, ◌++◌, length, set, slice_get}
use Rattle.std.proofs.Common.{is_some, Option, Some, None, Result, Ok, Err, ◌+◌, ◌-◌, ◌<◌, ◌≤◌, nat_lt, if◌then◌else◌, arith, refl, sym, ap, ◌∙◌, subst, true≢false}
use Rattle.std.proofs.lemmas.Bool.{ltb-true}
use Rattle.std.specs.List.{Contains, list_all}
use Rattle.dots_core.specs.Dots.{dot_cmp}
use Rattle.dots_core.specs.Names.{Names}
use Rattle.dots_core.proofs.Order.{dot_total, is_dot, is_dot_same}
use Rattle.std.specs.FinMap as fin
use Rattle.dots_core.specs.declared.dot.Dot.{Dot}
use Rattle.payload_core.specs.Presences.{Presence, Entries}
use Rattle.payload_core.specs.Messages.{Message, numbered}
use Rattle.block_core.proofs.EntryMaps.{get-remove, same_entries}
use Rattle.replica_core.specs.declared.node_limits.NodeLimits.{NodeLimits}
use Rattle.replica_core.specs.declared.replica_fault.ReplicaFault.TheVariants as causes
use Rattle.replica_core.specs.declared.replica_fault.ReplicaFault.TheVariants.{OwnReplica, NotKnown, NotDown}
use Rattle.replica_core.specs.Replicas.{fresh}
use Rattle.replica_core.specs.Deliveries.{merged}
use Rattle.replica_core.specs.Refusals.{first_of, has_dots, is_tracked, are_too_many, is_clock_full}
use Rattle.node_core.specs.Operations.{Operation, Join, Leave, LeaveAll, Update, Broadcast, Extract, Deliver, Request, Answer, Up, Down, Permdown, delivers, named_in}
use Rattle.node_core.specs.declared.step_fault.StepFault.{StepFault}
use Rattle.node_core.specs.declared.step_fault.StepFault.TheVariants as step_faults
use Rattle.node_core.specs.Nodes.{Node, opening_node, unless, take, deliver, deliver_unasked, answer, answer_asked, broadcast, is_outbox_full}
use Rattle.journal_core.specs.Journals.{Kept}
use Rattle.bench_core.specs.declared.fault.Fault as faults_of
use Rattle.bench_core.specs.declared.fault.Fault.TheVariants as faults
use Rattle.bench_core.specs.Clusters.{fault_of, of_node, node_step, with_node, Cluster, message_for, opening_of, step}
use Rattle.bench_core.specs.Runs.{then_runs, runs}
use Rattle.bench_core.proofs.Clusters.{Stepped, stepped}
use Rattle.bench_core.proofs.Runs.{opening_at, runs_append, limited_runs}
use Rattle.bench_core.specs.Laws.{presence_made}
use Rattle.network_core.specs.Room.{makes, made, NeverFullLaw}
use Rattle.bench_core.proofs.OneEntry.{Changed, Fine, Held, HeldAt, changed, fine_run, held_before, read_from, seen_read}
use Rattle.bench_core.proofs.Sound.{ComesFrom, Change, no_entry}
use Rattle.bench_core.proofs.Sound.{change_merged}

-- how many dots there are

in_more : (x d : Dot) (L : List Dot) → Contains L d → Contains (x ∷ L) d
in_more x d L (k, lt, is) = (suc k, omega (arith, lt), is)

at_first : (x d : Dot) (L : List Dot) → x ≡ d → Contains (x ∷ L) d
at_first x d L is = (zero, omega arith, is)

in_cases : (x d : Dot) (L : List Dot) → Contains (x ∷ L) d → (x ≡ d) ⊎ Contains L d
in_cases x d L (zero, lt, is) = inl is
in_cases x d L (suc k, lt, is) = inr (k, omega (arith, lt), is)

not_in_none : (d : Dot) → Contains [] d → ⊥
not_in_none d (k, lt, is) = omega (arith, lt)

-- a map whose dots are all in a list has no more of them
few_entries : (L : List Dot) (m : Entries) → ((d : Dot) (p : Presence) → fin.get m d ≡ Some p → Contains L d) → fin.len m ≤ length L
few_entries [] m all = let none : fin.len m ≡ 0 = ap fin.len (same_entries m fin.empty (λ q. gone q (fin.get m q) refl)) ∙ fin.len-empty dot_cmp Presence in omega (arith, none)
  where
    gone : (q : Dot) (o : Option Presence) → fin.get m q ≡ o → fin.get m q ≡ fin.get {R = dot_cmp} fin.empty q
    gone q None is = is ∙ sym (fin.get-empty dot_cmp q)
    gone q (Some p) is = absurd (not_in_none q (all q p is))
few_entries (x ∷ L) m all = go (fin.contains_key m x) refl (few_entries L (fin.remove m x) (λ d p is. rest d p (is_dot d x) refl is))
  where
    rest : (d : Dot) (p : Presence) (b : Bool) → is_dot d x ≡ b → fin.get (fin.remove m x) d ≡ Some p → Contains L d
    rest d p true same is = absurd (let none : fin.get (fin.remove m x) d ≡ None = get-remove m x d ∙ ap (λ b. cond b None (fin.get m d)) same in cc)
    rest d p false other is = pick (in_cases x d L (all d p (sym (get-remove m x d ∙ ap (λ b. cond b None (fin.get m d)) other) ∙ is)))
      where
        pick : (x ≡ d) ⊎ Contains L d → Contains L d
        pick (inl e) = absurd (true≢false (sym (ap (λ (y : Dot). is_dot d y) e ∙ is_dot_same d) ∙ other))
        pick (inr h) = h

    go : (b : Bool) → fin.contains_key m x ≡ b → fin.len (fin.remove m x) ≤ length L → fin.len m ≤ suc (length L)
    go true is h = let one : fin.len (fin.remove m x) ≡ fin.len m - 1 = fin.len-remove dot_total m x ∙ ap (λ b. cond b (fin.len m - 1) (fin.len m)) is in omega (arith, one, h)
    go false is h = let all : fin.len (fin.remove m x) ≡ fin.len m = fin.len-remove dot_total m x ∙ ap (λ b. cond b (fin.len m - 1) (fin.len m)) is in omega (arith, all, h)

-- all that stands in a cluster stands at one of so many dots
pub record FewDots (c : Cluster) (n : ℕ) : Type 0 where
  pub dots : List Dot
  pub few : length dots ≤ n
  pub all : (d : Dot) (p : Presence) → Held c d p → Contains dots d

abbrev more : Bool → ℕ → ℕ
more b n = if b then n + 1 else n

none_made : (s : Operation) → makes s ≡ false → presence_made s ≡ None
none_made s h = go (presence_made s) h
  where
    go : (o : Option Presence) → is_some o ≡ false → o ≡ None
    go None h = refl
    go (Some p) h = absurd (true≢false h)

few_step : (c d : Cluster) (k : Kept) (n : ℕ) → Fine c → FewDots c n → step c k.node k.step ≡ Ok d → FewDots d (more (makes k.step) n)
few_step c d k n fine f h =
    let st = stepped c k.node k.step d h in
    subst (λ (e : Cluster). FewDots e (more (makes k.step) n)) (sym st.gives)
    (go st (changed st.from k.step (message_for c k.step) st.to (fine.each k.node st.from st.at).sound (seen_read c k.step fine) st.taken) (makes k.step) refl)
  where
    go : (st : Stepped c k.node k.step d) → (ch : Changed k.step st.from (message_for c k.step) st.to) → (b : Bool) → makes k.step ≡ b →
        FewDots (set c k.node st.to) (more b n)
    go st ch true is = record {
      dots = fresh st.from.replica ∷ f.dots;
      few = omega (arith, f.few);
      all = λ d p h. pick d p (held_before c k.node k.step st.from st.to st.at fine ch d p h);
    }
      where
        pick : (d : Dot) (p : Presence) → Held c d p ⊎ ((d ≡ fresh st.from.replica) × (presence_made k.step ≡ Some p)) → Contains (fresh st.from.replica ∷ f.dots) d
        pick d p (inl old) = in_more (fresh st.from.replica) d f.dots (f.all d p old)
        pick d p (inr new) = at_first (fresh st.from.replica) d f.dots (sym new.0)
    go st ch false is = record {
      dots = f.dots;
      few = f.few;
      all = λ d p h. pick d p (held_before c k.node k.step st.from st.to st.at fine ch d p h);
    }
      where
        pick : (d : Dot) (p : Presence) → Held c d p ⊎ ((d ≡ fresh st.from.replica) × (presence_made k.step ≡ Some p)) → Contains f.dots d
        pick d p (inl old) = f.all d p old
        pick d p (inr new) = absurd (let none : presence_made k.step ≡ None = none_made k.step is in let some = new.1 in cc)

pub few_opening : (l : NodeLimits) (count : ℕ) → FewDots (opening_of l count) 0
few_opening l count = record { dots = []; few = omega arith; all = λ d p h. absurd (none d p h) }
  where
    no_message : (i : ℕ) (k : Message) → numbered {X = Message} [] i ≡ Some k → ⊥
    no_message zero k e = cc
    no_message (suc i) k e = cc

    at_none : (n : ℕ) (d : Dot) (p : Presence) → HeldAt (opening_node n l) d p → ⊥
    at_none n d p (inl e) = no_entry d p e
    at_none n d p (inr e) = no_message e.0 e.1 e.2

    none : (d : Dot) (p : Presence) → Held (opening_of l count) d p → ⊥
    none d p (n, x, at, h) = at_none n d p (subst (λ (x : Node). HeldAt x d p) (opening_at l count n x at) h)

-- a step that fills a node

full_only : (e : StepFault) → fault_of e ≡ faults.EntriesFull → e ≡ step_faults.EntriesFull
full_only step_faults.EntriesFull h = refl
full_only step_faults.OwnReplica h = absurd (cc)
full_only step_faults.NotKnown h = absurd (cc)
full_only step_faults.NotDown h = absurd (cc)
full_only step_faults.AlreadyTracked h = absurd (cc)
full_only step_faults.NotTracked h = absurd (cc)
full_only step_faults.NothingToSend h = absurd (cc)
full_only step_faults.ClockFull h = absurd (cc)
full_only step_faults.OwnMessage h = absurd (cc)
full_only step_faults.NoSuchMessage h = absurd (cc)
full_only step_faults.NotRequest h = absurd (cc)
full_only step_faults.IsRequest h = absurd (cc)
full_only step_faults.OutboxFull h = absurd (cc)
full_only step_faults.OutOfMemory h = absurd (cc)

leave_causes : (a b : Bool) (z : Node) → unless (first_of ((a, causes.NotTracked) ∷ (b, causes.ClockFull) ∷ [])) z ≡ Err step_faults.EntriesFull → ⊥
leave_causes true b z h = cc
leave_causes false true z h = cc
leave_causes false false z h = cc

up_causes : (a : Bool) (z : Node) → unless (first_of ((a, causes.OwnReplica) ∷ [])) z ≡ Err step_faults.EntriesFull → ⊥
up_causes true z h = cc
up_causes false z h = cc

down_causes : (a b : Bool) (z : Node) → unless (first_of ((a, causes.OwnReplica) ∷ (b, causes.NotKnown) ∷ [])) z ≡ Err step_faults.EntriesFull → ⊥
down_causes true b z h = cc
down_causes false true z h = cc
down_causes false false z h = cc

permdown_causes : (a b c : Bool) (z : Node) → unless (first_of ((a, causes.OwnReplica) ∷ (b, causes.NotKnown) ∷ (c, causes.NotDown) ∷ [])) z ≡ Err step_faults.EntriesFull → ⊥
permdown_causes true b c z h = cc
permdown_causes false true c z h = cc
permdown_causes false false true z h = cc
permdown_causes false false false z h = cc

join_causes : (a b c : Bool) (z : Node) → unless (first_of ((a, causes.AlreadyTracked) ∷ (b, causes.EntriesFull) ∷ (c, causes.ClockFull) ∷ [])) z ≡ Err step_faults.EntriesFull → b ≡ true
join_causes true b c z h = absurd (cc)
join_causes false true c z h = refl
join_causes false false true z h = absurd (cc)
join_causes false false false z h = absurd (cc)

merge_causes : (b : Bool) (z : Node) → unless (first_of ((b, causes.EntriesFull) ∷ [])) z ≡ Err step_faults.EntriesFull → b ≡ true
merge_causes true z h = refl
merge_causes false z h = absurd (cc)

send_causes : (b : Bool) (z : Node) → ◌≡◌ {A = Result Node StepFault} (if b then Err step_faults.OutboxFull else Ok z) (Err step_faults.EntriesFull) → ⊥
send_causes true z h = cc
send_causes false z h = cc

module _ (c : Cluster) (n : ℕ) (x : Node) (at : slice_get c n ≡ Some x) (fine : Fine c) (count : ℕ) (f : FewDots c count) where
  abbrev entries : ℕ
  entries = x.replica.limits.entries

  held_here : fin.len x.replica.store.entries ≤ length f.dots
  held_here = few_entries f.dots x.replica.store.entries (λ d p is. f.all d p (n, x, at, inl is))

  held_merged : (s : Operation) (m : Message) → message_for c s ≡ Some m → fin.len (merged m x.replica).store.entries ≤ length f.dots
  held_merged s m there =
      let r = read_from c (delivers s) m there in
      let ch = change_merged x.replica m (fine.each n x at).sound ((fine.each r.0 r.2 r.3).messages r.1 m r.4) in
      few_entries f.dots (merged m x.replica).store.entries (λ d p is. f.all d p (from r ch d p (ch.comes d p is)))
    where
      from : (r : (n i : ℕ) × (x : Node) × (slice_get c n ≡ Some x) × (numbered x.outbox i ≡ Some m)) → Change x.replica (Some m) None (merged m x.replica) →
          (d : Dot) (p : Presence) → ComesFrom x.replica (Some m) None d p → Held c d p
      from r ch d p (inl old) = (n, x, at, inl old)
      from r ch d p (inr (inl sent)) = (r.0, r.2, r.3, inr (r.1, m, r.4, sent))
      from r ch d p (inr (inr new)) = absurd (let some = new.1 in cc)

  delivered_full : (s : Operation) (own : Bool) (o : Option Message) → message_for c s ≡ o → (if own then Err step_faults.OwnMessage else deliver x o) ≡ Err step_faults.EntriesFull →
      entries < length f.dots
  delivered_full s true o there h = absurd (cc)
  delivered_full s false None there h = absurd (cc)
  delivered_full s false (Some m) there h = asking m.asked h
    where
      asking : (asked : Option Names) → deliver_unasked asked x m ≡ Err step_faults.EntriesFull → entries < length f.dots
      asking None h =
          let over = ltb-true entries (fin.len (merged m x.replica).store.entries) (merge_causes (are_too_many x.replica (fin.len (merged m x.replica).store.entries)) _ h) in
          let under = held_merged s m there in omega (arith, over, under)
      asking (Some names) h = absurd (cc)

  answered_full : (own : Bool) (o : Option Message) → (if own then Err step_faults.OwnMessage else answer x o) ≡ Err step_faults.EntriesFull → ⊥
  answered_full true o h = cc
  answered_full false None h = cc
  answered_full false (Some m) h = asking m.asked h
    where
      asking : (asked : Option Names) → answer_asked asked x ≡ Err step_faults.EntriesFull → ⊥
      asking None h = cc
      asking (Some names) h = send_causes (is_outbox_full x) _ h

  broadcast_full : (b : Bool) → broadcast b x ≡ Err step_faults.EntriesFull → ⊥
  broadcast_full true h = send_causes (is_outbox_full x) _ h
  broadcast_full false h = cc

  takes_full : (s : Operation) → take x s (message_for c s) ≡ Err step_faults.EntriesFull → entries < more (makes s) (length f.dots)
  takes_full (Join p) h =
      let over = ltb-true entries (fin.len x.replica.store.entries + 1) (join_causes (is_tracked x.replica p.pid p.topic p.key) (are_too_many x.replica (fin.len x.replica.store.entries + 1))
      (is_clock_full x.replica 1) _ h) in
      omega (arith, over, held_here)
  takes_full (Leave pid topic key) h = absurd (leave_causes _ _ _ h)
  takes_full (LeaveAll pid) h = absurd (leave_causes _ _ _ h)
  takes_full (Update p) h = absurd (leave_causes _ _ _ h)
  takes_full Broadcast h = absurd (broadcast_full (has_dots x.replica.delta.seen) h)
  takes_full (Extract names) h = absurd (send_causes (is_outbox_full x) _ h)
  takes_full (Deliver sender number) h = delivered_full (Deliver sender number) (sender == x.replica.own) (message_for c (Deliver sender number)) refl h
  takes_full Request h = absurd (send_causes (is_outbox_full x) _ h)
  takes_full (Answer sender number) h = absurd (answered_full (sender == x.replica.own) (message_for c (Answer sender number)) h)
  takes_full (Up name) h = absurd (up_causes _ _ h)
  takes_full (Down name) h = absurd (down_causes _ _ _ h)
  takes_full (Permdown name) h = absurd (permdown_causes _ _ _ _ h)

full_step : (c : Cluster) (l : NodeLimits) (n : ℕ) (s : Operation) (count : ℕ) → Fine c → ((n : ℕ) (x : Node) → slice_get c n ≡ Some x → x.replica.limits ≡ l) → FewDots c count →
    more (makes s) count ≤ l.entries → step c n s ≡ Err faults.EntriesFull → ⊥
full_step c l n s count fine limits f room h = found (slice_get c n) refl h
  where
    room_too : (b : Bool) → more b count ≤ l.entries → more b (length f.dots) ≤ l.entries
    room_too true r = omega (arith, r, f.few)
    room_too false r = omega (arith, r, f.few)

    took : (x : Node) → slice_get c n ≡ Some x → (r : Result Node StepFault) → take x s (message_for c s) ≡ r → with_node c n (of_node r) ≡ Err faults.EntriesFull → ⊥
    took x at (Ok y) is h = cc
    took x at (Err e) is h =
        let same : fault_of e ≡ faults.EntriesFull = cc in
        let over : x.replica.limits.entries < more (makes s) (length f.dots) = takes_full c n x at fine count f s (is ∙ ap Err (full_only e same)) in
        let here : x.replica.limits.entries ≡ l.entries = ap (λ (l : NodeLimits). l.entries) (limits n x at) in
        let enough = room_too (makes s) room in
        omega (arith, over, here, enough)

    tested : (x : Node) → slice_get c n ≡ Some x → (b : Bool) → with_node c n (if b then of_node (take x s (message_for c s)) else Err faults.UnknownNode) ≡ Err faults.EntriesFull → ⊥
    tested x at true h = took x at (take x s (message_for c s)) refl h
    tested x at false h = cc

    found : (o : Option Node) → slice_get c n ≡ o → with_node c n (node_step (length c) o s (message_for c s)) ≡ Err faults.EntriesFull → ⊥
    found None is h = cc
    found (Some x) is h = tested x is (list_all (λ k. nat_lt k (length c)) (named_in s)) h

-- along a run

more_made : (b : Bool) (n rest : ℕ) → more b n + rest ≡ n + (if b then rest + 1 else rest)
more_made true n rest = omega arith
more_made false n rest = omega arith

never : (l : NodeLimits) (count : ℕ) (first ks : List Kept) (c : Cluster) (n : ℕ) → runs l count first ≡ Ok c → FewDots c n → n + made ks ≤ l.entries →
    then_runs (Ok c) ks ≡ Err faults.EntriesFull → ⊥
never l count first [] c n ran f room h = cc
never l count first (k ∷ ks) c n ran f room h =
    go (λ d began g enough ends. never l count (first ++ k ∷ []) ks d (more (makes k.step) n) began g enough ends) (step c k.node k.step) refl h
  where
    here : more (makes k.step) n ≤ l.entries
    here = let same = more_made (makes k.step) n (made ks) in omega (arith, same, room)

    erred : (e : faults_of.Fault) (ks : List Kept) → then_runs (Err e) ks ≡ Err faults.EntriesFull → ◌≡◌ {A = Result Cluster faults_of.Fault} (Err e) (Err faults.EntriesFull)
    erred e [] h = h
    erred e (k ∷ ks) h = h

    go : ((d : Cluster) → runs l count (first ++ k ∷ []) ≡ Ok d → FewDots d (more (makes k.step) n) → more (makes k.step) n + made ks ≤ l.entries →
        then_runs (Ok d) ks ≡ Err faults.EntriesFull → ⊥) → (r : Result Cluster faults_of.Fault) → step c k.node k.step ≡ r → then_runs r ks ≡ Err faults.EntriesFull → ⊥
    go later (Ok d) is h =
        later d
        (runs_append (Ok (opening_of l count)) first (k ∷ []) ∙ ap (λ r. then_runs r (k ∷ [])) ran ∙ ap (λ r. then_runs r []) is)
        (few_step c d k n (fine_run l count first c ran) f is)
        (let same = more_made (makes k.step) n (made ks) in omega (arith, same, room)) h
    go later (Err e) is h =
        full_step c l k.node k.step n (fine_run l count first c ran) (limited_runs l count first c ran) f here (is ∙ erred e ks h)

pub never_full_holds : NeverFullLaw
never_full_holds l count ks room h = never l count [] ks (opening_of l count) 0 refl (few_opening l count) (omega (arith, room)) h
