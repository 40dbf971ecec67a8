-- A step of a node, taken by two nodes that are alike as far as some dots go. Here alone the steps are told apart.
use Rattle.std.proofs.Common.{◌≡◌, ◌≢◌, ◌⊎◌, inl, inr, ℕ, suc, ◌+◌, ◌==◌, ◌&&◌, not, nat_lt, Bool, true, false, if◌then◌else◌, List, [], ◌∷◌, ◌++◌, length, length-append}
use Rattle.std.proofs.Common.{Option, Some, None, Result, Ok, Err, refl, sym, ap, ◌∙◌, subst, true≢false}
use Rattle.std.proofs.lemmas.Bool.{cases_eq}
use Rattle.std.proofs.Math.Bool.{and-false}
use Rattle.std.specs.FinMap as fin
use Rattle.std.specs.FinSet as set
use Rattle.dots_core.specs.declared.dot.Dot.{Dot}
use Rattle.dots_core.specs.Names.{Names}
use Rattle.payload_core.specs.Messages.{Message, numbered, message_of_names}
use Rattle.payload_core.specs.Presences.{Presence, is_tracked_as}
use Rattle.store_core.specs.Stores.{Store, store_of, is_other}
use Rattle.replica_core.specs.declared.replica_fault.ReplicaFault.{ReplicaFault}
use Rattle.replica_core.specs.declared.replica_fault.ReplicaFault.TheVariants as causes
use Rattle.replica_core.specs.declared.status.Status.{Status}
use Rattle.replica_core.specs.declared.status.Status.TheVariants as statuses
use Rattle.replica_core.specs.Replicas.{Replica, is_known, joined, left_each, dropped_each, tracked_dots, dots_of_process, updated, with_status, forgotten, delta_message, request_of, without_delta}
use Rattle.replica_core.specs.Deliveries.{merged, is_other_known}
use Rattle.replica_core.specs.Refusals.{first_of, is_some_dot, is_tracked, are_too_many, is_clock_full, up_refusal, down_refusal, permdown_refusal, has_dots, leave_refusal, leave_all_refusal}
use Rattle.node_core.specs.declared.step_fault.StepFault.{StepFault}
use Rattle.node_core.specs.declared.step_fault.StepFault.TheVariants.{EntriesFull, NothingToSend, OutboxFull, OwnMessage, NoSuchMessage, NotRequest, IsRequest}
use Rattle.node_core.specs.Faults.{step_fault_of}
use Rattle.node_core.specs.Operations.{Operation, Join, Leave, LeaveAll, Update, Broadcast, Extract, Deliver, Request, Answer, Up, Down, Permdown}
use Rattle.node_core.specs.Nodes.{Node, with_replica, with_sent, is_outbox_full, unless, unless_full, broadcast, deliver, deliver_unasked, answer, answer_asked, take}
use Rattle.journal_core.proofs.Numbered.{get-append_at, numbered_push_other}
use Rattle.network_core.proofs.OwnEdits.{OwnAlike, Edits, edits_by, still_alike, joined_edits, left_each_edits, dropped_each_edits, same_clock, same_dots_of, dots_are_of}
use Rattle.network_core.specs.Alike.{StoreAlike, MessageAlike, ReplicaAlike, NodeAlike, SentAlike, BothAre, is_compared, forgets, asked_of}
use Rattle.network_core.proofs.Stores.{or_cases, or_left, or_right, compared_less, store_less, message_same, named_alike, part_alike, merged_alike, beside, own_of, edited}

-- two nodes took a step, and came to alike ones; or both were refused for one cause; or one was full
pub data Together (R : Node → Node → Type 0) (one two : Result Node StepFault) : Type 0 where
  IsFull : one ≡ Err EntriesFull → Together R one two
  IsFullToo : two ≡ Err EntriesFull → Together R one two
  Refused : (fault : StepFault) → one ≡ Err fault → two ≡ Err fault → Together R one two
  Taken : (y z : Node) → one ≡ Ok y → two ≡ Ok z → R y z → Together R one two

-- outboxes in which the next messages were put
pub pushed_alike : (of : ℕ → Dot → Bool) (xs ys : List Message) (m k : Message) → length ys ≡ length xs → SentAlike of xs ys → MessageAlike (of (suc (length xs))) m k →
    SentAlike of (xs ++ m ∷ []) (ys ++ k ∷ [])
pushed_alike of xs ys m k long old new i = go (cases_eq i (suc (length xs)))
  where
    go : (i ≡ suc (length xs)) ⊎ (i ≢ suc (length xs)) → BothAre (MessageAlike (of i)) (numbered (xs ++ m ∷ []) i) (numbered (ys ++ k ∷ []) i)
    go (inl e) =
        let one : numbered (xs ++ m ∷ []) i ≡ Some m = ap (numbered (xs ++ m ∷ [])) e ∙ get-append_at xs [] m in
        let two : numbered (ys ++ k ∷ []) i ≡ Some k = ap (numbered (ys ++ k ∷ [])) (e ∙ ap suc (sym long)) ∙ get-append_at ys [] k in
        subst (λ (o : Option Message). BothAre (MessageAlike (of i)) o (numbered (ys ++ k ∷ []) i)) (sym one)
        (subst (λ (o : Option Message). BothAre (MessageAlike (of i)) (Some m) o) (sym two) (subst (λ n. MessageAlike (of n) m k) (sym e) new))
    go (inr d) =
        subst (λ (o : Option Message). BothAre (MessageAlike (of i)) o (numbered (ys ++ k ∷ []) i)) (sym (numbered_push_other xs m i d))
        (subst (λ (o : Option Message). BothAre (MessageAlike (of i)) (numbered xs i) o) (sym (numbered_push_other ys k i (λ e. d (e ∙ ap suc long)))) (old i))

-- the same cause, or none
plain : (R : Node → Node → Type 0) (y z : Node) (cause : Option ReplicaFault) → R y z → Together R (unless cause y) (unless cause z)
plain R y z None h = Taken y z refl refl h
plain R y z (Some fault) h = Refused (step_fault_of fault) refl refl

-- where the entries may be too many at either node
full : (R : Node → Node → Type 0) (y z : Node) (t a b c : Bool) → R y z →
    Together R (unless (first_of ((t, causes.AlreadyTracked) ∷ (a, causes.EntriesFull) ∷ (c, causes.ClockFull) ∷ [])) y)
    (unless (first_of ((t, causes.AlreadyTracked) ∷ (b, causes.EntriesFull) ∷ (c, causes.ClockFull) ∷ [])) z)
full R y z true a b c h = Refused (step_fault_of causes.AlreadyTracked) refl refl
full R y z false true b c h = IsFull refl
full R y z false false true c h = IsFullToo refl
full R y z false false false true h = Refused (step_fault_of causes.ClockFull) refl refl
full R y z false false false false h = Taken y z refl refl h

full_alone : (R : Node → Node → Type 0) (y z : Node) (a b : Bool) → R y z →
    Together R (unless (first_of ((a, causes.EntriesFull) ∷ [])) y) (unless (first_of ((b, causes.EntriesFull) ∷ [])) z)
full_alone R y z true b h = IsFull refl
full_alone R y z false true h = IsFullToo refl
full_alone R y z false false h = Taken y z refl refl h

posted : (R : Node → Node → Type 0) (y z : Node) (b : Bool) → R y z → Together R (if b then Err OutboxFull else Ok y) (if b then Err OutboxFull else Ok z)
posted R y z true h = Refused OutboxFull refl refl
posted R y z false h = Taken y z refl refl h

-- a dot of another known name is no own one
not_own : (r : Replica) (own : ℕ) (q : Dot) → r.own ≡ own → (q.name == own) ≡ true → is_other_known r q.name ≡ true → ⊥
not_own r own q same mine other =
    true≢false (sym other ∙ ap (λ n. is_known r q.name && not (q.name == n)) same ∙ ap (λ b. is_known r q.name && not b) mine ∙ and-false (is_known r q.name))

module _ (r : Replica) (t : Store) (xs ys : List Message) (at to : Dot → Bool) (of : ℕ → Dot → Bool) (a : StoreAlike (is_compared at r.own) r.store t)
    (long : length ys ≡ length xs) (sent : SentAlike of xs ys) where
  abbrev x : Node
  x = record { replica = r; outbox = xs }

  abbrev y : Node
  y = record { replica = beside r t; outbox = ys }

  abbrev R : Node → Node → Type 0
  R = NodeAlike to of

  still : (u v : Replica) → ReplicaAlike to u v → R (with_replica x u) (with_replica y v)
  still u v h = record { replica = h; long = long; sent = sent }

  more : (u v : Replica) (m k : Message) → ReplicaAlike to u v → MessageAlike (of (suc (length xs))) m k → R (with_sent x m u) (with_sent y k v)
  more u v m k h new = record {
    replica = h;
    long = length-append ys (k ∷ []) ∙ ap (λ n. n + 1) long ∙ sym (length-append xs (m ∷ []));
    sent = pushed_alike of xs ys m k long sent new;
  }

  full_alike : is_outbox_full y ≡ is_outbox_full x
  full_alike = ap (λ n. not (nat_lt n r.limits.messages)) long

  send : (u v : Node) → R u v → Together R (unless_full x u) (unless_full y v)
  send u v h = subst (λ (b : Bool). Together R (unless_full x u) (if b then Err OutboxFull else Ok v)) (sym full_alike) (posted R u v (is_outbox_full x) h)

  abbrev own_alike : OwnAlike r.own r.store t
  own_alike = own_of at r.own r.store t a

  -- what matters behind the step mattered before it
  module _ (less : (d : Dot) → to d ≡ true → at d ≡ true) where
    abbrev same_replica : ReplicaAlike to r (beside r t)
    same_replica = record { store = t; is = refl; alike = store_less (is_compared at r.own) (is_compared to r.own) r.store t (compared_less at to r.own less) a }

    by_edit : (u v : Replica) → Edits r t u v → R (with_replica x u) (with_replica y v)
    by_edit u v e = still u v (edited at to r t u v a less e)

    same_tracked : (pid : ℕ) (topic key : List ℕ) → tracked_dots (beside r t) pid topic key ≡ tracked_dots r pid topic key
    same_tracked pid topic key = same_dots_of r.own (is_tracked_as pid topic key) r.store t own_alike

    same_process : (pid : ℕ) → dots_of_process (beside r t) pid ≡ dots_of_process r pid
    same_process pid = same_dots_of r.own (λ p. p.pid == pid) r.store t own_alike

    pub join : (p : Presence) → Together R (take x (Join p) None) (take y (Join p) None)
    join p =
        subst (λ (o : Result Node StepFault). Together R (take x (Join p) None) o)
        (λ i. unless (first_of ((is_some_dot (sym (same_tracked p.pid p.topic p.key) i), causes.AlreadyTracked)
        ∷ (are_too_many r (fin.len t.entries + 1), causes.EntriesFull)
        ∷ (nat_lt r.limits.clock (sym (same_clock r t own_alike) i + 1), causes.ClockFull) ∷ [])) (with_replica y (joined p (beside r t))))
        (full R (with_replica x (joined p r)) (with_replica y (joined p (beside r t))) (is_tracked r p.pid p.topic p.key) (are_too_many r (fin.len r.store.entries + 1))
        (are_too_many r (fin.len t.entries + 1)) (is_clock_full r 1) (by_edit (joined p r) (joined p (beside r t)) (joined_edits r t own_alike p)))

    leave_cause : (pid : ℕ) (topic key : List ℕ) → leave_refusal (beside r t) pid topic key ≡ leave_refusal r pid topic key
    leave_cause pid topic key = λ i. first_of ((not (is_some_dot (same_tracked pid topic key i)), causes.NotTracked)
        ∷ (nat_lt r.limits.clock (same_clock r t own_alike i + 1), causes.ClockFull) ∷ [])

    leave_all_cause : (pid : ℕ) → leave_all_refusal (beside r t) pid ≡ leave_all_refusal r pid
    leave_all_cause pid = λ i. first_of ((not (is_some_dot (same_process pid i)), causes.NotTracked)
        ∷ (nat_lt r.limits.clock (same_clock r t own_alike i + length (same_process pid i)), causes.ClockFull) ∷ [])

    pub leave : (pid : ℕ) (topic key : List ℕ) → Together R (take x (Leave pid topic key) None) (take y (Leave pid topic key) None)
    leave pid topic key =
        let ds = tracked_dots r pid topic key in
        subst (λ (o : Result Node StepFault). Together R (take x (Leave pid topic key) None) o)
        (λ i. unless (sym (leave_cause pid topic key) i) (with_replica y (left_each (sym (same_tracked pid topic key) i) (beside r t))))
        (plain R (with_replica x (left_each ds r)) (with_replica y (left_each ds (beside r t))) (leave_refusal r pid topic key)
        (by_edit (left_each ds r) (left_each ds (beside r t)) (left_each_edits ds r t own_alike (dots_are_of r.own (is_tracked_as pid topic key) r.store.entries))))

    pub leave_all : (pid : ℕ) → Together R (take x (LeaveAll pid) None) (take y (LeaveAll pid) None)
    leave_all pid =
        let ds = dots_of_process r pid in
        subst (λ (o : Result Node StepFault). Together R (take x (LeaveAll pid) None) o)
        (λ i. unless (sym (leave_all_cause pid) i) (with_replica y (left_each (sym (same_process pid) i) (beside r t))))
        (plain R (with_replica x (left_each ds r)) (with_replica y (left_each ds (beside r t))) (leave_all_refusal r pid)
        (by_edit (left_each ds r) (left_each ds (beside r t)) (left_each_edits ds r t own_alike (dots_are_of r.own (λ p. p.pid == pid) r.store.entries))))

    pub update : (p : Presence) → Together R (take x (Update p) None) (take y (Update p) None)
    update p =
        let ds = tracked_dots r p.pid p.topic p.key in
        let e = dropped_each_edits ds r t own_alike (dots_are_of r.own (is_tracked_as p.pid p.topic p.key) r.store.entries) in
        subst (λ (o : Result Node StepFault). Together R (take x (Update p) None) o)
        (λ i. unless (sym (leave_cause p.pid p.topic p.key) i) (with_replica y (joined p (dropped_each (sym (same_tracked p.pid p.topic p.key) i) (beside r t)))))
        (plain R (with_replica x (updated p r)) (with_replica y (joined p (dropped_each ds (beside r t)))) (leave_refusal r p.pid p.topic p.key)
        (by_edit (updated p r) (joined p (dropped_each ds (beside r t))) (edits_by (joined p) r t (dropped_each ds r) (dropped_each ds (beside r t)) e
        (joined_edits (dropped_each ds r) e.store (still_alike r t (dropped_each ds r) (dropped_each ds (beside r t)) e) p))))

    send_delta : (b : Bool) → Together R (broadcast b x) (broadcast b y)
    send_delta true =
        send (with_sent x (delta_message r) (without_delta r)) (with_sent y (delta_message r) (without_delta (beside r t)))
        (more (without_delta r) (without_delta (beside r t)) (delta_message r) (delta_message r)
        (record { store = t; is = refl; alike = same_replica.alike }) (message_same (of (suc (length xs))) (delta_message r)))
    send_delta false = Refused NothingToSend refl refl

    request : Together R (take x Request None) (take y Request None)
    request =
        send (with_sent x (request_of r) r) (with_sent y (request_of r) (beside r t))
        (more r (beside r t) (request_of r) (request_of r) same_replica (message_same (of (suc (length xs))) (request_of r)))

    status : (name : ℕ) (s : Status) (cause : Option ReplicaFault) → Together R (unless cause (with_replica x (with_status name s r))) (unless cause (with_replica y (with_status name s (beside r t))))
    status name s cause = plain R (with_replica x (with_status name s r)) (with_replica y (with_status name s (beside r t))) cause
        (still (with_status name s r) (with_status name s (beside r t)) (record { store = t; is = refl; alike = same_replica.alike }))

    abbrev extract_of : Replica → Names → Message
    extract_of r names = message_of_names (set.contains names) r.own r.store.seen r.store.entries

    extracted : (names : Names) → ((d : Dot) → of (suc (length xs)) d ≡ true → set.contains names d.name ≡ true → is_compared at r.own d ≡ true) →
        Together R (unless_full x (with_sent x (extract_of r names) r)) (unless_full y (with_sent y (extract_of (beside r t) names) (beside r t)))
    extracted names was =
        send (with_sent x (extract_of r names) r) (with_sent y (extract_of (beside r t) names) (beside r t))
        (more r (beside r t) (extract_of r names) (extract_of (beside r t) names) same_replica
        (named_alike (is_compared at r.own) (of (suc (length xs))) (set.contains names) r.own r.store t a was))

    -- a delivery
    module _ (read : Dot → Bool) (brings : (d : Dot) → to d ≡ true → read d ≡ true) where
      merged_both : (m k : Message) → MessageAlike read m k → Together R (deliver_unasked None x m) (deliver_unasked None y k)
      merged_both m k b =
          full_alone R (with_replica x (merged m r)) (with_replica y (merged k (beside r t))) (are_too_many r (fin.len (merged m r).store.entries))
          (are_too_many r (fin.len (merged k (beside r t)).store.entries))
          (still (merged m r) (merged k (beside r t)) (record {
            store = (merged k (beside r t)).store;
            is = refl;
            alike = merged_alike (is_compared at r.own) (is_compared to r.own) (is_other_known r) (store_of m) (store_of k) r.store t a (compared_less at to r.own less)
                (λ d h other. brought d other (or_cases (to d) (d.name == r.own) h));
          }))
        where
          brought : (d : Dot) → is_other_known r d.name ≡ true → (to d ≡ true) ⊎ ((d.name == r.own) ≡ true) →
              (set.contains k.seen d ≡ set.contains m.seen d) × (fin.get k.entries d ≡ fin.get m.entries d)
          brought d other (inl asked) = (b.store.seen d (brings d asked), b.store.entries d (brings d asked))
          brought d other (inr mine) = absurd (not_own r r.own d refl mine other)

      unasked_both : (o : Option Names) (m k : Message) → MessageAlike read m k → Together R (deliver_unasked o x m) (deliver_unasked o y k)
      unasked_both None m k b = merged_both m k b
      unasked_both (Some names) m k b = Refused IsRequest refl refl

      deliver_both : (o p : Option Message) → BothAre (MessageAlike read) o p → Together R (deliver x o) (deliver y p)
      deliver_both None None b = Refused NoSuchMessage refl refl
      deliver_both None (Some k) b = absurd b
      deliver_both (Some m) None b = absurd b
      deliver_both (Some m) (Some k) b =
          subst (λ (asked : Option Names). Together R (deliver_unasked m.asked x m) (deliver_unasked asked y k)) (sym b.asks) (unasked_both m.asked m k b)

      pub deliver_any : (own : Bool) (o p : Option Message) → BothAre (MessageAlike read) o p →
          Together R (if own then Err OwnMessage else deliver x o) (if own then Err OwnMessage else deliver y p)
      deliver_any true o p b = Refused OwnMessage refl refl
      deliver_any false o p b = deliver_both o p b

    -- an answer
    module _ (read : Dot → Bool) where
      answer_names : (o : Option Names) →
          ((names : Names) → o ≡ Some names → (d : Dot) → of (suc (length xs)) d ≡ true → set.contains names d.name ≡ true → is_compared at r.own d ≡ true) →
          Together R (answer_asked o x) (answer_asked o y)
      answer_names None was = Refused NotRequest refl refl
      answer_names (Some names) was = extracted names (was names refl)

      answer_both : (o p : Option Message) → BothAre (MessageAlike read) o p →
          ((names : Names) → asked_of o ≡ Some names → (d : Dot) → of (suc (length xs)) d ≡ true → set.contains names d.name ≡ true → is_compared at r.own d ≡ true) →
          Together R (answer x o) (answer y p)
      answer_both None None b was = Refused NoSuchMessage refl refl
      answer_both None (Some k) b was = absurd b
      answer_both (Some m) None b was = absurd b
      answer_both (Some m) (Some k) b was =
          subst (λ (asked : Option Names). Together R (answer_asked m.asked x) (answer_asked asked y)) (sym b.asks) (answer_names m.asked was)

      pub answer_any : (own : Bool) (o p : Option Message) → BothAre (MessageAlike read) o p →
          ((names : Names) → asked_of o ≡ Some names → (d : Dot) → of (suc (length xs)) d ≡ true → set.contains names d.name ≡ true → is_compared at r.own d ≡ true) →
          Together R (if own then Err OwnMessage else answer x o) (if own then Err OwnMessage else answer y p)
      answer_any true o p b was = Refused OwnMessage refl refl
      answer_any false o p b was = answer_both o p b was

  -- a name is forgotten, and what was held of it need not have mattered
  pub forget : (name : ℕ) → ((d : Dot) → (d.name == name) ≡ false → to d ≡ true → at d ≡ true) → Together R (take x (Permdown name) None) (take y (Permdown name) None)
  forget name less =
      plain R (with_replica x (forgotten name r)) (with_replica y (forgotten name (beside r t))) (permdown_refusal r name)
      (still (forgotten name r) (forgotten name (beside r t)) (record {
        store = (forgotten name (beside r t)).store;
        is = refl;
        alike = part_alike (is_compared at r.own) (is_compared to r.own) (is_other name) r.store t a
            (λ d h other. go d other (or_cases (to d) (d.name == r.own) h));
      }))
    where
      go : (d : Dot) → is_other name d.name ≡ true → (to d ≡ true) ⊎ ((d.name == r.own) ≡ true) → is_compared at r.own d ≡ true
      go d other (inl asked) = or_left (at d) (d.name == r.own) (less d (is_not (d.name == name) other) asked)
        where
          is_not : (b : Bool) → not b ≡ true → b ≡ false
          is_not true h = absurd (true≢false (sym h))
          is_not false h = refl
      go d other (inr mine) = or_right (at d) (d.name == r.own) mine

-- any step
pub take_both : (at to : Dot → Bool) (of : ℕ → Dot → Bool) (read : Dot → Bool) (r : Replica) (t : Store) (xs ys : List Message) → StoreAlike (is_compared at r.own) r.store t →
    length ys ≡ length xs → SentAlike of xs ys → (s : Operation) (o p : Option Message) → BothAre (MessageAlike read) o p →
    ((d : Dot) → forgets s d.name ≡ false → to d ≡ true → at d ≡ true) →
    ((sender number : ℕ) → s ≡ Deliver sender number → (d : Dot) → to d ≡ true → read d ≡ true) →
    ((names : Names) → s ≡ Extract names → (d : Dot) → of (suc (length xs)) d ≡ true → set.contains names d.name ≡ true → is_compared at r.own d ≡ true) →
    ((sender number : ℕ) (names : Names) → s ≡ Answer sender number → asked_of o ≡ Some names → (d : Dot) → of (suc (length xs)) d ≡ true →
    set.contains names d.name ≡ true → is_compared at r.own d ≡ true) →
    Together (NodeAlike to of) (take (record { replica = r; outbox = xs }) s o) (take (record { replica = beside r t; outbox = ys }) s p)
take_both at to of read r t xs ys a long sent (Join q) o p b less brings was was_too = join r t xs ys at to of a long sent (λ d h. less d refl h) q
take_both at to of read r t xs ys a long sent (Leave pid topic key) o p b less brings was was_too = leave r t xs ys at to of a long sent (λ d h. less d refl h) pid topic key
take_both at to of read r t xs ys a long sent (LeaveAll pid) o p b less brings was was_too = leave_all r t xs ys at to of a long sent (λ d h. less d refl h) pid
take_both at to of read r t xs ys a long sent (Update q) o p b less brings was was_too = update r t xs ys at to of a long sent (λ d h. less d refl h) q
take_both at to of read r t xs ys a long sent Broadcast o p b less brings was was_too =
    send_delta r t xs ys at to of a long sent (λ d h. less d refl h) (has_dots r.delta.seen)
take_both at to of read r t xs ys a long sent (Extract names) o p b less brings was was_too =
    extracted r t xs ys at to of a long sent (λ d h. less d refl h) names (was names refl)
take_both at to of read r t xs ys a long sent (Deliver sender number) o p b less brings was was_too =
    deliver_any r t xs ys at to of a long sent (λ d h. less d refl h) read (brings sender number refl) (sender == r.own) o p b
take_both at to of read r t xs ys a long sent Request o p b less brings was was_too = request r t xs ys at to of a long sent (λ d h. less d refl h)
take_both at to of read r t xs ys a long sent (Answer sender number) o p b less brings was was_too =
    answer_any r t xs ys at to of a long sent (λ d h. less d refl h) read (sender == r.own) o p b (λ names is. was_too sender number names refl is)
take_both at to of read r t xs ys a long sent (Up name) o p b less brings was was_too =
    status r t xs ys at to of a long sent (λ d h. less d refl h) name statuses.Up (up_refusal r name)
take_both at to of read r t xs ys a long sent (Down name) o p b less brings was was_too =
    status r t xs ys at to of a long sent (λ d h. less d refl h) name statuses.Down (down_refusal r name)
take_both at to of read r t xs ys a long sent (Permdown name) o p b less brings was was_too = forget r t xs ys at to of a long sent name less
