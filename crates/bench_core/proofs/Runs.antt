-- Runs of journals: in two parts, what they keep of the outboxes, and a node that is replaced on the way.
use Rattle.std.proofs.Common.{◌≡◌, ◌≢◌, ◌⊎◌, inl, inr, ℕ, zero, suc, ◌+◌, ◌==◌, ◌&&◌, Bool, true, false, cond, List, [], ◌∷◌, ◌++◌, length, set, slice_get}
use Rattle.std.proofs.Common.{Option, Some, None, option_map, Result, Ok, Err, refl, sym, ap, ◌∙◌, subst, subst₂, true≢false, arith, length-append}
use Rattle.std.proofs.Common.{append_assoc, append-nil, add-zero}
use Rattle.std.proofs.lemmas.Bool.{cases_eq, ne_eqb, eq-eqb, and_from}
use Rattle.std.proofs.lemmas.List.Elements.{filter-append}
use Rattle.replica_core.specs.declared.node_limits.NodeLimits.{NodeLimits}
use Rattle.node_core.specs.Operations.{Operation, delivers, sends}
use Rattle.payload_core.specs.Messages.{Message, numbered}
use Rattle.node_core.specs.Nodes.{Node, opening_node, take}
use Rattle.bench_core.specs.declared.fault.Fault.{Fault}
use Rattle.journal_core.specs.Journals.{Kept, sent_by, sender_of, source_at, source_of, is_number}
use Rattle.bench_core.specs.Clusters.{Cluster, opening_from, opening_of, outbox_of, message_at, message_for, step}
use Rattle.bench_core.specs.Runs.{then_runs, runs}
use Rattle.bench_core.specs.Benches.{IsNumbered}
use Rattle.journal_core.proofs.Numbered.{get-append_at, numbered_append, numbered_push_other}
use Rattle.bench_core.proofs.Clusters.{ReadAlike, get-set_same, get-set_other, mapped, ReadsAlike, message-set, step-set, Stepped, stepped}
use Rattle.bench_core.proofs.Taken.{Posts, posts, owns, keeps_limits}

pub runs_append : (r : Result Cluster Fault) (ks js : List Kept) → then_runs r (ks ++ js) ≡ then_runs (then_runs r ks) js
runs_append (Err e) ks js = refl
runs_append (Ok c) [] js = refl
runs_append (Ok c) (k ∷ ks) js = runs_append (step c k.node k.step) ks js

-- a run that ends well passes through a cluster at each moment
pub runs_split : (r : Result Cluster Fault) (ks js : List Kept) (d : Cluster) → then_runs r (ks ++ js) ≡ Ok d →
    (c : Cluster) × (then_runs r ks ≡ Ok c) × (then_runs (Ok c) js ≡ Ok d)
runs_split r ks js d h = go (then_runs r ks) refl (sym (runs_append r ks js) ∙ h)
  where
    go : (x : Result Cluster Fault) → then_runs r ks ≡ x → then_runs x js ≡ Ok d →
        (c : Cluster) × (then_runs r ks ≡ Ok c) × (then_runs (Ok c) js ≡ Ok d)
    go (Ok c) is h = (c, is, h)
    go (Err e) is h = absurd (cc)

pub run_one : (c d : Cluster) (k : Kept) (ks : List Kept) → then_runs (Ok c) (k ∷ ks) ≡ Ok d →
    (b : Cluster) × (step c k.node k.step ≡ Ok b) × (then_runs (Ok b) ks ≡ Ok d)
run_one c d k ks h = go (step c k.node k.step) refl h
  where
    go : (x : Result Cluster Fault) → step c k.node k.step ≡ x → then_runs x ks ≡ Ok d →
        (b : Cluster) × (step c k.node k.step ≡ Ok b) × (then_runs (Ok b) ks ≡ Ok d)
    go (Ok b) is h = (b, is, h)
    go (Err e) is h = absurd (cc)

-- the outboxes only grow, by one message for each sending step

pub record Grown (xs ys : List Message) (count : ℕ) : Type 0 where
  pub more : List Message
  pub is : ys ≡ xs ++ more
  pub counted : length more ≡ count

posts_grow : (b : Bool) (xs ys : List Message) → Posts b xs ys → Grown xs ys (cond b 1 0)
posts_grow true xs ys h = record { more = h.0 ∷ []; is = h.1; counted = refl }
posts_grow false xs ys h = record { more = []; is = h ∙ sym (append-nil xs); counted = refl }

grow_more : (xs ys zs : List Message) (m n : ℕ) → Grown xs ys m → Grown ys zs n → Grown xs zs (m + n)
grow_more xs ys zs m n g h = record {
  more = g.more ++ h.more;
  is = h.is ∙ ap (λ (l : List Message). l ++ h.more) g.is ∙ append_assoc xs g.more h.more;
  counted = length-append g.more h.more ∙ cc (g.counted, h.counted);
}

-- after a step, node n is there with its outbox
pub record Still (c d : Cluster) (n : ℕ) (x : Node) (count : ℕ) : Type 0 where
  pub node : Node
  pub at : slice_get d n ≡ Some node
  pub grown : Grown x.outbox node.outbox count

step_still : (c d : Cluster) (k : Kept) (n : ℕ) (x : Node) → step c k.node k.step ≡ Ok d → slice_get c n ≡ Some x →
    Still c d n x (cond ((k.node == n) && sends k.step) 1 0)
step_still c d k n x h at = go (stepped c k.node k.step d h) (cases_eq k.node n)
  where
    go : Stepped c k.node k.step d → (k.node ≡ n) ⊎ (k.node ≢ n) → Still c d n x (cond ((k.node == n) && sends k.step) 1 0)
    go s (inl e) =
        let here : slice_get c n ≡ Some s.from = subst (λ m. slice_get c m ≡ Some s.from) e s.at in
        let same : x ≡ s.from = cc in
        let there : slice_get (set c n s.to) n ≡ Some s.to = get-set_same c n s.from s.to here in
        record {
          node = s.to;
          at = cc (s.gives);
          grown = subst (λ b. Grown x.outbox s.to.outbox (cond (b && sends k.step) 1 0)) (sym (eq-eqb k.node n e))
              (subst (λ (z : Node). Grown z.outbox s.to.outbox (cond (sends k.step) 1 0)) (sym same)
              (posts_grow (sends k.step) s.from.outbox s.to.outbox (posts s.from k.step (message_for c k.step) s.to s.taken)));
        }
    go s (inr e) = record {
      node = x;
      at = ap (λ (d : Cluster). slice_get d n) s.gives ∙ get-set_other c k.node n s.to (λ q. e (sym q)) ∙ at;
      grown =
          subst (λ b. Grown x.outbox x.outbox (cond (b && sends k.step) 1 0)) (sym (ne_eqb k.node n e))
          (record { more = []; is = sym (append-nil x.outbox); counted = refl });
    }

count_cons : (b : Bool) (k : Kept) (ks : List Kept) (n : ℕ) → cond b 1 0 + length ks ≡ length (cond b (k ∷ ks) ks)
count_cons true k ks n = omega arith
count_cons false k ks n = omega arith

pub run_still : (c d : Cluster) (ks : List Kept) (n : ℕ) (x : Node) → then_runs (Ok c) ks ≡ Ok d → slice_get c n ≡ Some x →
    Still c d n x (length (sent_by ks n))
run_still c d [] n x h at =
    record {
      node = x;
      at = subst (λ (d : Cluster). slice_get d n ≡ Some x) (cc) at;
      grown =
          record { more = []; is = sym (append-nil x.outbox); counted = refl };
    }
run_still c d (k ∷ ks) n x h at =
    let one = run_one c d k ks h in
    let first = step_still c one.0 k n x one.1 at in
    let rest = run_still one.0 d ks n first.node one.2 first.at in
    record {
      node = rest.node;
      at = rest.at;
      grown =
          subst (Grown x.outbox rest.node.outbox) (count_cons ((k.node == n) && sends k.step) k (sent_by ks n) n)
          (grow_more _ _ _ _ _ first.grown rest.grown);
    }

-- nodes that aren't there, and the opening

get-set_none : {A : Type 0} (xs : List A) (i j : ℕ) (y : A) → slice_get xs j ≡ None → slice_get (set xs i y) j ≡ None
get-set_none [] i j y h = refl
get-set_none (x ∷ xs) zero zero y h = absurd (cc)
get-set_none (x ∷ xs) zero (suc j) y h = h
get-set_none (x ∷ xs) (suc i) zero y h = absurd (cc)
get-set_none (x ∷ xs) (suc i) (suc j) y h = get-set_none xs i j y h

pub run_missing : (c d : Cluster) (ks : List Kept) (n : ℕ) → then_runs (Ok c) ks ≡ Ok d → slice_get c n ≡ None → slice_get d n ≡ None
run_missing c d [] n h none = subst (λ (d : Cluster). slice_get d n ≡ None) (cc) none
run_missing c d (k ∷ ks) n h none =
    let one = run_one c d k ks h in
    let s = stepped c k.node k.step one.0 one.1 in
    run_missing one.0 d ks n one.2 (ap (λ (d : Cluster). slice_get d n) s.gives ∙ get-set_none c k.node n s.to none)

opening_from_at : (l : NodeLimits) (first count i : ℕ) (x : Node) → slice_get (opening_from l first count) i ≡ Some x →
    x ≡ opening_node (first + i) l
opening_from_at l first zero i x h = absurd (cc)
opening_from_at l first (suc count) zero x h = cc (ap (λ n. opening_node n l) (add-zero first))
opening_from_at l first (suc count) (suc i) x h = opening_from_at l (first + 1) count i x h ∙ ap (λ n. opening_node n l) (omega arith)

pub opening_at : (l : NodeLimits) (count n : ℕ) (x : Node) → slice_get (opening_of l count) n ≡ Some x → x ≡ opening_node n l
opening_at l count n x h = opening_from_at l 0 count n x h ∙ ap (λ n. opening_node n l) (omega arith)

-- a node of a run was there from the opening
pub run_from_opening : (l : NodeLimits) (count : ℕ) (ks : List Kept) (c : Cluster) (n : ℕ) (x : Node) → runs l count ks ≡ Ok c →
    slice_get c n ≡ Some x → slice_get (opening_of l count) n ≡ Some (opening_node n l)
run_from_opening l count ks c n x h at = go (slice_get (opening_of l count) n) refl
  where
    go : (o : Option Node) → slice_get (opening_of l count) n ≡ o → slice_get (opening_of l count) n ≡ Some (opening_node n l)
    go None is = let none = run_missing (opening_of l count) c ks n h is in absurd (cc)
    go (Some y) is = is ∙ ap Some (opening_at l count n y is)

-- the outbox holds as many messages as the node made sending steps
pub outbox_counts : (l : NodeLimits) (count : ℕ) (ks : List Kept) (c : Cluster) (n : ℕ) (x : Node) → runs l count ks ≡ Ok c →
    slice_get c n ≡ Some x → length x.outbox ≡ length (sent_by ks n)
outbox_counts l count ks c n x h at =
    let still = run_still (opening_of l count) c ks n (opening_node n l) h (run_from_opening l count ks c n x h at) in
    let same : x ≡ still.node = cc (at, still.at) in
    ap (λ (y : Node). length y.outbox) same ∙ ap length still.grown.is ∙ still.grown.counted

-- who sent the message

sent_by_append : (first rest : List Kept) (k : Kept) → sends k.step ≡ true →
    sent_by (first ++ k ∷ rest) k.node ≡ sent_by first k.node ++ k ∷ sent_by rest k.node
sent_by_append first rest k h =
    filter-append (λ j. (j.node == k.node) && sends j.step) first (k ∷ rest)
    ∙ ap (λ (b : Bool). sent_by first k.node ++ cond b (k ∷ sent_by rest k.node) (sent_by rest k.node))
    (and_from _ _ (eq-eqb k.node k.node refl) h)

pub sender_there : (first rest : List Kept) (k : Kept) → sends k.step ≡ true →
    sender_of (first ++ k ∷ rest) k.node (suc (length (sent_by first k.node))) ≡ Some k.number
sender_there first rest k h =
    ap (λ (ks : List Kept). option_map (λ (k : Kept). k.number) (slice_get ks (length (sent_by first k.node))))
    (sent_by_append first rest k h)
    ∙ ap (option_map (λ (k : Kept). k.number)) (get-append_at (sent_by first k.node) (sent_by rest k.node) k)

-- what doesn't deliver k's message reads the same before and after k
reads_alike_at : (ks : List Kept) (k : Kept) (xs ys : List Message) (o : Option (ℕ × ℕ)) →
    (sends k.step ≡ true → sender_of ks k.node (suc (length xs)) ≡ Some k.number) → Posts (sends k.step) xs ys →
    is_number (source_at ks o) k.number ≡ false → ReadAlike k.node xs ys o
reads_alike_at ks k xs ys None from post other = tt
reads_alike_at ks k xs ys (Some (sender, p)) from post other = λ e. go (sends k.step) from post e (cases_eq p (suc (length xs)))
  where
    go : (b : Bool) → (b ≡ true → sender_of ks k.node (suc (length xs)) ≡ Some k.number) → Posts b xs ys → sender ≡ k.node →
        (p ≡ suc (length xs)) ⊎ (p ≢ suc (length xs)) → numbered xs p ≡ numbered ys p
    go false from post e c = ap (λ (l : List Message). numbered l p) (sym post)
    go true from post e (inl at) =
        let source : sender_of ks sender p ≡ Some k.number =
        subst₂ (λ a b. sender_of ks a b ≡ Some k.number) (sym e) (sym at) (from refl) in
        absurd (true≢false (sym (eq-eqb k.number k.number refl) ∙ sym (ap (λ o. is_number o k.number) source) ∙ other))
    go true from post e (inr off) = sym (numbered_push_other xs post.0 p off) ∙ ap (λ (l : List Message). numbered l p) (sym post.1)

pub reads_alike : (ks : List Kept) (k : Kept) (xs ys : List Message) (s : Operation) →
    (sends k.step ≡ true → sender_of ks k.node (suc (length xs)) ≡ Some k.number) → Posts (sends k.step) xs ys →
    is_number (source_of ks s) k.number ≡ false → ReadsAlike k.node xs ys s
reads_alike ks k xs ys s from post other = reads_alike_at ks k xs ys (delivers s) from post other

-- node n replaced at the start is replaced at the end, if no step between is its own or reads what differs

abbrev pub HasNode : ℕ → Node → Result Cluster Fault → Type 0
HasNode n x (Ok c) = slice_get c n ≡ Some x
HasNode n x (Err e) = Unit {0}

abbrev pub Apart : ℕ → Node → Node → List Kept → Type 0
Apart n x y [] = Unit {0}
Apart n x y (k ∷ ks) = (k.node ≢ n) × (ReadsAlike n y.outbox x.outbox k.step × Apart n x y ks)

pub step_has : (c : Cluster) (k : Kept) (n : ℕ) (x : Node) → k.node ≢ n → slice_get c n ≡ Some x → HasNode n x (step c k.node k.step)
step_has c k n x other at = go (step c k.node k.step) refl
  where
    go : (r : Result Cluster Fault) → step c k.node k.step ≡ r → HasNode n x r
    go (Ok d) is =
        let s = stepped c k.node k.step d is in ap (λ (d : Cluster). slice_get d n) s.gives
        ∙ get-set_other c k.node n s.to (λ e. other (sym e)) ∙ at
    go (Err e) is = tt

pub run-set : (r : Result Cluster Fault) (n : ℕ) (x y : Node) (ks : List Kept) → HasNode n x r → Apart n x y ks →
    then_runs (mapped (λ c. set c n y) r) ks ≡ mapped (λ c. set c n y) (then_runs r ks)
run-set (Err e) n x y ks has apart = refl
run-set (Ok c) n x y [] has apart = refl
run-set (Ok c) n x y (k ∷ ks) has apart =
    ap (λ r. then_runs r ks) (step-set c n k.node y k.step apart.0 (message-set c n x y k.step has apart.1.0))
    ∙ run-set (step c k.node k.step) n x y ks (step_has c k n x apart.0 has) apart.1.1

-- a message stays in its place

pub message_stays_at : (c d : Cluster) (ks : List Kept) (o : Option (ℕ × ℕ)) (m : Message) → then_runs (Ok c) ks ≡ Ok d →
    message_at c o ≡ Some m → message_at d o ≡ Some m
message_stays_at c d ks None m run h = absurd (cc)
message_stays_at c d ks (Some (sender, p)) m run h = go (slice_get c sender) refl
  where
    go : (o : Option Node) → slice_get c sender ≡ o → numbered (outbox_of (slice_get d sender)) p ≡ Some m
    go None is = let none : numbered (outbox_of None) p ≡ Some m = ap (λ o. numbered (outbox_of o) p) (sym is) ∙ h in absurd (empty p none)
      where
        empty : (p : ℕ) → numbered {X = Message} [] p ≡ Some m → ⊥
        empty zero e = cc
        empty (suc p) e = cc
    go (Some x) is =
        let still = run_still c d ks sender x run is in
        let first : numbered x.outbox p ≡ Some m = ap (λ o. numbered (outbox_of o) p) (sym is) ∙ h in
        ap (λ o. numbered (outbox_of o) p) still.at ∙ ap (λ (xs : List Message). numbered xs p) still.grown.is
        ∙ numbered_append x.outbox still.grown.more p m first

-- what each accepted step keeps of its node holds of each node after a run

abbrev Each : (ℕ → Node → Type 0) → Cluster → Type 0
Each P c = (n : ℕ) (x : Node) → slice_get c n ≡ Some x → P n x

module _ (P : ℕ → Node → Type 0)
    (keeps : (n : ℕ) (x : Node) (s : Operation) (m : Option Message) (y : Node) → take x s m ≡ Ok y → P n x → P n y) where
  step_each : (c d : Cluster) (k : Kept) → Each P c → step c k.node k.step ≡ Ok d → Each P d
  step_each c d k each is n x at = go (stepped c k.node k.step d is) (cases_eq k.node n)
    where
      go : Stepped c k.node k.step d → (k.node ≡ n) ⊎ (k.node ≢ n) → P n x
      go s (inl e) =
          let before : slice_get c n ≡ Some s.from = subst (λ m. slice_get c m ≡ Some s.from) e s.at in
          let there : slice_get (set c n s.to) n ≡ Some s.to = get-set_same c n s.from s.to before in
          let here : slice_get (set c n s.to) n ≡ Some x =
          subst (λ m. slice_get (set c m s.to) n ≡ Some x) e (ap (λ (d : Cluster). slice_get d n) (sym s.gives) ∙ at) in
          let same : s.to ≡ x = cc in
          subst (P n) same (keeps n s.from k.step (message_for c k.step) s.to s.taken (each n s.from before))
      go s (inr other) =
          each n x (sym (get-set_other c k.node n s.to (λ e. other (sym e))) ∙ ap (λ (d : Cluster). slice_get d n) (sym s.gives) ∙ at)

  run_each : (c d : Cluster) (ks : List Kept) → Each P c → then_runs (Ok c) ks ≡ Ok d → Each P d
  run_each c d [] each h = subst (Each P) (cc) each
  run_each c d (k ∷ ks) each h = let one = run_one c d k ks h in run_each one.0 d ks (step_each c one.0 k each one.1) one.2

pub numbered_runs : (l : NodeLimits) (count : ℕ) (ks : List Kept) (c : Cluster) → runs l count ks ≡ Ok c → IsNumbered c
numbered_runs l count ks c h =
    run_each (λ n (x : Node). x.replica.own ≡ n) (λ n x s m y taken own. owns x s m y taken ∙ own) (opening_of l count) c ks
    (λ n x at. ap (λ (x : Node). x.replica.own) (opening_at l count n x at)) h

-- each node has the limits that it was opened with
pub limited_runs : (l : NodeLimits) (count : ℕ) (ks : List Kept) (c : Cluster) → runs l count ks ≡ Ok c → (n : ℕ) (x : Node) →
    slice_get c n ≡ Some x → x.replica.limits ≡ l
limited_runs l count ks c h =
    run_each (λ n (x : Node). x.replica.limits ≡ l) (λ n x s m y taken same. keeps_limits x s m y taken ∙ same) (opening_of l count) c ks
    (λ n x at. ap (λ (x : Node). x.replica.limits) (opening_at l count n x at)) h
