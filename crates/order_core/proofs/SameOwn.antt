-- Runs in which each node does the same, in its order.
use Rattle.std.proofs.Common.{◌≡◌, ℕ, zero, suc, true, List, [], ◌∷◌, ◌++◌, slice_get, Option, Some, None, is_some, Ok, refl, sym, ap, ◌∙◌, subst, arith, true≢false}
use Rattle.payload_core.specs.Messages.{Message, numbered}
use Rattle.replica_core.specs.declared.node_limits.NodeLimits.{NodeLimits}
use Rattle.node_core.specs.Operations.{delivers}
use Rattle.node_core.specs.Nodes.{Node}
use Rattle.journal_core.specs.Journals.{Kept, sent_by}
use Rattle.bench_core.specs.Clusters.{Cluster, message_at, message_for, opening_of, outbox_of, step}
use Rattle.bench_core.specs.Runs.{then_runs, runs}
use Rattle.bench_core.proofs.Clusters.{stepped}
use Rattle.bench_core.proofs.Taken.{WasRead, was_read}
use Rattle.bench_core.proofs.Runs.{run_one, run_missing, runs_append, outbox_counts}
use Rattle.order_core.specs.Orders.{SameOwn, is_there, AreBehind}
use Rattle.order_core.specs.Laws.{BehindLaw, OrderRunsLaw, SameOwnLaw}
use Rattle.order_core.proofs.Lists.{NoneOf, first_around, left_same, nothing_left, is_some_longer}
use Rattle.order_core.proofs.Front.{front}

nothing : (p : ℕ) (m : Message) → numbered {X = Message} [] p ≡ Some m → ⊥
nothing zero m e = cc
nothing (suc p) m e = cc

-- the node that a message is read of
sender_at : (c : Cluster) (m : ℕ × ℕ) (message : Message) → message_at c (Some m) ≡ Some message → (x : Node) × (slice_get c m.0 ≡ Some x)
sender_at c m message h = go (slice_get c m.0) refl
  where
    go : (o : Option Node) → slice_get c m.0 ≡ o → (x : Node) × (slice_get c m.0 ≡ Some x)
    go (Some x) is = (x, is)
    go None is = absurd (nothing m.1 message (ap (λ o. numbered (outbox_of o) m.1) (sym is) ∙ h))

some_is : {X : Type 0} (o : Option X) (x : X) → o ≡ Some x → is_some o ≡ true
some_is o x h = ap is_some h

is_some_at : {X : Type 0} (o : Option X) → is_some o ≡ true → (x : X) × (o ≡ Some x)
is_some_at None h = absurd (true≢false (sym h))
is_some_at (Some x) h = (x, refl)

module _ (l : NodeLimits) (count : ℕ) where
  -- what is read was sent
  read_there : (first : List Kept) (c : Cluster) (o : Option (ℕ × ℕ)) → runs l count first ≡ Ok c → WasRead o (message_at c o) → is_there first o ≡ true
  read_there first c None ran read = refl
  read_there first c (Some m) ran read =
      let sender = sender_at c m read.0 read.1 in
      let long = outbox_counts l count first c m.0 sender.0 ran sender.1 in
      is_some_longer sender.0.outbox (sent_by first m.0) m.1 (omega (arith, long))
      (some_is (numbered sender.0.outbox m.1) read.0 (ap (λ o. numbered (outbox_of o) m.1) (sym sender.1) ∙ read.1))

  -- and what was sent can be read, where its sender is a node
  there_read : (first : List Kept) (c : Cluster) (m : ℕ × ℕ) (x : Node) → runs l count first ≡ Ok c → slice_get c m.0 ≡ Some x → is_there first (Some m) ≡ true →
      (message : Message) × (message_at c (Some m) ≡ Some message)
  there_read first c m x ran at there =
      let long = outbox_counts l count first c m.0 x ran at in
      let found = is_some_at (numbered x.outbox m.1) (is_some_longer (sent_by first m.0) x.outbox m.1 (omega (arith, long)) there) in
      (found.0, ap (λ o. numbered (outbox_of o) m.1) at ∙ found.1)

  ran_on : (first : List Kept) (k : Kept) (c b : Cluster) → runs l count first ≡ Ok c → step c k.node k.step ≡ Ok b → runs l count (first ++ k ∷ []) ≡ Ok b
  ran_on first k c b ran one =
      runs_append (Ok (opening_of l count)) first (k ∷ []) ∙ ap (λ r. then_runs r (k ∷ [])) ran ∙ ap (λ r. then_runs r []) one

  -- a run is behind its sends
  behind_from : (first ks : List Kept) (c d : Cluster) → runs l count first ≡ Ok c → then_runs (Ok c) ks ≡ Ok d → AreBehind first ks
  behind_from first [] c d ran run = tt
  behind_from first (k ∷ ks) c d ran run =
      let one = run_one c d k ks run in
      let s = stepped c k.node k.step one.0 one.1 in (
        read_there first c (delivers k.step) ran (was_read s.from k.step (message_for c k.step) s.to s.taken),
        behind_from (first ++ k ∷ []) ks one.0 d (ran_on first k c one.0 ran one.1) one.2,
      )

  -- the sender of what is delivered later is a node
  sender_later : (before after : List Kept) (k : Kept) (c d : Cluster) → then_runs (Ok c) (before ++ k ∷ after) ≡ Ok d → (m : ℕ × ℕ) → delivers k.step ≡ Some m →
      (x : Node) × (slice_get c m.0 ≡ Some x)
  sender_later [] after k c d run m is =
      let one = run_one c d k after run in
      let s = stepped c k.node k.step one.0 one.1 in
      let there : WasRead (Some m) (message_at c (Some m)) =
      subst (λ o. WasRead o (message_at c o)) is (was_read s.from k.step (message_for c k.step) s.to s.taken) in
      sender_at c m there.0 there.1
  sender_later (x ∷ before) after k c d run m is =
      let one = run_one c d x (before ++ k ∷ after) run in
      go one.0 one.1 (sender_later before after k one.0 d one.2 m is) (slice_get c m.0) refl
    where
      go : (b : Cluster) → step c x.node x.step ≡ Ok b → (y : Node) × (slice_get b m.0 ≡ Some y) → (o : Option Node) → slice_get c m.0 ≡ o →
          (y : Node) × (slice_get c m.0 ≡ Some y)
      go b one there (Some y) at = (y, at)
      go b one there None at =
          let none : slice_get b m.0 ≡ None = run_missing c b (x ∷ []) m.0 (ap (λ r. then_runs r []) one) at in
          absurd (let e : Some there.0 ≡ None = sym there.1 ∙ none in cc)

  -- a step that comes later in a run, and whose message was sent, has it
  has_message : (first before after : List Kept) (k : Kept) (c d : Cluster) → runs l count first ≡ Ok c → then_runs (Ok c) (before ++ k ∷ after) ≡ Ok d →
      is_there first (delivers k.step) ≡ true → WasRead (delivers k.step) (message_for c k.step)
  has_message first before after k c d ran run there = go (delivers k.step) there (sender_later before after k c d run)
    where
      go : (o : Option (ℕ × ℕ)) → is_there first o ≡ true → ((m : ℕ × ℕ) → o ≡ Some m → (x : Node) × (slice_get c m.0 ≡ Some x)) → WasRead o (message_at c o)
      go None there sender = tt
      go (Some m) there sender = let x = sender m refl in there_read first c m x.0 ran x.1 there

  -- from the same beginning
  order_from : (first ks js : List Kept) (c d : Cluster) → runs l count first ≡ Ok c → SameOwn ks js → AreBehind first js → then_runs (Ok c) ks ≡ Ok d →
      then_runs (Ok c) js ≡ Ok d
  order_from first ks [] c d ran same behind run = ap (then_runs (Ok c)) (sym (nothing_left ks same)) ∙ run
  order_from first ks (j ∷ js) c d ran same behind run =
      let a = first_around ks js j same in
      let run_at : then_runs (Ok c) (a.before ++ a.at ∷ a.after) ≡ Ok d = ap (then_runs (Ok c)) (sym a.is) ∙ run in
      let there = has_message first a.before a.after a.at c d ran run_at (ap (λ s. is_there first (delivers s)) a.step ∙ behind.0) in
      let none = subst (λ n. NoneOf n a.before) (sym a.node) a.none in
      let one = run_one c d a.at (a.before ++ a.after) (front c d a.before a.after a.at none there run_at) in
      let by_j : step c j.node j.step ≡ Ok one.0 = ap (λ n. step c n j.step) (sym a.node) ∙ ap (step c a.at.node) (sym a.step) ∙ one.1 in
      ap (λ r. then_runs r js) by_j
      ∙ order_from (first ++ j ∷ []) (a.before ++ a.after) js one.0 d (ran_on first j c one.0 ran by_j) (left_same ks js j a same) behind.1 one.2

pub behind_holds : BehindLaw
behind_holds l count ks c run = behind_from l count [] ks (opening_of l count) c refl run

pub order_runs_holds : OrderRunsLaw
order_runs_holds l count ks js c order run = order_from l count [] ks js (opening_of l count) c refl order.own order.behind run

pub same_own_holds : SameOwnLaw
same_own_holds l count ks js c d same one other =
    let there : runs l count js ≡ Ok c = order_runs_holds l count ks js c (record { own = same; behind = behind_holds l count js d other }) one in
    let e : Ok c ≡ Ok d = sym there ∙ other in cc
