-- A step brought before steps of other nodes, where its message is there.
use Rattle.std.proofs.Common.{◌≡◌, ◌≢◌, ℕ, Bool, true, false, List, [], ◌∷◌, ◌++◌, set, slice_get, Option, Some, None, Ok, sym, ap, ◌∙◌}
use Rattle.payload_core.specs.Messages.{Message, numbered}
use Rattle.node_core.specs.Operations.{Operation, delivers, sends}
use Rattle.node_core.specs.Nodes.{Node}
use Rattle.journal_core.specs.Journals.{Kept}
use Rattle.journal_core.proofs.Numbered.{numbered_append}
use Rattle.bench_core.specs.Clusters.{Cluster, message_at, message_for, outbox_of, step}
use Rattle.bench_core.specs.Runs.{then_runs}
use Rattle.bench_core.proofs.Clusters.{ReadAlike, ReadsAlike, mapped, mapped_ok, set-set_other, message-set, step-set, stepped, Stepped}
use Rattle.bench_core.proofs.Taken.{Posts, WasRead, posts, was_read}
use Rattle.bench_core.proofs.Runs.{run_one, message_stays_at}
use Rattle.order_core.proofs.Lists.{NoneOf}

-- what was read of a node is there after the node sent more
pub still_there : (b : Bool) (xs ys : List Message) (p : ℕ) (m : Message) → Posts b xs ys → numbered xs p ≡ Some m → numbered ys p ≡ numbered xs p
still_there true xs ys p m h at = ap (λ (l : List Message). numbered l p) h.1 ∙ numbered_append xs (h.0 ∷ []) p m at ∙ sym at
still_there false xs ys p m h at = ap (λ (l : List Message). numbered l p) h

pub reads_alike_after : (c : Cluster) (n : ℕ) (x y : Node) (o : Option (ℕ × ℕ)) (b : Bool) → slice_get c n ≡ Some x → Posts b x.outbox y.outbox →
    WasRead o (message_at c o) → ReadAlike n y.outbox x.outbox o
reads_alike_after c n x y None b at h read = tt
reads_alike_after c n x y (Some m) b at h read = λ here.
    still_there b x.outbox y.outbox m.1 read.0 h (ap (λ o. numbered (outbox_of o) m.1) (sym (ap (slice_get c) here ∙ at)) ∙ read.1)

-- a step of another node, and then a step whose message was there before
module _ (c d e : Cluster) (n m : ℕ) (s t : Operation) (other : m ≢ n) (there : WasRead (delivers s) (message_for c s))
    (first : step c m t ≡ Ok d) (second : step d n s ≡ Ok e) where
  at : Stepped c m t d
  at = stepped c m t d first

  read : ReadsAlike m at.to.outbox at.from.outbox s
  read = reads_alike_after c m at.from at.to (delivers s) (sends t) at.at (posts at.from t (message_for c t) at.to at.taken) there

  late : step (set c m at.to) n s ≡ mapped (λ e. set e m at.to) (step c n s)
  late = step-set c m n at.to s (λ e. other (sym e)) (message-set c m at.from at.to s at.at read)

  early : (b : Cluster) × (step c n s ≡ Ok b) × (set b m at.to ≡ e)
  early = mapped_ok (λ e. set e m at.to) (step c n s) e (sym late ∙ ap (λ x. step x n s) (sym at.gives) ∙ second)

  by : Stepped c n s early.0
  by = stepped c n s early.0 early.1

  read_then : ReadsAlike n by.to.outbox by.from.outbox t
  read_then = reads_alike_after c n by.from by.to (delivers t) (sends s) by.at (posts by.from s (message_for c s) by.to by.taken)
      (was_read at.from t (message_for c t) at.to at.taken)

  then_other : step (set c n by.to) m t ≡ mapped (λ e. set e n by.to) (step c m t)
  then_other = step-set c n m by.to t other (message-set c n by.from by.to t by.at read_then)

  ends : set d n by.to ≡ e
  ends =
      ap (λ (x : Cluster). set x n by.to) at.gives
      ∙ set-set_other c m n at.to by.to (λ e. other (sym e))
      ∙ ap (λ (x : Cluster). set x m at.to) (sym by.gives)
      ∙ early.2

  pub brought_first : (b : Cluster) × (step c n s ≡ Ok b) × (step b m t ≡ Ok e)
  brought_first = (early.0, early.1, ap (λ x. step x m t) by.gives ∙ then_other ∙ ap (mapped (λ e. set e n by.to)) first ∙ ap Ok ends)

read_later : (c d : Cluster) (k : Kept) (o : Option (ℕ × ℕ)) → step c k.node k.step ≡ Ok d → WasRead o (message_at c o) → WasRead o (message_at d o)
read_later c d k None h there = tt
read_later c d k (Some m) h there = (there.0, message_stays_at c d (k ∷ []) (Some m) there.0 (ap (λ r. then_runs r []) h) there.1)

-- and before steps of other nodes
pub front : (c d : Cluster) (before after : List Kept) (k : Kept) → NoneOf k.node before → WasRead (delivers k.step) (message_for c k.step) →
    then_runs (Ok c) (before ++ k ∷ after) ≡ Ok d → then_runs (Ok c) (k ∷ (before ++ after)) ≡ Ok d
front c d [] after k none there run = run
front c d (x ∷ before) after k none there run =
    let one = run_one c d x (before ++ k ∷ after) run in
    let later = front one.0 d before after k none.1 (read_later c one.0 x (delivers k.step) one.1 there) one.2 in
    let second = run_one one.0 d k (before ++ after) later in
    let swapped = brought_first c one.0 second.0 k.node x.node k.step x.step none.0 there one.1 second.1 in
    ap (λ r. then_runs r (x ∷ (before ++ after))) swapped.1
    ∙ ap (λ r. then_runs r (before ++ after)) swapped.2
    ∙ second.2
