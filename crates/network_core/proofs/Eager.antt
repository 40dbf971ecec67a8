-- An own step before all that needs not come first.
use Rattle.std.proofs.Common.{◌≡◌, ◌≢◌, inl, inr, ℕ, ◌==◌, true, List, [], ◌∷◌, ◌++◌, set, slice_get, Some, None, Ok, Err, refl, sym, ap, ◌∙◌, subst, append_assoc, append-nil}
use Rattle.payload_core.specs.Messages.{Message, numbered}
use Rattle.replica_core.specs.declared.node_limits.NodeLimits.{NodeLimits}
use Rattle.replica_core.specs.Replicas.{is_known}
use Rattle.node_core.specs.Operations.{Operation, Deliver, delivers, sends}
use Rattle.node_core.specs.Nodes.{Node, take}
use Rattle.journal_core.specs.Journals.{Kept}
use Rattle.bench_core.specs.declared.fault.Fault.TheVariants.{EntriesFull}
use Rattle.bench_core.specs.Benches.{IsNumbered}
use Rattle.bench_core.specs.Clusters.{Cluster, message_for, opening_of, step}
use Rattle.bench_core.specs.Runs.{runs}
use Rattle.bench_core.proofs.Clusters.{ReadsAlike, get-set_same, get-set_other, mapped, mapped_ok, set-set_other, message-set, step-set, stepped, Stepped}
use Rattle.bench_core.proofs.Taken.{deliver_ok, posts, was_read}
use Rattle.bench_core.proofs.Runs.{run_one, runs_split}
use Rattle.network_core.specs.EasySteps.{step_of, MayBePassed, IsEasy, IsAlwaysEasy, IsKnownUp, EagerLaw}
use Rattle.network_core.proofs.Beside.{after, own_beside, up_beside, Beside}
use Rattle.order_core.proofs.Front.{reads_alike_after}
use Rattle.network_core.proofs.Passed.{OtherOrder, GivesSame, reads_nothing, with_own_first, other_way}

-- a step of another node first, and then an own step
module _ (c d e : Cluster) (m n : ℕ) (t s : Operation) (silent : (c : Cluster) → message_for c s ≡ None) (other : m ≢ n) (first : step c m t ≡ Ok d) (second : step d n s ≡ Ok e) where
  at : Stepped c m t d
  at = stepped c m t d first

  late : step (set c m at.to) n s ≡ mapped (λ e. set e m at.to) (step c n s)
  late = step-set c m n at.to s (λ e. other (sym e)) (silent (set c m at.to) ∙ sym (silent c))

  early : (b : Cluster) × (step c n s ≡ Ok b) × (set b m at.to ≡ e)
  early = mapped_ok (λ e. set e m at.to) (step c n s) e (sym late ∙ ap (λ x. step x n s) (sym at.gives) ∙ second)

  own_at : Stepped c n s early.0
  own_at = stepped c n s early.0 early.1

  read : ReadsAlike n own_at.to.outbox own_at.from.outbox t
  read = reads_alike_after c n own_at.from own_at.to (delivers t) (sends s) own_at.at (posts own_at.from s (message_for c s) own_at.to own_at.taken)
      (was_read at.from t (message_for c t) at.to at.taken)

  then_other : step (set c n own_at.to) m t ≡ mapped (λ e. set e n own_at.to) (step c m t)
  then_other = step-set c n m own_at.to t other (message-set c n own_at.from own_at.to t own_at.at read)

  ends : set d n own_at.to ≡ e
  ends =
      ap (λ (x : Cluster). set x n own_at.to) at.gives
      ∙ set-set_other c m n at.to own_at.to (λ e. other (sym e))
      ∙ ap (λ (x : Cluster). set x m at.to) (sym own_at.gives)
      ∙ early.2

  own_before : OtherOrder c n s m t e
  own_before = GivesSame early.0 early.1
      (ap (λ x. step x m t) own_at.gives ∙ then_other ∙ ap (mapped (λ e. set e n own_at.to)) first ∙ ap Ok ends)

-- an easy step before one that may be first
before_one : (n : ℕ) (s : Operation) (k : Kept) → ((c : Cluster) → message_for c s ≡ None) → MayBePassed n k → (old mid end : Cluster) →
    ((m : Message) (x : Node) → slice_get old n ≡ Some x → Beside m (take x s None) (take (after m x) s None)) → IsNumbered old →
    step old k.node k.step ≡ Ok mid → step mid n s ≡ Ok end → OtherOrder old n s k.node k.step end
before_one n s k silent (inl other) old mid end alike numbered a b = own_before old mid end k.node n k.step s silent other a b
before_one n s k silent (inr at) old mid end alike numbered a b =
    let first : step old n (Deliver at.1.0 at.1.1.0) ≡ Ok mid = (λ i. step old (sym at.0 i) (sym at.1.1.1 i)) ∙ a in
    subst (λ (o : ℕ × Operation). OtherOrder old n s o.0 o.1 end) (λ i. (sym at.0 i, sym at.1.1.1 i))
    (with_own_first old mid end n at.1.0 at.1.1.0 s silent alike numbered first b)

-- a run with one step more
record Parts (l : NodeLimits) (count : ℕ) (first : List Kept) (k : Kept) (c : Cluster) : Type 0 where
  old : Cluster
  ran : runs l count first ≡ Ok old
  one : step old k.node k.step ≡ Ok c

parts : (l : NodeLimits) (count : ℕ) (first : List Kept) (k : Kept) (c : Cluster) → runs l count (first ++ k ∷ []) ≡ Ok c → Parts l count first k c
parts l count first k c h =
    let split = runs_split (Ok (opening_of l count)) first (k ∷ []) c h in
    let last = run_one split.0 c k [] split.2 in
    record { old = split.0; ran = split.1; one = last.1 ∙ last.2 }

-- what a delivery leaves of a node
known_after : (old c : Cluster) (n sender p : ℕ) (x : Node) (name : ℕ) → step old n (Deliver sender p) ≡ Ok c → slice_get c n ≡ Some x →
    ((y : Node) → slice_get old n ≡ Some y → is_known y.replica name ≡ true) → is_known x.replica name ≡ true
known_after old c n sender p x name h at known =
    let s = stepped old n (Deliver sender p) c h in
    let d = deliver_ok (sender == s.from.replica.own) s.from (message_for old (Deliver sender p)) s.to s.taken in
    let there : slice_get (set old n s.to) n ≡ Some s.to = get-set_same old n s.from s.to s.at in
    let same : x ≡ s.to = let one : Some x ≡ Some s.to = sym at ∙ ap (λ (c : Cluster). slice_get c n) s.gives ∙ there in cc in
    ap (λ (y : Node). is_known y.replica name) (same ∙ d.2) ∙ known s.from s.at

module _ (l : NodeLimits) (count n : ℕ) (s : Operation) where
  easy_silent : (first : List Kept) → IsEasy l count first n s → (c : Cluster) → message_for c s ≡ None
  easy_silent first (IsAlwaysEasy own) c = reads_nothing c s own
  easy_silent first (IsKnownUp name is known) c = ap (message_for c) is

  easy_alike : (first : List Kept) → IsEasy l count first n s → (c : Cluster) → runs l count first ≡ Ok c → (m : Message) (x : Node) → slice_get c n ≡ Some x →
      Beside m (take x s None) (take (after m x) s None)
  easy_alike first (IsAlwaysEasy own) c ran m x here = own_beside m x s own
  easy_alike first (IsKnownUp name is known) c ran m x here =
      subst (λ (o : Operation). Beside m (take x o None) (take (after m x) o None)) (sym is) (up_beside m x name (known c x ran here))

  -- it is easy after one that may be first, too
  easy_on : (first : List Kept) (k : Kept) → IsEasy l count first n s → MayBePassed n k → IsEasy l count (first ++ k ∷ []) n s
  easy_on first k (IsAlwaysEasy own) may = IsAlwaysEasy own
  easy_on first k (IsKnownUp name is known) may = IsKnownUp name is (λ c x ran at. go c x at (parts l count first k c ran) may)
    where
      go : (c : Cluster) (x : Node) → slice_get c n ≡ Some x → Parts l count first k c → MayBePassed n k → is_known x.replica name ≡ true
      go c x at p (inl other) =
          let st = stepped p.old k.node k.step c p.one in
          known p.old x p.ran (sym (get-set_other p.old k.node n st.to (λ e. other (sym e))) ∙ ap (λ (c : Cluster). slice_get c n) (sym st.gives) ∙ at)
      go c x at p (inr here) =
          known_after p.old c n here.1.0 here.1.1.0 x name ((λ i. step p.old (sym here.0 i) (sym here.1.1.1 i)) ∙ p.one) at (λ y there. known p.old y p.ran there)

pub eager_holds : EagerLaw
eager_holds l count number n first [] rest s easy may room c run = run
eager_holds l count number n first (k ∷ before) rest s easy may room c run =
    let own_step = step_of number n s in
    let later : runs l count ((first ++ k ∷ []) ++ own_step ∷ (before ++ rest)) ≡ Ok c =
    eager_holds l count number n (first ++ k ∷ []) before rest s (easy_on l count n s first k easy may.0) may.1
    (λ xs ys j is. subst (λ (f : List Kept). runs l count (f ++ own_step ∷ j ∷ []) ≢ Err EntriesFull) (sym (append_assoc first (k ∷ []) xs))
    (room (k ∷ xs) ys j (ap (λ (l : List Kept). k ∷ l) is))) c
    (ap (runs l count) (append_assoc first (k ∷ []) (before ++ own_step ∷ rest)) ∙ run) in
    other_way l count first (before ++ rest) k own_step c
    (λ old mid end ran. before_one n s k (easy_silent l count n s first easy) may.0 old mid end (easy_alike l count n s first easy old ran))
    (subst (λ (f : List Kept). runs l count (f ++ own_step ∷ k ∷ []) ≢ Err EntriesFull) (append-nil first) (room [] before k refl))
    (ap (runs l count) (sym (append_assoc first (k ∷ []) (own_step ∷ (before ++ rest)))) ∙ later)
