-- Deliveries at one node, repeated and exchanged.
use Rattle.std.proofs.Common.{◌≡◌, ◌≢◌, ◌⊎◌, inl, inr, ℕ, ◌==◌, nat_lt, Bool, true, false, if◌then◌else◌, List, [], ◌∷◌, ◌++◌, length, set, slice_get}
use Rattle.std.proofs.Common.{Option, Some, None, Ok, Err, refl, sym, ap, ◌∙◌, length-set}
use Rattle.std.specs.List.{list_all}
use Rattle.std.specs.FinMap as fin
use Rattle.dots_core.specs.Names.{Names}
use Rattle.payload_core.specs.Messages.{Message}
use Rattle.replica_core.specs.declared.node_limits.NodeLimits.{NodeLimits}
use Rattle.replica_core.specs.declared.replica_fault.ReplicaFault.{ReplicaFault}
use Rattle.replica_core.specs.declared.replica_fault.ReplicaFault.TheVariants as replica_faults
use Rattle.replica_core.specs.Replicas.{Replica}
use Rattle.replica_core.specs.Deliveries.{merged}
use Rattle.replica_core.specs.Refusals.{first_of, merge_refusal}
use Rattle.replica_core.proofs.Deliveries.{again_holds, order_holds}
use Rattle.node_core.specs.declared.step_fault.StepFault.TheVariants.{OwnMessage}
use Rattle.node_core.specs.Operations.{Deliver, delivers}
use Rattle.node_core.specs.Nodes.{Node, with_replica, unless, deliver, deliver_unasked, take}
use Rattle.bench_core.specs.declared.fault.Fault.TheVariants.{EntriesFull}
use Rattle.bench_core.specs.Clusters.{Cluster, of_node, with_node, step, message_for, opening_of}
use Rattle.journal_core.specs.Journals.{Kept}
use Rattle.bench_core.specs.Runs.{then_runs, runs}
use Rattle.bench_core.specs.Laws.{delivery, ExchangeLaw, RepeatLaw}
use Rattle.bench_core.proofs.Clusters.{get-set_same, set-set_same, message-set, stepped, step_takes}
use Rattle.bench_core.proofs.OneEntry.{Fine, read_from, fine_run}
use Rattle.bench_core.proofs.Runs.{runs_append, runs_split, run_one}

-- the parts of an accepted delivery
pub record Delivered (c : Cluster) (n sender p : ℕ) (d : Cluster) : Type 0 where
  pub from : Node
  pub message : Message
  pub at : slice_get c n ≡ Some from
  pub named : list_all (λ k. nat_lt k (length c)) (sender ∷ []) ≡ true
  pub there : message_for c (Deliver sender p) ≡ Some message
  pub no_request : message.asked ≡ None
  pub other : (sender == from.replica.own) ≡ false
  pub fits : merge_refusal from.replica message ≡ None
  pub gives : d ≡ set c n (with_replica from (merged message from.replica))

-- the parts of an accepted step of its node
record Accepted (own : Bool) (x : Node) (o : Option Message) (y : Node) : Type 0 where
  message : Message
  there : o ≡ Some message
  no_request : message.asked ≡ None
  other : own ≡ false
  fits : merge_refusal x.replica message ≡ None
  gives : y ≡ with_replica x (merged message x.replica)

accepted : (own : Bool) (x : Node) (o : Option Message) (y : Node) → (if own then Err OwnMessage else deliver x o) ≡ Ok y → Accepted own x o y
accepted true x o y h = absurd (cc)
accepted false x None y h = absurd (cc)
accepted false x (Some m) y h = asking m.asked refl h
  where
    go : m.asked ≡ None → (cause : Option ReplicaFault) → merge_refusal x.replica m ≡ cause →
        unless cause (with_replica x (merged m x.replica)) ≡ Ok y → Accepted false x (Some m) y
    go asks None is h = record { message = m; there = refl; no_request = asks; other = refl; fits = is; gives = cc }
    go asks (Some fault) is h = absurd (cc)

    asking : (asked : Option Names) → m.asked ≡ asked → deliver_unasked asked x m ≡ Ok y → Accepted false x (Some m) y
    asking None asks h = go asks (merge_refusal x.replica m) refl h
    asking (Some names) asks h = absurd (cc)

pub delivered : (c : Cluster) (n sender p : ℕ) (d : Cluster) → step c n (Deliver sender p) ≡ Ok d → Delivered c n sender p d
delivered c n sender p d h =
    let s = stepped c n (Deliver sender p) d h in
    let a = accepted (sender == s.from.replica.own) s.from (message_for c (Deliver sender p)) s.to s.taken in
    record {
      from = s.from;
      message = a.message;
      at = s.at;
      named = s.named;
      there = a.there;
      no_request = a.no_request;
      other = a.other;
      fits = a.fits;
      gives = s.gives ∙ ap (set c n) a.gives;
    }

-- what a delivery of a message that is there gives
pub deliver_gives : (c : Cluster) (n sender p : ℕ) (x : Node) (m : Message) (cause : Option ReplicaFault) → slice_get c n ≡ Some x →
    list_all (λ k. nat_lt k (length c)) (sender ∷ []) ≡ true → message_for c (Deliver sender p) ≡ Some m →
    m.asked ≡ None → (sender == x.replica.own) ≡ false → merge_refusal x.replica m ≡ cause →
    step c n (Deliver sender p) ≡ with_node c n (of_node (unless cause (with_replica x (merged m x.replica))))
deliver_gives c n sender p x m cause at named there asks other is =
    step_takes c n (Deliver sender p) x (unless cause (with_replica x (merged m x.replica))) at named
    (ap (take x (Deliver sender p)) there ∙ ap (λ t. if t then Err OwnMessage else deliver x (Some m)) other
    ∙ ap (λ asked. deliver_unasked asked x m) asks
    ∙ ap (λ o. unless o (with_replica x (merged m x.replica))) is)

-- where a replica alone changed, the messages are those before
same_message : (c : Cluster) (n : ℕ) (x : Node) (r : Replica) (sender p : ℕ) → slice_get c n ≡ Some x →
    message_for (set c n (with_replica x r)) (Deliver sender p) ≡ message_for c (Deliver sender p)
same_message c n x r sender p at = message-set c n x (with_replica x r) (Deliver sender p) at (λ e. refl)

pub still_named : (c : Cluster) (n : ℕ) (x : Node) (ks : List ℕ) → list_all (λ k. nat_lt k (length c)) ks ≡ true →
    list_all (λ k. nat_lt k (length (set c n x))) ks ≡ true
still_named c n x ks h = ap (λ m. list_all (λ k. nat_lt k m) ks) (length-set c n x) ∙ h

pub repeat_holds : RepeatLaw
repeat_holds c d n sender p h =
    let t = delivered c n sender p d h in
    let r = t.from.replica in
    let y = with_replica t.from (merged t.message r) in
    let again : step (set c n y) n (Deliver sender p) ≡ Ok (set (set c n y) n (with_replica y (merged t.message (merged t.message r)))) =
    deliver_gives (set c n y) n sender p y t.message None (get-set_same c n t.from y t.at) (still_named c n y (sender ∷ []) t.named)
    (same_message c n t.from (merged t.message r) sender p t.at ∙ t.there) t.no_request t.other (again_holds.accepted t.message r t.fits) in
    ap (λ (c : Cluster). step c n (Deliver sender p)) t.gives
    ∙ again
    ∙ ap (λ (r : Replica). Ok (set (set c n y) n (with_replica y r))) (again_holds.same t.message r)
    ∙ ap Ok (set-set_same c n y y)
    ∙ ap Ok (sym t.gives)

-- two deliveries in the other order

-- why a replica of these limits can't be so
abbrev pub refusal_of : NodeLimits → Replica → Option ReplicaFault
refusal_of l s = first_of ((nat_lt l.entries (fin.len s.store.entries), replica_faults.EntriesFull) ∷ [])

pub room_cases : (l : NodeLimits) (s : Replica) → (refusal_of l s ≡ None) ⊎ (refusal_of l s ≡ Some replica_faults.EntriesFull)
room_cases l s = go (nat_lt l.entries (fin.len s.store.entries))
  where
    go : (t : Bool) → (first_of ((t, replica_faults.EntriesFull) ∷ []) ≡ None) ⊎
        (first_of ((t, replica_faults.EntriesFull) ∷ []) ≡ Some replica_faults.EntriesFull)
    go true = inr refl
    go false = inl refl

-- the other order is refused for its entries at once, or gives the same
data OtherOrder (c : Cluster) (n sender p other q : ℕ) (e : Cluster) : Type 0 where
  IsFull : step c n (Deliver other q) ≡ Err EntriesFull → OtherOrder c n sender p other q e
  GivesSame : (b : Cluster) → step c n (Deliver other q) ≡ Ok b → step b n (Deliver sender p) ≡ Ok e → OtherOrder c n sender p other q e

module _ (c d e : Cluster) (n sender p other q : ℕ) (first : step c n (Deliver sender p) ≡ Ok d) (second : step d n (Deliver other q) ≡ Ok e)
    (commute : (x : Node) (m k : Message) → slice_get c n ≡ Some x → message_for c (Deliver sender p) ≡ Some m →
    message_for c (Deliver other q) ≡ Some k → merged k (merged m x.replica) ≡ merged m (merged k x.replica)) where
  t : Delivered c n sender p d
  t = delivered c n sender p d first

  abbrev x : Node
  x = t.from

  abbrev r : Replica
  r = x.replica

  abbrev m : Message
  m = t.message

  abbrev y : Node
  y = with_replica x (merged m r)

  u : Delivered (set c n y) n other q e
  u = delivered (set c n y) n other q e (ap (λ (d : Cluster). step d n (Deliver other q)) (sym t.gives) ∙ second)

  abbrev k : Message
  k = u.message

  here : u.from ≡ y
  here = let s : slice_get (set c n y) n ≡ Some y = get-set_same c n x y t.at in cc (u.at, s)

  there : message_for c (Deliver other q) ≡ Some k
  there = sym (same_message c n x (merged m r) other q t.at) ∙ u.there

  named : list_all (λ k. nat_lt k (length c)) (other ∷ []) ≡ true
  named = ap (λ m. list_all (λ k. nat_lt k m) (other ∷ [])) (sym (length-set c n y)) ∙ u.named

  not_own : (other == r.own) ≡ false
  not_own = ap (λ (z : Node). other == z.replica.own) (sym here) ∙ u.other

  same : merged k (merged m r) ≡ merged m (merged k r)
  same = commute x m k t.at t.there there

  fits : merge_refusal (merged k r) m ≡ None
  fits = ap (refusal_of r.limits) (sym same) ∙ ap (λ (z : Node). merge_refusal z.replica k) (sym here) ∙ u.fits

  abbrev z : Node
  z = with_replica x (merged k r)

  ends : set (set c n z) n (with_replica z (merged m (merged k r))) ≡ e
  ends =
      set-set_same c n z (with_replica x (merged m (merged k r)))
      ∙ ap (λ (r : Replica). set c n (with_replica x r)) (sym same)
      ∙ sym (set-set_same c n y (with_replica x (merged k (merged m r))))
      ∙ ap (λ (w : Node). set (set c n y) n (with_replica w (merged k w.replica))) (sym here)
      ∙ sym u.gives

  in_other_order : OtherOrder c n sender p other q e
  in_other_order = go (room_cases r.limits (merged k r))
    where
      go : (refusal_of r.limits (merged k r) ≡ None) ⊎ (refusal_of r.limits (merged k r) ≡ Some replica_faults.EntriesFull) →
          OtherOrder c n sender p other q e
      go (inr full) = IsFull (deliver_gives c n other q x k (Some replica_faults.EntriesFull) t.at named there u.no_request not_own full)
      go (inl free) =
          GivesSame (set c n z) (deliver_gives c n other q x k None t.at named there u.no_request not_own free)
          (deliver_gives (set c n z) n sender p z m None (get-set_same c n x z t.at) (still_named c n z (sender ∷ []) t.named)
          (same_message c n x (merged k r) sender p t.at ∙ t.there) t.no_request t.other fits ∙ ap Ok ends)

-- messages that are delivered in a run have no two entries at one dot
commute_in : (l : NodeLimits) (count : ℕ) (old : Cluster) (n sender p other q : ℕ) → Fine old → (x : Node) (m k : Message) →
    slice_get old n ≡ Some x → message_for old (Deliver sender p) ≡ Some m → message_for old (Deliver other q) ≡ Some k →
    merged k (merged m x.replica) ≡ merged m (merged k x.replica)
commute_in l count old n sender p other q fine x m k at am ak =
    let a = read_from old (delivers (Deliver sender p)) m am in
    let b = read_from old (delivers (Deliver other q)) k ak in
    order_holds m k x.replica (fine.each n x at).sound.live ((fine.each a.0 a.2 a.3).messages a.1 m a.4)
    ((fine.each b.0 b.2 b.3).messages b.1 k b.4)
    (λ d v w vm wk. fine.one d v w (a.0, a.2, a.3, inr (a.1, m, a.4, vm)) (b.0, b.2, b.3, inr (b.1, k, b.4, wk)))

one_way : (l : NodeLimits) (count n i j sender p other q : ℕ) (first rest : List Kept) (c : Cluster) →
    runs l count (first ++ delivery j n other q ∷ delivery i n sender p ∷ []) ≢ Err EntriesFull →
    runs l count (first ++ delivery i n sender p ∷ delivery j n other q ∷ rest) ≡ Ok c →
    runs l count (first ++ delivery j n other q ∷ delivery i n sender p ∷ rest) ≡ Ok c
one_way l count n i j sender p other q first rest c room run =
    let a = delivery i n sender p in
    let b = delivery j n other q in
    let parts = runs_split (Ok (opening_of l count)) first (a ∷ b ∷ rest) c run in
    let one = run_one parts.0 c a (b ∷ rest) parts.2 in
    let two = run_one one.0 c b rest one.2 in
    let fine = fine_run l count first parts.0 parts.1 in
    go parts.0 two.0 parts.1 two.2
    (in_other_order parts.0 one.0 two.0 n sender p other q one.1 two.1 (commute_in l count parts.0 n sender p other q fine))
  where
    go : (old end : Cluster) → runs l count first ≡ Ok old → then_runs (Ok end) rest ≡ Ok c → OtherOrder old n sender p other q end →
        runs l count (first ++ delivery j n other q ∷ delivery i n sender p ∷ rest) ≡ Ok c
    go old end run more (IsFull full) = absurd (room (
        runs_append (Ok (opening_of l count)) first (delivery j n other q ∷ delivery i n sender p ∷ [])
        ∙ ap (λ r. then_runs r (delivery j n other q ∷ delivery i n sender p ∷ [])) run
        ∙ ap (λ r. then_runs r (delivery i n sender p ∷ [])) full))
    go old end run more (GivesSame b once twice) =
        runs_append (Ok (opening_of l count)) first (delivery j n other q ∷ delivery i n sender p ∷ rest)
        ∙ ap (λ r. then_runs r (delivery j n other q ∷ delivery i n sender p ∷ rest)) run
        ∙ ap (λ r. then_runs r (delivery i n sender p ∷ rest)) once
        ∙ ap (λ r. then_runs r rest) twice
        ∙ more

pub exchange_holds : ExchangeLaw
exchange_holds l count n first rest i j sender p other q room back c = (
  one_way l count n i j sender p other q first rest c back,
  one_way l count n j i other q sender p first rest c room,
)
