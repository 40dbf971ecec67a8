-- A step, and a run, of two clusters that are alike as far as what matters goes.
use Rattle.std.proofs.Common.{◌≡◌, ◌≢◌, ◌⊎◌, inl, inr, ℕ, suc, zero, ◌&&◌, nat_lt, Bool, true, false, if◌then◌else◌, List, [], ◌∷◌, length, length-set, set, slice_get}
use Rattle.std.proofs.Common.{Option, Some, None, Result, Ok, Err, refl, sym, ap, ◌∙◌, subst}
use Rattle.std.proofs.lemmas.Bool.{cases_eq, eq-eqb, ne_eqb}
use Rattle.std.specs.List.{list_all}
use Rattle.dots_core.specs.declared.dot.Dot.{Dot}
use Rattle.payload_core.specs.Messages.{Message, numbered}
use Rattle.replica_core.specs.Replicas.{Replica}
use Rattle.node_core.specs.declared.step_fault.StepFault.{StepFault}
use Rattle.node_core.specs.Operations.{Operation, delivers, named_in}
use Rattle.node_core.specs.Nodes.{Node, take}
use Rattle.journal_core.specs.Journals.{Kept}
use Rattle.bench_core.specs.declared.fault.Fault.{Fault}
use Rattle.bench_core.specs.declared.fault.Fault.TheVariants.{EntriesFull, UnknownNode}
use Rattle.bench_core.specs.Clusters.{Cluster, fault_of, of_node, with_node, node_step, message_at, message_for, outbox_of, step}
use Rattle.bench_core.specs.Runs.{then_runs}
use Rattle.bench_core.proofs.Clusters.{get-set_same, get-set_other}
use Rattle.network_core.specs.Alike.{Cares, BothAre, MessageAlike, NodeAlike, SentAlike, ClusterAlike, Narrows, Ends, Goes, forgets, asked_of, sends_of}
use Rattle.network_core.specs.AlikeSteps.{StepTogether, StepLaw, StepsLaw}
use Rattle.network_core.specs.AlikeSteps as laws
use Rattle.network_core.proofs.Stores.{message_less, replica_less, beside}
use Rattle.network_core.proofs.Steps.{Together, IsFull, IsFullToo, Refused, Taken, take_both}

both_less : (p q : Dot → Bool) (o r : Option Message) → BothAre (MessageAlike p) o r → ((m : Message) → o ≡ Some m → (d : Dot) → q d ≡ true → p d ≡ true) → BothAre (MessageAlike q) o r
both_less p q None None b less = tt
both_less p q None (Some k) b less = absurd b
both_less p q (Some m) None b less = absurd b
both_less p q (Some m) (Some k) b less = message_less p q m k (less m refl) b

-- what matters of the message that is read
abbrev read_of : Cares → Option (ℕ × ℕ) → Dot → Bool
read_of t None d = false
read_of t (Some m) d = t.of m.0 m.1 d

module _ (t u : Cares) (c d : Cluster) (k : Kept) (a : ClusterAlike t c d) (n : Narrows c k t u) where
  abbrev here : ℕ
  here = k.node

  abbrev R : Node → Node → Type 0
  R = NodeAlike (u.at here) (u.of here)

  messages_both : (o : Option (ℕ × ℕ)) → BothAre (MessageAlike (read_of t o)) (message_at c o) (message_at d o)
  messages_both None = tt
  messages_both (Some m) = go (slice_get c m.0) (slice_get d m.0) (a.each m.0)
    where
      nothing : (i : ℕ) → BothAre (MessageAlike (t.of m.0 m.1)) (numbered {X = Message} [] i) (numbered {X = Message} [] i)
      nothing zero = tt
      nothing (suc i) = tt

      go : (o p : Option Node) → BothAre (NodeAlike (t.at m.0) (t.of m.0)) o p →
          BothAre (MessageAlike (t.of m.0 m.1)) (numbered (outbox_of o) m.1) (numbered (outbox_of p) m.1)
      go None None b = nothing m.1
      go None (Some y) b = absurd b
      go (Some x) None b = absurd b
      go (Some x) (Some y) b = b.sent m.1

  -- what was sent before
  sent_less : (m : ℕ) (x y : Node) → slice_get c m ≡ Some x → SentAlike (t.of m) x.outbox y.outbox → SentAlike (u.of m) x.outbox y.outbox
  sent_less m x y at h i = both_less (t.of m i) (u.of m i) (numbered x.outbox i) (numbered y.outbox i) (h i)
      (λ w is. n.of m i w (ap (λ (o : Option Node). numbered (outbox_of o) i) at ∙ is))

  other_less : (m : ℕ) (x y : Node) → m ≢ here → slice_get c m ≡ Some x → NodeAlike (t.at m) (t.of m) x y → NodeAlike (u.at m) (u.of m) x y
  other_less m x y other at h = record {
    replica = replica_less (t.at m) (u.at m) x.replica y.replica (λ q w. n.at m q (ap (λ b. b && forgets k.step q.name) (ne_eqb m here other)) w) h.replica;
    long = h.long;
    sent = sent_less m x y at h.sent;
  }

  at_node : (x y : Node) → slice_get c here ≡ Some x → NodeAlike (t.at here) (t.of here) x y →
      Together R (take x k.step (message_for c k.step)) (take y k.step (message_for d k.step))
  at_node x y at h =
      subst (λ (z : Node). Together R (take x k.step (message_for c k.step)) (take z k.step (message_for d k.step))) (sym whole)
      (take_both (t.at here) (u.at here) (u.of here) (read_of t (delivers k.step)) x.replica h.replica.store x.outbox y.outbox h.replica.alike h.long
      (sent_less here x y at h.sent) k.step (message_for c k.step) (message_for d k.step) (messages_both (delivers k.step))
      (λ q gone w. n.at here q (ap (λ b. b && forgets k.step q.name) (eq-eqb here here refl) ∙ gone) w)
      (λ sender number is q w. ap (λ (s : Operation). read_of t (delivers s) q) is ∙ n.read sender number is q w)
      (λ names is. n.sent x names at (ap (sends_of c) is))
      (λ sender number names is asks. n.sent x names at (ap (sends_of c) is ∙ sym (ap (λ (s : Operation). asked_of (message_for c s)) is) ∙ asks)))
    where
      whole : y ≡ record { replica = beside x.replica h.replica.store; outbox = y.outbox }
      whole = ap (λ (r : Replica). record { replica = r; outbox = y.outbox }) h.replica.is

  after_both : (x y v w : Node) → slice_get c here ≡ Some x → slice_get d here ≡ Some y → R v w → ClusterAlike u (set c here v) (set d here w)
  after_both x y v w at too h = record {
    long = length-set d here w ∙ a.long ∙ sym (length-set c here v);
    each = λ m. each m (cases_eq m here);
  }
    where
      others : (m : ℕ) → m ≢ here → (o p : Option Node) → slice_get c m ≡ o → BothAre (NodeAlike (t.at m) (t.of m)) o p → BothAre (NodeAlike (u.at m) (u.of m)) o p
      others m other None None is b = tt
      others m other None (Some z) is b = absurd b
      others m other (Some z) None is b = absurd b
      others m other (Some z) (Some z2) is b = other_less m z z2 other is b

      each : (m : ℕ) → (m ≡ here) ⊎ (m ≢ here) → BothAre (NodeAlike (u.at m) (u.of m)) (slice_get (set c here v) m) (slice_get (set d here w) m)
      each m (inl e) = subst (λ m. BothAre (NodeAlike (u.at m) (u.of m)) (slice_get (set c here v) m) (slice_get (set d here w) m)) (sym e)
          (subst (λ (o : Option Node). BothAre R o (slice_get (set d here w) here)) (sym (get-set_same c here x v at))
          (subst (λ (o : Option Node). BothAre R (Some v) o) (sym (get-set_same d here y w too)) h))
      each m (inr other) =
          subst (λ (o : Option Node). BothAre (NodeAlike (u.at m) (u.of m)) o (slice_get (set d here w) m)) (sym (get-set_other c here m v other))
          (subst (λ (o : Option Node). BothAre (NodeAlike (u.at m) (u.of m)) (slice_get c m) o) (sym (get-set_other d here m w other))
          (others m other (slice_get c m) (slice_get d m) refl (a.each m)))

  -- the nodes' answers as the clusters'
  of_both : (x y : Node) (r s : Result Node StepFault) → slice_get c here ≡ Some x → slice_get d here ≡ Some y → Together R r s →
      StepTogether u (with_node c here (of_node r)) (with_node d here (of_node s))
  of_both x y r s at too (IsFull h) = laws.IsFull (ap (λ r. with_node c here (of_node r)) h)
  of_both x y r s at too (IsFullToo h) = laws.IsFullToo (ap (λ r. with_node d here (of_node r)) h)
  of_both x y r s at too (Refused fault h g) = laws.Refused (fault_of fault) (ap (λ r. with_node c here (of_node r)) h) (ap (λ r. with_node d here (of_node r)) g)
  of_both x y r s at too (Taken v w h g b) =
      laws.Taken (set c here v) (set d here w) (ap (λ r. with_node c here (of_node r)) h) (ap (λ r. with_node d here (of_node r)) g) (after_both x y v w at too b)

  tested : (x y : Node) (b : Bool) → slice_get c here ≡ Some x → slice_get d here ≡ Some y → NodeAlike (t.at here) (t.of here) x y →
      StepTogether u (with_node c here (if b then of_node (take x k.step (message_for c k.step)) else Err UnknownNode))
      (with_node d here (if b then of_node (take y k.step (message_for d k.step)) else Err UnknownNode))
  tested x y true at too h = of_both x y _ _ at too (at_node x y at h)
  tested x y false at too h = laws.Refused UnknownNode refl refl

  found : (o p : Option Node) → slice_get c here ≡ o → slice_get d here ≡ p → BothAre (NodeAlike (t.at here) (t.of here)) o p →
      StepTogether u (with_node c here (node_step (length c) o k.step (message_for c k.step))) (with_node d here (node_step (length c) p k.step (message_for d k.step)))
  found None None at too b = laws.Refused UnknownNode refl refl
  found None (Some y) at too b = absurd b
  found (Some x) None at too b = absurd b
  found (Some x) (Some y) at too b = tested x y (list_all (λ k. nat_lt k (length c)) (named_in k.step)) at too b

  pub step_both : StepTogether u (step c here k.step) (step d here k.step)
  step_both =
      subst (λ m. StepTogether u (step c here k.step) (with_node d here (node_step m (slice_get d here) k.step (message_for d k.step)))) (sym a.long)
      (found (slice_get c here) (slice_get d here) refl refl (a.each here))

pub step_holds : StepLaw
step_holds t u c d k a n = step_both t u c d k a n

-- runs

erred : (e : Fault) (ks : List Kept) → then_runs (Err e) ks ≡ Err e
erred e [] = refl
erred e (k ∷ ks) = refl

pub steps_hold : StepsLaw
steps_hold t end c d e [] a (Ends _ _) run room = let same : c ≡ e = cc in (d, refl, subst (λ (x : Cluster). ClusterAlike t x d) same a)
steps_hold t end c d e (k ∷ ks) a (Goes _ _ _ _ u _ narrow on) run room =
    go (step c k.node k.step) (step d k.node k.step) refl refl (step_holds t u c d k a narrow) run room
    (λ b f h is run room. steps_hold u end b f e ks h (on b is) run room)
  where
    go : (one two : Result Cluster Fault) → step c k.node k.step ≡ one → step d k.node k.step ≡ two → StepTogether u one two → then_runs one ks ≡ Ok e →
        then_runs two ks ≢ Err EntriesFull →
        ((b f : Cluster) → ClusterAlike u b f → step c k.node k.step ≡ Ok b → then_runs (Ok b) ks ≡ Ok e → then_runs (Ok f) ks ≢ Err EntriesFull →
        (g : Cluster) × (then_runs (Ok f) ks ≡ Ok g) × ClusterAlike end e g) →
        (g : Cluster) × (then_runs two ks ≡ Ok g) × ClusterAlike end e g
    go one two is too (laws.IsFull h) run room later = absurd (let no : Err EntriesFull ≡ Ok e = sym (erred EntriesFull ks) ∙ ap (λ r. then_runs r ks) (sym h) ∙ run in cc)
    go one two is too (laws.IsFullToo h) run room later = absurd (room (ap (λ r. then_runs r ks) h ∙ erred EntriesFull ks))
    go one two is too (laws.Refused fault h g) run room later = absurd (let no : Err fault ≡ Ok e = sym (erred fault ks) ∙ ap (λ r. then_runs r ks) (sym h) ∙ run in cc)
    go one two is too (laws.Taken b f h g alike) run room later =
        let r = later b f alike (is ∙ h) (ap (λ r. then_runs r ks) (sym h) ∙ run) (λ e. room (ap (λ r. then_runs r ks) g ∙ e)) in
        (r.0, ap (λ r. then_runs r ks) g ∙ r.1, r.2)
