-- A delivery past an own step of its node, in a run.
use Rattle.std.proofs.Common.{◌≡◌, ◌≢◌, ◌⊎◌, inl, inr, ℕ, ◌==◌, nat_lt, true, false, List, [], ◌∷◌, ◌++◌, length, set, slice_get}
use Rattle.std.proofs.Common.{Option, Some, None, Result, Ok, Err, refl, sym, ap, ◌∙◌, length-set, true≢false}
use Rattle.std.proofs.lemmas.Bool.{eq-eqb}
use Rattle.std.specs.List.{list_all}
use Rattle.payload_core.specs.Messages.{Message}
use Rattle.replica_core.specs.declared.node_limits.NodeLimits.{NodeLimits}
use Rattle.replica_core.specs.declared.replica_fault.ReplicaFault.{ReplicaFault}
use Rattle.replica_core.specs.declared.replica_fault.ReplicaFault.TheVariants as replica_faults
use Rattle.replica_core.specs.Deliveries.{merged}
use Rattle.replica_core.specs.Refusals.{merge_refusal}
use Rattle.node_core.specs.declared.step_fault.StepFault.{StepFault}
use Rattle.node_core.specs.declared.step_fault.StepFault.TheVariants as step_faults
use Rattle.node_core.specs.declared.step_fault.StepFault.TheVariants.{OwnMessage}
use Rattle.node_core.specs.Operations.{Operation, Join, Leave, LeaveAll, Update, Broadcast, Extract, Deliver, Request, Answer, Up, Down, Permdown, named_in}
use Rattle.node_core.specs.Nodes.{Node, unless, take}
use Rattle.bench_core.specs.declared.fault.Fault.TheVariants.{EntriesFull}
use Rattle.bench_core.specs.Benches.{IsNumbered}
use Rattle.bench_core.specs.Clusters.{Cluster, of_node, with_node, step, message_for, opening_of}
use Rattle.journal_core.specs.Journals.{Kept}
use Rattle.bench_core.specs.Runs.{then_runs, runs}
use Rattle.bench_core.proofs.Clusters.{Stepped, get-set_same, set-set_same, message-set, stepped, step_takes}
use Rattle.bench_core.proofs.Taken.{owns}
use Rattle.bench_core.proofs.Runs.{runs_append, runs_split, run_one, numbered_runs}
use Rattle.bench_core.proofs.Deliveries.{Delivered, delivered, deliver_gives, still_named, refusal_of, room_cases}
use Rattle.network_core.specs.EasySteps.{is_always_easy}
use Rattle.network_core.proofs.Beside.{after, Beside, IsFull, IsFullAfter, Refused, Taken}

was_named : (c : Cluster) (n : ℕ) (x : Node) (ks : List ℕ) → list_all (λ k. nat_lt k (length (set c n x))) ks ≡ true →
    list_all (λ k. nat_lt k (length c)) ks ≡ true
was_named c n x ks h = ap (λ m. list_all (λ k. nat_lt k m) ks) (sym (length-set c n x)) ∙ h

-- an own step reads no message
pub reads_nothing : (c : Cluster) (s : Operation) → is_always_easy s ≡ true → message_for c s ≡ None
reads_nothing c (Join p) h = refl
reads_nothing c (Leave pid topic key) h = refl
reads_nothing c (LeaveAll pid) h = refl
reads_nothing c (Update p) h = refl
reads_nothing c Broadcast h = refl
reads_nothing c Request h = refl
reads_nothing c (Down name) h = refl
reads_nothing c (Extract names) h = absurd (cc)
reads_nothing c (Deliver sender number) h = absurd (cc)
reads_nothing c (Answer sender number) h = absurd (cc)
reads_nothing c (Up name) h = absurd (cc)
reads_nothing c (Permdown name) h = absurd (cc)

own_gives : (c : Cluster) (n : ℕ) (s : Operation) (x : Node) (r : Result Node StepFault) → message_for c s ≡ None → slice_get c n ≡ Some x →
    list_all (λ k. nat_lt k (length c)) (named_in s) ≡ true → take x s None ≡ r → step c n s ≡ with_node c n (of_node r)
own_gives c n s x r silent at named is = step_takes c n s x r at named (ap (take x s) silent ∙ is)

-- what is delivered is another node's
other_node : (c : Cluster) (n sender : ℕ) (x : Node) → IsNumbered c → slice_get c n ≡ Some x → (sender == x.replica.own) ≡ false → sender ≢ n
other_node c n sender x numbered at other e = true≢false (sym (eq-eqb sender x.replica.own (e ∙ sym (numbered n x at))) ∙ other)

-- the other order is refused for the entries, or gives the same
pub data OtherOrder (c : Cluster) (n : ℕ) (s : Operation) (m : ℕ) (t : Operation) (e : Cluster) : Type 0 where
  IsFullAtOnce : step c n s ≡ Err EntriesFull → OtherOrder c n s m t e
  IsFullThen : (b : Cluster) → step c n s ≡ Ok b → step b m t ≡ Err EntriesFull → OtherOrder c n s m t e
  GivesSame : (b : Cluster) → step c n s ≡ Ok b → step b m t ≡ Ok e → OtherOrder c n s m t e

-- a delivery first
module _ (c d e : Cluster) (n sender p : ℕ) (s : Operation) (silent : (c : Cluster) → message_for c s ≡ None)
    (alike : (m : Message) (x : Node) → slice_get c n ≡ Some x → Beside m (take x s None) (take (after m x) s None)) (numbered : IsNumbered c)
    (first : step c n (Deliver sender p) ≡ Ok d) (second : step d n s ≡ Ok e) where
  t : Delivered c n sender p d
  t = delivered c n sender p d first

  abbrev x : Node
  x = t.from

  abbrev m : Message
  m = t.message

  u : Stepped (set c n (after m x)) n s e
  u = stepped (set c n (after m x)) n s e (ap (λ (d : Cluster). step d n s) (sym t.gives) ∙ second)

  here : u.from ≡ after m x
  here = let s : slice_get (set c n (after m x)) n ≡ Some (after m x) = get-set_same c n x (after m x) t.at in cc (u.at, s)

  took : take (after m x) s None ≡ Ok u.to
  took = ap (λ (z : Node). take z s None) (sym here) ∙ ap (take u.from s) (sym (silent (set c n (after m x)))) ∙ u.taken

  named : list_all (λ k. nat_lt k (length c)) (named_in s) ≡ true
  named = was_named c n (after m x) (named_in s) u.named

  apart : sender ≢ n
  apart = other_node c n sender x numbered t.at t.other

  module _ (y : Node) (one : take x s None ≡ Ok y) (two : take (after m x) s None ≡ Ok (after m y)) where
    abbrev b : Cluster
    b = set c n y

    stepped_first : step c n s ≡ Ok b
    stepped_first = own_gives c n s x (Ok y) (silent c) t.at named one

    at_y : slice_get b n ≡ Some y
    at_y = get-set_same c n x y t.at

    there_y : message_for b (Deliver sender p) ≡ Some m
    there_y = message-set c n x y (Deliver sender p) t.at (λ e. absurd (apart e)) ∙ t.there

    other_y : (sender == y.replica.own) ≡ false
    other_y = ap (λ o. sender == o) (owns x s None y one) ∙ t.other

    same_end : set b n (after m y) ≡ e
    same_end =
        let to : u.to ≡ after m y = cc (took, two) in
        set-set_same c n y (after m y)
        ∙ ap (set c n) (sym to)
        ∙ sym (set-set_same c n (after m x) u.to)
        ∙ sym u.gives

    delivered_then : (cause : Option ReplicaFault) → merge_refusal y.replica m ≡ cause →
        step b n (Deliver sender p) ≡ with_node b n (of_node (unless cause (after m y)))
    delivered_then cause is = deliver_gives b n sender p y m cause at_y (still_named c n y (sender ∷ []) t.named) there_y t.no_request other_y is

    own_first : OtherOrder c n s n (Deliver sender p) e
    own_first = go (room_cases y.replica.limits (merged m y.replica))
      where
        go : (refusal_of y.replica.limits (merged m y.replica) ≡ None) ⊎ (refusal_of y.replica.limits (merged m y.replica) ≡ Some replica_faults.EntriesFull) →
            OtherOrder c n s n (Deliver sender p) e
        go (inr full) = IsFullThen b stepped_first (delivered_then (Some replica_faults.EntriesFull) full)
        go (inl free) = GivesSame b stepped_first (delivered_then None free ∙ ap Ok same_end)

  pub with_own_first : OtherOrder c n s n (Deliver sender p) e
  with_own_first = go (alike m x t.at)
    where
      go : Beside m (take x s None) (take (after m x) s None) → OtherOrder c n s n (Deliver sender p) e
      go (IsFull f) = IsFullAtOnce (own_gives c n s x (Err step_faults.EntriesFull) (silent c) t.at named f)
      go (IsFullAfter f) = absurd (cc (took, f))
      go (Refused fault one two) = absurd (cc (took, two))
      go (Taken y one two) = own_first y one two

-- in a run: where two steps next to each other are taken, and the other order gives the same or is full
module _ (l : NodeLimits) (count : ℕ) (first rest : List Kept) (one two : Kept) (c : Cluster)
    (swaps : (old mid end : Cluster) → runs l count first ≡ Ok old → IsNumbered old → step old one.node one.step ≡ Ok mid → step mid two.node two.step ≡ Ok end →
    OtherOrder old two.node two.step one.node one.step end) where
  pub other_way : runs l count (first ++ two ∷ one ∷ []) ≢ Err EntriesFull → runs l count (first ++ one ∷ two ∷ rest) ≡ Ok c →
      runs l count (first ++ two ∷ one ∷ rest) ≡ Ok c
  other_way room run =
      let parts = runs_split (Ok (opening_of l count)) first (one ∷ two ∷ rest) c run in
      let a = run_one parts.0 c one (two ∷ rest) parts.2 in
      let b = run_one a.0 c two rest a.2 in
      go parts.0 b.0 parts.1 b.2 (swaps parts.0 a.0 b.0 parts.1 (numbered_runs l count first parts.0 parts.1) a.1 b.1)
    where
      go : (old end : Cluster) → runs l count first ≡ Ok old → then_runs (Ok end) rest ≡ Ok c → OtherOrder old two.node two.step one.node one.step end →
          runs l count (first ++ two ∷ one ∷ rest) ≡ Ok c
      go old end ran more (IsFullAtOnce full) = absurd (room (
          runs_append (Ok (opening_of l count)) first (two ∷ one ∷ [])
          ∙ ap (λ r. then_runs r (two ∷ one ∷ [])) ran
          ∙ ap (λ r. then_runs r (one ∷ [])) full))
      go old end ran more (IsFullThen mid taken full) = absurd (room (
          runs_append (Ok (opening_of l count)) first (two ∷ one ∷ [])
          ∙ ap (λ r. then_runs r (two ∷ one ∷ [])) ran
          ∙ ap (λ r. then_runs r (one ∷ [])) taken
          ∙ ap (λ r. then_runs r []) full))
      go old end ran more (GivesSame mid once twice) =
          runs_append (Ok (opening_of l count)) first (two ∷ one ∷ rest)
          ∙ ap (λ r. then_runs r (two ∷ one ∷ rest)) ran
          ∙ ap (λ r. then_runs r (one ∷ rest)) once
          ∙ ap (λ r. then_runs r rest) twice
          ∙ more
