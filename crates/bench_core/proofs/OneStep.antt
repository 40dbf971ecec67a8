-- The step of one node in a cluster, which takes it beside the others.
use Rattle.std.proofs.Common.{◌≡◌, ◌≢◌, ℕ, zero, suc, ◌<◌, ◌≤◌, ◌==◌, nat_lt, Bool, true, false, if◌then◌else◌, List, [], ◌∷◌, ◌++◌, length, set, slice_get}
use Rattle.std.proofs.Common.{get_or, Option, Some, Result, Ok, Err, OnOk, OnErr, IfOk, IfErr, refl, sym, ap, ◌∙◌, arith}
use Rattle.std.proofs.Math.Seq.{set-append_seam}
use Rattle.std.proofs.lemmas.Bool.{eqb-false, ltb-true, and_parts}
use Rattle.std.specs.List.{list_all}
use Rattle.payload_core.specs.Messages.{Message, numbered}
use Rattle.node_core.specs.declared.inverse.Inverse as declared
use Rattle.node_core.specs.declared.step_fault.StepFault.{StepFault}
use Rattle.node_core.specs.declared.step_fault.StepFault.TheVariants.{OwnMessage, OutOfMemory}
use Rattle.node_core.specs.Operations.{Operation, Join, Leave, LeaveAll, Update, Broadcast, Extract, Deliver, Request, Answer, Up, Down, Permdown, named_in, AreNames}
use Rattle.node_core.specs.Nodes.{Node, deliver, answer, take}
use Rattle.node_core.specs.Invariant.{IsNode}
use Rattle.node_core.specs.Inverses.{plain_inverse, LeadsBack}
use Rattle.bench_core.specs.Clusters.{Cluster, outbox_of, message_for}
use Rattle.bench_core.specs.Benches.{IsNumbered, Steps}
use Rattle.journal_core.proofs.Numbered.{get-append_at}
use Rattle.bench_core.proofs.Clusters.{get-set_other, step_takes}

pub get_at : {A : Type 0} (xs : List A) (n : ℕ) (x : A) → n < length xs → x ≡ get_or xs n x → slice_get xs n ≡ Some x
get_at [] n x h is = absurd (omega arith)
get_at (y ∷ xs) zero x h is = ap Some (sym is)
get_at (y ∷ xs) (suc n) x h is = get_at xs n x (omega arith) is

-- the nodes that a step names are so few that their numbers are names
pub names_named : (s : Operation) (count : ℕ) → count ≤ 32 → list_all (λ k. nat_lt k count) (named_in s) ≡ true → AreNames s
names_named (Join p) count few named = tt
names_named (Leave pid topic key) count few named = tt
names_named (LeaveAll pid) count few named = tt
names_named (Update p) count few named = tt
names_named Broadcast count few named = tt
names_named (Extract names) count few named = tt
names_named (Deliver sender number) count few named = let low = ltb-true sender count (and_parts _ _ named).0 in omega arith
names_named Request count few named = tt
names_named (Answer sender number) count few named = let low = ltb-true sender count (and_parts _ _ named).0 in omega arith
names_named (Up name) count few named = let low = ltb-true name count (and_parts _ _ named).0 in omega arith
names_named (Down name) count few named = let low = ltb-true name count (and_parts _ _ named).0 in omega arith
names_named (Permdown name) count few named = let low = ltb-true name count (and_parts _ _ named).0 in omega arith

-- a step that reads a message of its own node is refused before it is read
read_alike : (f : Option Message → Result Node StepFault) (c : Cluster) (n sender p : ℕ) (x other : Node) → x.replica.own ≡ n →
    (if sender == x.replica.own then Err OwnMessage else f (numbered (outbox_of (slice_get (set c n other) sender)) p)) ≡
    (if sender == x.replica.own then Err OwnMessage else f (numbered (outbox_of (slice_get c sender)) p))
read_alike f c n sender p x other own = go (sender == x.replica.own) refl
  where
    go : (b : Bool) → (sender == x.replica.own) ≡ b →
        (if b then Err OwnMessage else f (numbered (outbox_of (slice_get (set c n other) sender)) p)) ≡
        (if b then Err OwnMessage else f (numbered (outbox_of (slice_get c sender)) p))
    go true is = refl
    go false is =
        let apart : sender ≢ n = λ e. eqb-false sender x.replica.own is (e ∙ sym own) in
        ap (λ o. f (numbered (outbox_of o) p)) (get-set_other c n sender other apart)

-- a step reads no message of its own node
take_alike : (c : Cluster) (n : ℕ) (s : Operation) (x other : Node) → x.replica.own ≡ n →
    take x s (message_for (set c n other) s) ≡ take x s (message_for c s)
take_alike c n (Join p) x other own = refl
take_alike c n (Leave pid topic key) x other own = refl
take_alike c n (LeaveAll pid) x other own = refl
take_alike c n (Update p) x other own = refl
take_alike c n Broadcast x other own = refl
take_alike c n (Extract names) x other own = refl
take_alike c n (Up name) x other own = refl
take_alike c n (Down name) x other own = refl
take_alike c n (Permdown name) x other own = refl
take_alike c n (Deliver sender p) x other own = read_alike (deliver x) c n sender p x other own
take_alike c n Request x other own = refl
take_alike c n (Answer sender p) x other own = read_alike (answer x) c n sender p x other own

module _ (before after : Cluster) (s : Operation) (x y : Node) (m : Option Message) (own : IsNumbered (before ++ x ∷ after))
    (named : list_all (λ k. nat_lt k (length (before ++ x ∷ after))) (named_in s) ≡ true)
    (is : (silent : Node) → silent.outbox ≡ [] → m ≡ message_for (before ++ silent ∷ after) s) where
  at : slice_get (before ++ x ∷ after) (length before) ≡ Some x
  at = get-append_at before after x

  alike : take x s m ≡ take x s (message_for (before ++ x ∷ after) s)
  alike =
      let silent : Node = record { replica = x.replica; outbox = [] } in
      let beside : set (before ++ x ∷ after) (length before) silent ≡ before ++ silent ∷ after = set-append_seam before x after silent in
      ap (take x s) (is silent refl ∙ sym (ap (λ (d : Cluster). message_for d s) beside))
      ∙ take_alike (before ++ x ∷ after) (length before) s x silent (own (length before) x at)

  pub one_step : {X : Type 0} (r : Result (declared.Inverse X) StepFault) → OnOk r (take x s m ≡ Ok y) →
      IfOk r (λ i. LeadsBack (plain_inverse i) y x) → IfErr r (λ fault. fault ≢ OutOfMemory → take x s m ≡ Err fault) → OnErr r (y ≡ x) →
      IsNode y → Steps (before ++ x ∷ after) (length before) s r (before ++ y ∷ after)
  one_step (Ok i) taken leads fault stays kept =
      record {
        earlier = x;
        later = y;
        at = at;
        taken = sym alike
            ∙ taken;
        leads = leads;
        gives = sym (set-append_seam before x after y);
        kept = kept;
      }
  one_step (Err e) taken leads fault stays kept = (
    ap (λ (z : Node). before ++ z ∷ after) stays,
    λ some. step_takes (before ++ x ∷ after) (length before) s x (Err e) at named (sym alike ∙ fault some),
  )
