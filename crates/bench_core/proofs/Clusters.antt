-- A step changes one node, and reads one message of another.
use Rattle.std.proofs.Common.{◌≡◌, ◌≢◌, ◌⊎◌, inl, inr, ℕ, zero, suc, nat_lt, Bool, true, false, if◌then◌else◌, List, [], ◌∷◌, length, set, slice_get}
use Rattle.std.proofs.Common.{Option, Some, None, Result, Ok, Err, refl, sym, ap, ◌∙◌, length-set}
use Rattle.std.proofs.lemmas.Bool.{cases_eq}
use Rattle.std.specs.List.{list_all}
use Rattle.node_core.specs.Operations.{Operation, named_in, delivers}
use Rattle.node_core.specs.declared.step_fault.StepFault.{StepFault}
use Rattle.payload_core.specs.Messages.{Message, numbered}
use Rattle.node_core.specs.Nodes.{Node, take}
use Rattle.bench_core.specs.declared.fault.Fault.{Fault}
use Rattle.bench_core.specs.declared.fault.Fault.TheVariants.{UnknownNode}
use Rattle.bench_core.specs.Clusters.{Cluster, outbox_of, message_at, message_for, of_node, node_step, with_node, step}

-- lists, by place

pub get-set_same : {A : Type 0} (xs : List A) (i : ℕ) (x y : A) → slice_get xs i ≡ Some x → slice_get (set xs i y) i ≡ Some y
get-set_same [] i x y h = absurd (cc)
get-set_same (z ∷ xs) zero x y h = refl
get-set_same (z ∷ xs) (suc i) x y h = get-set_same xs i x y h

pub get-set_other : {A : Type 0} (xs : List A) (i j : ℕ) (y : A) → j ≢ i → slice_get (set xs i y) j ≡ slice_get xs j
get-set_other [] i j y h = refl
get-set_other (z ∷ xs) zero zero y h = absurd (h refl)
get-set_other (z ∷ xs) zero (suc j) y h = refl
get-set_other (z ∷ xs) (suc i) zero y h = refl
get-set_other (z ∷ xs) (suc i) (suc j) y h = get-set_other xs i j y (λ e. h (ap suc e))

pub set-set_other : {A : Type 0} (xs : List A) (i j : ℕ) (x y : A) → j ≢ i → set (set xs i x) j y ≡ set (set xs j y) i x
set-set_other [] i j x y h = refl
set-set_other (z ∷ xs) zero zero x y h = absurd (h refl)
set-set_other (z ∷ xs) zero (suc j) x y h = refl
set-set_other (z ∷ xs) (suc i) zero x y h = refl
set-set_other (z ∷ xs) (suc i) (suc j) x y h = ap (λ (l : List _). z ∷ l) (set-set_other xs i j x y (λ e. h (ap suc e)))

pub set-get : {A : Type 0} (xs : List A) (i : ℕ) (x : A) → slice_get xs i ≡ Some x → set xs i x ≡ xs
set-get [] i x h = refl
set-get (z ∷ xs) zero x h = ap (λ (y : _). y ∷ xs) (cc)
set-get (z ∷ xs) (suc i) x h = ap (λ (l : List _). z ∷ l) (set-get xs i x h)

pub set-set_same : {A : Type 0} (xs : List A) (i : ℕ) (x y : A) → set (set xs i x) i y ≡ set xs i y
set-set_same [] i x y = refl
set-set_same (z ∷ xs) zero x y = refl
set-set_same (z ∷ xs) (suc i) x y = ap (λ (l : List _). z ∷ l) (set-set_same xs i x y)

-- results

abbrev pub mapped : {A B E : Type 0} → (A → B) → Result A E → Result B E
mapped f (Ok x) = Ok (f x)
mapped f (Err e) = Err e

pub mapped_ok : {A B E : Type 0} (f : A → B) (r : Result A E) (y : B) → mapped f r ≡ Ok y → (x : A) × (r ≡ Ok x) × (f x ≡ y)
mapped_ok f (Ok x) y h = (x, refl, cc)
mapped_ok f (Err e) y h = absurd (cc)

-- what a step reads of the others

-- at two outboxes of node n, the same message is delivered
abbrev pub ReadAlike : ℕ → List Message → List Message → Option (ℕ × ℕ) → Type 0
ReadAlike n xs ys None = Unit {0}
ReadAlike n xs ys (Some m) = m.0 ≡ n → numbered xs m.1 ≡ numbered ys m.1

abbrev pub ReadsAlike : ℕ → List Message → List Message → Operation → Type 0
ReadsAlike n xs ys s = ReadAlike n xs ys (delivers s)

message_at-set : (c : Cluster) (n : ℕ) (x y : Node) (o : Option (ℕ × ℕ)) → slice_get c n ≡ Some x → ReadAlike n y.outbox x.outbox o →
    message_at (set c n y) o ≡ message_at c o
message_at-set c n x y None at same = refl
message_at-set c n x y (Some m) at same = go (cases_eq m.0 n)
  where
    go : (m.0 ≡ n) ⊎ (m.0 ≢ n) → numbered (outbox_of (slice_get (set c n y) m.0)) m.1 ≡ numbered (outbox_of (slice_get c m.0)) m.1
    go (inl e) =
        let new : slice_get (set c n y) m.0 ≡ Some y = ap (slice_get (set c n y)) e ∙ get-set_same c n x y at in
        let old : slice_get c m.0 ≡ Some x = ap (slice_get c) e ∙ at in
        ap (λ o. numbered (outbox_of o) m.1) new ∙ same e ∙ ap (λ o. numbered (outbox_of o) m.1) (sym old)
    go (inr d) = ap (λ o. numbered (outbox_of o) m.1) (get-set_other c n m.0 y d)

pub message-set : (c : Cluster) (n : ℕ) (x y : Node) (s : Operation) → slice_get c n ≡ Some x → ReadsAlike n y.outbox x.outbox s →
    message_for (set c n y) s ≡ message_for c s
message-set c n x y s at same = message_at-set c n x y (delivers s) at same

-- a step at another node doesn't see that node n is replaced
pub step-set : (c : Cluster) (n m : ℕ) (y : Node) (s : Operation) → m ≢ n → message_for (set c n y) s ≡ message_for c s →
    step (set c n y) m s ≡ mapped (λ d. set d n y) (step c m s)
step-set c n m y s d same = ap (with_node (set c n y) m) alike ∙ put (node_step (length c) (slice_get c m) s (message_for c s))
  where
    alike : node_step (length (set c n y)) (slice_get (set c n y) m) s (message_for (set c n y) s) ≡
        node_step (length c) (slice_get c m) s (message_for c s)
    alike = cc (get-set_other c n m y d, length-set c n y)

    put : (r : Result Node Fault) → with_node (set c n y) m r ≡ mapped (λ d. set d n y) (with_node c m r)
    put (Ok x) = ap Ok (set-set_other c n m y x d)
    put (Err e) = refl

-- an accepted step

pub record Stepped (c : Cluster) (n : ℕ) (s : Operation) (d : Cluster) : Type 0 where
  pub from : Node
  pub to : Node
  pub at : slice_get c n ≡ Some from
  pub named : list_all (λ k. nat_lt k (length c)) (named_in s) ≡ true
  pub taken : take from s (message_for c s) ≡ Ok to
  pub gives : d ≡ set c n to

pub stepped : (c : Cluster) (n : ℕ) (s : Operation) (d : Cluster) → step c n s ≡ Ok d → Stepped c n s d
stepped c n s d h = found (slice_get c n) refl h
  where
    took : (x : Node) (r : Result Node StepFault) → slice_get c n ≡ Some x → list_all (λ k. nat_lt k (length c)) (named_in s) ≡ true →
        take x s (message_for c s) ≡ r → with_node c n (of_node r) ≡ Ok d → Stepped c n s d
    took x (Ok y) at named is h = record { from = x; to = y; at = at; named = named; taken = is; gives = cc }
    took x (Err e) at named is h = absurd (cc)

    tested : (x : Node) (b : Bool) → slice_get c n ≡ Some x → list_all (λ k. nat_lt k (length c)) (named_in s) ≡ b →
        with_node c n (if b then of_node (take x s (message_for c s)) else Err UnknownNode) ≡ Ok d → Stepped c n s d
    tested x true at named h = took x (take x s (message_for c s)) at named refl h
    tested x false at named h = absurd (cc)

    found : (o : Option Node) → slice_get c n ≡ o → with_node c n (node_step (length c) o s (message_for c s)) ≡ Ok d → Stepped c n s d
    found None at h = absurd (cc)
    found (Some x) at h = tested x (list_all (λ k. nat_lt k (length c)) (named_in s)) at refl h

-- what a step that can be asked gives
pub step_takes : (c : Cluster) (n : ℕ) (s : Operation) (x : Node) (r : Result Node StepFault) → slice_get c n ≡ Some x →
    list_all (λ k. nat_lt k (length c)) (named_in s) ≡ true → take x s (message_for c s) ≡ r → step c n s ≡ with_node c n (of_node r)
step_takes c n s x r at named taken =
    ap (with_node c n) (ap (λ o. node_step (length c) o s (message_for c s)) at
    ∙ ap (λ b. if b then of_node (take x s (message_for c s)) else Err UnknownNode) named ∙ ap of_node taken)
