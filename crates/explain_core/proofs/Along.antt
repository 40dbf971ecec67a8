-- A track, as far as the remaining steps were followed: how the dot stands at each node, and what each step did.
use Rattle.std.proofs.Common.{◌≡◌, ◌≢◌, ℕ, zero, suc, ◌==◌, ◌&&◌, Bool, true, false, cond, if◌then◌else◌, List, [], ◌∷◌, ◌++◌}
use Rattle.std.proofs.Common.{slice_get, Option, Some, None, option_map, Ok, refl, sym, ap, ◌∙◌, subst, append-nil}
use Rattle.std.proofs.lemmas.List.Elements.{All-head, All-tail, filter-append}
use Rattle.std.specs.List.{All}
use Rattle.std.specs.Prelude.{find}
use Rattle.dots_core.specs.declared.dot.Dot.{Dot}
use Rattle.node_core.specs.Nodes.{Node}
use Rattle.node_core.specs.Operations.{sends}
use Rattle.payload_core.specs.Messages.{Message, numbered}
use Rattle.journal_core.specs.Journals.{Kept, find_number, sent_by, sender_of}
use Rattle.journal_core.proofs.Numbered.{numbered_append}
use Rattle.bench_core.specs.Clusters.{Cluster, message_at, step}
use Rattle.bench_core.specs.Clusters.{outbox_of as messages_of}
use Rattle.bench_core.specs.Runs.{then_runs}
use Rattle.bench_core.proofs.Clusters.{get-set_other, stepped}
use Rattle.bench_core.proofs.Runs.{message_stays_at}
use Rattle.explain_core.specs.Standings.{outbox_of, standing_told}
use Rattle.explain_core.specs.declared.standing.Standing.{Standing}
use Rattle.explain_core.specs.declared.standing.Standing.TheVariants.{Unseen}

-- the steps up to some place, and one more

pub find_front : (ks js : List Kept) (n : ℕ) (k : Kept) → find_number ks n ≡ Some k → find_number (ks ++ js) n ≡ Some k
find_front [] js n k found = absurd (cc)
find_front (x ∷ ks) js n k found = go (x.number == n) found (find_front ks js n k)
  where
    go : (b : Bool) → (if b then Some x else find_number ks n) ≡ Some k → (find_number ks n ≡ Some k → find_number (ks ++ js) n ≡ Some k) →
        (if b then Some x else find_number (ks ++ js) n) ≡ Some k
    go true found more = found
    go false found more = more found

pub sent_push : (first : List Kept) (k : Kept) (n : ℕ) → sent_by (first ++ k ∷ []) n ≡ sent_by first n ++ cond ((k.node == n) && sends k.step) (k ∷ []) []
sent_push first k n = filter-append (λ j. (j.node == n) && sends j.step) first (k ∷ [])

-- a step that doesn't send for this node
pub sent_apart : (first : List Kept) (k : Kept) (n : ℕ) → ((k.node == n) && sends k.step) ≡ false → sent_by (first ++ k ∷ []) n ≡ sent_by first n
sent_apart first k n is =
    sent_push first k n ∙ ap (λ (b : Bool). sent_by first n ++ cond b (k ∷ []) []) is ∙ append-nil (sent_by first n)

pub sender_apart : (first : List Kept) (k : Kept) (n p : ℕ) → ((k.node == n) && sends k.step) ≡ false →
    sender_of (first ++ k ∷ []) n p ≡ sender_of first n p
sender_apart first k n p is = ap (λ (ks : List Kept). option_map (λ (j : Kept). j.number) (numbered ks p)) (sent_apart first k n is)

pub some_mapped : {A B : Type 0} (f : A → B) (o : Option A) (y : B) → option_map f o ≡ Some y → (x : A) × (o ≡ Some x) × (f x ≡ y)
some_mapped f None y is = absurd (cc)
some_mapped f (Some x) y is = (x, refl, cc)

-- who sent a message stays, whatever steps follow
pub sender_stays : (first rest : List Kept) (n p number : ℕ) → sender_of first n p ≡ Some number → sender_of (first ++ rest) n p ≡ Some number
sender_stays first rest n p number is =
    let sent = some_mapped (λ (j : Kept). j.number) (numbered (sent_by first n) p) number is in
    ap (λ (ks : List Kept). option_map (λ (j : Kept). j.number) (numbered ks p)) (filter-append (λ (j : Kept). (j.node == n) && sends j.step) first rest)
    ∙ ap (option_map (λ (j : Kept). j.number)) (numbered_append (sent_by first n) (sent_by rest n) p sent.0 sent.1)
    ∙ ap Some sent.2

-- what a message of a cluster tells of the dot

abbrev pub told_in : Cluster → ℕ → ℕ → Dot → Standing
told_in c n p d = standing_told (outbox_of (slice_get c n) p) d

pub outbox_at : (o : Option Node) (p : ℕ) → outbox_of o p ≡ numbered (messages_of o) p
outbox_at None zero = refl
outbox_at None (suc p) = refl
outbox_at (Some node) p = refl

told_some : (o : Option Message) (d : Dot) → standing_told o d ≢ Unseen → (message : Message) × (o ≡ Some message)
told_some None d other = absurd (other refl)
told_some (Some message) d other = (message, refl)

-- it stays, once there is such a message
pub told_stays : (c next : Cluster) (k : Kept) (n p : ℕ) (d : Dot) (s : Standing) → step c k.node k.step ≡ Ok next → s ≢ Unseen → told_in c n p d ≡ s →
    told_in next n p d ≡ s
told_stays c next k n p d s taken other is =
    let there = told_some (outbox_of (slice_get c n) p) d (λ e. other (sym is ∙ e)) in
    let before : message_at c (Some (n, p)) ≡ Some there.0 = sym (outbox_at (slice_get c n) p) ∙ there.1 in
    let run : then_runs (Ok c) (k ∷ []) ≡ Ok next = ap (λ r. then_runs r []) taken in
    let after : message_at next (Some (n, p)) ≡ Some there.0 = message_stays_at c next (k ∷ []) (Some (n, p)) there.0 run before in
    ap (λ (o : Option Message). standing_told o d) (outbox_at (slice_get next n) p ∙ after)
    ∙ ap (λ (o : Option Message). standing_told o d) (sym there.1) ∙ is

-- nodes that the step leaves alone
pub node_apart : (c next : Cluster) (k : Kept) (n : ℕ) → step c k.node k.step ≡ Ok next → n ≢ k.node → slice_get next n ≡ slice_get c n
node_apart c next k n taken other =
    let s = stepped c k.node k.step next taken in
    ap (λ (d : Cluster). slice_get d n) s.gives ∙ get-set_other c k.node n s.to other

-- the first step that passes a test, and one more step

pub find_other : {A : Type 0} (test : A → Bool) (xs : List A) (y : A) → test y ≡ false → find test (xs ++ y ∷ []) ≡ find test xs
find_other test [] y is = ap (λ b. cond b (Some y) None) is
find_other test (x ∷ xs) y is = ap (λ o. cond (test x) (Some x) o) (find_other test xs y is)

pub find_new : {A : Type 0} (test : A → Bool) (xs : List A) (y : A) → find test xs ≡ None → test y ≡ true → find test (xs ++ y ∷ []) ≡ Some y
find_new test [] y none is = ap (λ b. cond b (Some y) None) is
find_new test (x ∷ xs) y none is = go (test x) none (λ none. find_new test xs y none is)
  where
    go : (b : Bool) → cond b (Some x) (find test xs) ≡ None → (find test xs ≡ None → find test (xs ++ y ∷ []) ≡ Some y) →
        cond b (Some x) (find test (xs ++ y ∷ [])) ≡ Some y
    go true none more = absurd (cc)
    go false none more = more none

pub find_each : {A : Type 0} (P : A → Type 0) (test : A → Bool) (xs : List A) (z : A) → All P xs → find test xs ≡ Some z → P z
find_each P test [] z all found = absurd (cc)
find_each P test (x ∷ xs) z all found = go (test x) found (λ found. find_each P test xs z (All-tail P x xs all) found)
  where
    go : (b : Bool) → cond b (Some x) (find test xs) ≡ Some z → (find test xs ≡ Some z → P z) → P z
    go true found more = let same : x ≡ z = cc in subst P same (All-head P x xs all)
    go false found more = more found

-- what was found passes
pub find_passes : {A : Type 0} (test : A → Bool) (xs : List A) (z : A) → find test xs ≡ Some z → test z ≡ true
find_passes test [] z found = absurd (cc)
find_passes test (x ∷ xs) z found = go (test x) refl found (λ found. find_passes test xs z found)
  where
    go : (b : Bool) → test x ≡ b → cond b (Some x) (find test xs) ≡ Some z → (find test xs ≡ Some z → test z ≡ true) → test z ≡ true
    go true is found more = let same : x ≡ z = cc in ap test (sym same) ∙ is
    go false is found more = more found
