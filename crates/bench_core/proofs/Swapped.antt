-- Independent adjacent steps may be exchanged in a run.
use Rattle.std.proofs.Common.{Option, zero, None, option_map, if◌then◌else◌, cond, ◌≡◌, ◌≢◌, ℕ, suc, ◌+◌, ◌==◌, ◌&&◌, not, Bool, true, false}
use Rattle.std.proofs.Common.{List, [], ◌∷◌, ◌++◌, length, set, slice_get, Some, Result, Ok, Err, refl, sym, ap, ◌∙◌, subst, subst₂, append-nil, append_assoc}
use Rattle.std.proofs.lemmas.Bool.{and_parts, not-true, eqb-false, eqb-true, ne_eqb}
use Rattle.std.proofs.lemmas.List.Elements.{filter-append}
use Rattle.payload_core.specs.Messages.{Message, numbered}
use Rattle.replica_core.specs.declared.node_limits.NodeLimits.{NodeLimits}
use Rattle.node_core.specs.Operations.{Operation, delivers, sends}
use Rattle.node_core.specs.Nodes.{Node}
use Rattle.journal_core.specs.Journals.{Kept, sent_by, sender_of, source_at, is_number, delivers_from}
use Rattle.bench_core.specs.declared.fault.Fault.{Fault}
use Rattle.bench_core.specs.Clusters.{Cluster, opening_of, message_for, step}
use Rattle.bench_core.specs.Runs.{then_runs, runs}
use Rattle.bench_core.specs.Swaps.{are_independent, unnumbered, AreEquivalent, Alike, Swap, exchange, exchanged, swapped, unless_bad, after_swaps}
use Rattle.bench_core.specs.Laws.{SwapLaw, PlacesLaw}
use Rattle.bench_core.proofs.Clusters.{ReadAlike, set-set_other, mapped, mapped_ok, ReadsAlike, message-set, step-set, stepped}
use Rattle.bench_core.proofs.Taken.{Posts, posts}
use Rattle.bench_core.proofs.Runs.{runs_append, runs_split, run_one, outbox_counts, sender_there, reads_alike}
use Rattle.bench_core.proofs.Answers.{bind_ok}

-- a run depends on nodes and steps alone

unnumbered_head : (k j : Kept) (ks js : List Kept) → unnumbered (k ∷ ks) ≡ unnumbered (j ∷ js) →
    (k.node ≡ j.node) × (k.step ≡ j.step) × (unnumbered ks ≡ unnumbered js)
unnumbered_head k j ks js h =
    let head : ◌≡◌ {A = ℕ × Operation} (k.node, k.step) (j.node, j.step) = cc in
    (ap (λ (m : ℕ × Operation). m.0) head, ap (λ (m : ℕ × Operation). m.1) head, cc)

pub runs_unnumbered : (r : Result Cluster Fault) (ks js : List Kept) → unnumbered ks ≡ unnumbered js → then_runs r ks ≡ then_runs r js
runs_unnumbered (Err e) ks js h = refl
runs_unnumbered (Ok c) [] [] h = refl
runs_unnumbered (Ok c) [] (j ∷ js) h = absurd (cc)
runs_unnumbered (Ok c) (k ∷ ks) [] h = absurd (cc)
runs_unnumbered (Ok c) (k ∷ ks) (j ∷ js) h =
    let parts = unnumbered_head k j ks js h in
    runs_unnumbered (step c k.node k.step) ks js parts.2
    ∙ subst₂ (λ n s. then_runs (step c k.node k.step) js ≡ then_runs (step c n s) js) parts.0 parts.1 refl

-- two steps of different nodes, neither of which reads what the other posts
steps_exchanged : (c d : Cluster) (a b : Kept) (rest : List Kept) → a.node ≢ b.node →
    ((x y : Node) → slice_get c a.node ≡ Some x → Posts (sends a.step) x.outbox y.outbox → ReadsAlike a.node y.outbox x.outbox b.step) →
    ((x y : Node) → slice_get c b.node ≡ Some x → Posts (sends b.step) x.outbox y.outbox → ReadsAlike b.node y.outbox x.outbox a.step) →
    then_runs (Ok c) (a ∷ b ∷ rest) ≡ Ok d → then_runs (Ok c) (b ∷ a ∷ rest) ≡ Ok d
steps_exchanged c d a b rest other for_b for_a run =
    let one = run_one c d a (b ∷ rest) run in
    let two = run_one one.0 d b rest one.2 in
    let at = stepped c a.node a.step one.0 one.1 in
    let reads_b = for_b at.from at.to at.at (posts at.from a.step (message_for c a.step) at.to at.taken) in
    let late : step (set c a.node at.to) b.node b.step ≡ mapped (λ e. set e a.node at.to) (step c b.node b.step) =
    step-set c a.node b.node at.to b.step (λ e. other (sym e)) (message-set c a.node at.from at.to b.step at.at reads_b) in
    let early =
    mapped_ok (λ e. set e a.node at.to) (step c b.node b.step) two.0 (sym late ∙ ap (λ e. step e b.node b.step) (sym at.gives) ∙ two.1) in
    let first = stepped c b.node b.step early.0 early.1 in
    let reads_a = for_a first.from first.to first.at (posts first.from b.step (message_for c b.step) first.to first.taken) in
    let then_a : step (set c b.node first.to) a.node a.step ≡ mapped (λ e. set e b.node first.to) (step c a.node a.step) =
    step-set c b.node a.node first.to a.step other (message-set c b.node first.from first.to a.step first.at reads_a) in
    let ends : set one.0 b.node first.to ≡ two.0 =
    ap (λ (e : Cluster). set e b.node first.to) at.gives ∙ set-set_other c a.node b.node at.to first.to (λ e. other (sym e))
    ∙ ap (λ (e : Cluster). set e a.node at.to) (sym first.gives) ∙ early.2 in
    ap (λ r. then_runs r (a ∷ rest)) (early.1 ∙ ap Ok first.gives)
    ∙ ap (λ r. then_runs r rest) (then_a ∙ ap (mapped (λ e. set e b.node first.to)) one.1 ∙ ap Ok ends)
    ∙ two.2

reads_back_at : (n : ℕ) (xs ys : List Message) (o : Option (ℕ × ℕ)) → ReadAlike n xs ys o → ReadAlike n ys xs o
reads_back_at n xs ys (Some m) h = λ e. sym (h e)
reads_back_at n xs ys None h = tt

reads_back : (n : ℕ) (xs ys : List Message) (s : Operation) → ReadsAlike n xs ys s → ReadsAlike n ys xs s
reads_back n xs ys s h = reads_back_at n xs ys (delivers s) h

-- an independent pair, in words

pub record Pair (ks : List Kept) (a b : Kept) : Type 0 where
  pub other : a.node ≢ b.node
  pub a_free : delivers_from ks a b ≡ false
  pub b_free : delivers_from ks b a ≡ false

pub pair_of : (ks : List Kept) (a b : Kept) → are_independent ks a b ≡ true → Pair ks a b
pair_of ks a b h =
    let outer = and_parts (not (a.node == b.node)) (not (delivers_from ks a b) && not (delivers_from ks b a)) h in
    let inner = and_parts (not (delivers_from ks a b)) (not (delivers_from ks b a)) outer.1 in
    record { other = eqb-false a.node b.node (not-true _ outer.0); a_free = not-true _ inner.0; b_free = not-true _ inner.1 }

pair_gives : (ks : List Kept) (a b : Kept) → Pair ks a b → are_independent ks a b ≡ true
pair_gives ks a b p = rw (ne_eqb a.node b.node p.other, p.a_free, p.b_free) refl

-- the two are of different nodes, so each node sends the same in either order

sent_two : (n : ℕ) (a b : Kept) (rest : List Kept) → a.node ≢ b.node → sent_by (a ∷ b ∷ rest) n ≡ sent_by (b ∷ a ∷ rest) n
sent_two n a b rest other = go (a.node == n) (b.node == n) refl refl
  where
    go : (p q : Bool) → (a.node == n) ≡ p → (b.node == n) ≡ q →
        cond (p && sends a.step) (a ∷ cond (q && sends b.step) (b ∷ sent_by rest n) (sent_by rest n))
        (cond (q && sends b.step) (b ∷ sent_by rest n) (sent_by rest n))
        ≡ cond (q && sends b.step) (b ∷ cond (p && sends a.step) (a ∷ sent_by rest n) (sent_by rest n))
        (cond (p && sends a.step) (a ∷ sent_by rest n) (sent_by rest n))
    go false q ep eq = refl
    go true false ep eq = refl
    go true true ep eq = absurd (other (eqb-true a.node n ep ∙ sym (eqb-true b.node n eq)))

sent_swapped : (first rest : List Kept) (a b : Kept) (n : ℕ) → a.node ≢ b.node →
    sent_by (first ++ a ∷ b ∷ rest) n ≡ sent_by (first ++ b ∷ a ∷ rest) n
sent_swapped first rest a b n other =
    filter-append (λ k. (k.node == n) && sends k.step) first (a ∷ b ∷ rest)
    ∙ ap (λ (l : List Kept). sent_by first n ++ l) (sent_two n a b rest other)
    ∙ sym (filter-append (λ k. (k.node == n) && sends k.step) first (b ∷ a ∷ rest))

pub source_swapped : (first rest : List Kept) (a b : Kept) (o : Option (ℕ × ℕ)) → a.node ≢ b.node →
    source_at (first ++ a ∷ b ∷ rest) o ≡ source_at (first ++ b ∷ a ∷ rest) o
source_swapped first rest a b (Some m) other =
    ap (λ (l : List Kept). option_map (λ (k : Kept). k.number) (numbered l m.1)) (sent_swapped first rest a b m.0 other)
source_swapped first rest a b None other = refl

back : (first rest : List Kept) (a b : Kept) → are_independent (first ++ a ∷ b ∷ rest) a b ≡ true →
    are_independent (first ++ b ∷ a ∷ rest) b a ≡ true
back first rest a b h =
    let p = pair_of (first ++ a ∷ b ∷ rest) a b h in
    pair_gives (first ++ b ∷ a ∷ rest) b a (record {
      other = λ e. p.other (sym e);
      a_free = ap (λ o. is_number o a.number) (sym (source_swapped first rest a b (delivers b.step) p.other)) ∙ p.b_free;
      b_free = ap (λ o. is_number o b.number) (sym (source_swapped first rest a b (delivers a.step) p.other)) ∙ p.a_free;
    })

-- one swap

not_sent : (first : List Kept) (a : Kept) (n : ℕ) → a.node ≢ n → sent_by (first ++ a ∷ []) n ≡ sent_by first n
not_sent first a n other =
    filter-append (λ k. (k.node == n) && sends k.step) first (a ∷ [])
    ∙ ap (λ (b : Bool). sent_by first n ++ cond (b && sends a.step) (a ∷ []) []) (ne_eqb a.node n other)
    ∙ append-nil (sent_by first n)

one_swap : (l : NodeLimits) (count : ℕ) (first rest : List Kept) (a b : Kept) (d : Cluster) →
    are_independent (first ++ a ∷ b ∷ rest) a b ≡ true →
    runs l count (first ++ a ∷ b ∷ rest) ≡ Ok d → runs l count (first ++ b ∷ a ∷ rest) ≡ Ok d
one_swap l count first rest a b d free run =
    let ks = first ++ a ∷ b ∷ rest in
    let p = pair_of ks a b free in
    let parts = runs_split (Ok (opening_of l count)) first (a ∷ b ∷ rest) d run in
    let c = parts.0 in
    let for_b : (x y : Node) → slice_get c a.node ≡ Some x → Posts (sends a.step) x.outbox y.outbox →
    ReadsAlike a.node y.outbox x.outbox b.step =
    λ x y at post.
    let source : sends a.step ≡ true → sender_of ks a.node (suc (length x.outbox)) ≡ Some a.number =
    λ h. subst (λ m. sender_of ks a.node (suc m) ≡ Some a.number) (sym (outbox_counts l count first c a.node x parts.1 at))
    (sender_there first (b ∷ rest) a h) in
    reads_back a.node x.outbox y.outbox b.step (reads_alike ks a x.outbox y.outbox b.step source post p.b_free) in
    let for_a : (x y : Node) → slice_get c b.node ≡ Some x → Posts (sends b.step) x.outbox y.outbox →
    ReadsAlike b.node y.outbox x.outbox a.step =
    λ x y at post.
    let counted : length x.outbox ≡ length (sent_by (first ++ a ∷ []) b.node) =
    outbox_counts l count first c b.node x parts.1 at ∙ ap (λ (l : List Kept). length l) (sym (not_sent first a b.node p.other)) in
    let source : sends b.step ≡ true → sender_of ks b.node (suc (length x.outbox)) ≡ Some b.number =
    λ h. subst₂ (λ js m. sender_of js b.node (suc m) ≡ Some b.number) (append_assoc first (a ∷ []) (b ∷ rest)) (sym counted)
    (sender_there (first ++ a ∷ []) rest b h) in
    reads_back b.node x.outbox y.outbox a.step (reads_alike ks b x.outbox y.outbox a.step source post p.a_free) in
    runs_append (Ok (opening_of l count)) first (b ∷ a ∷ rest)
    ∙ ap (λ r. then_runs r (b ∷ a ∷ rest)) parts.1
    ∙ steps_exchanged c d a b rest p.other for_b for_a parts.2

pub swap_holds : SwapLaw
swap_holds l count ks js (Alike _ _ same) c =
    let e = runs_unnumbered (Ok (opening_of l count)) ks js same in
    ((λ h. sym e ∙ h), (λ h. e ∙ h))
swap_holds l count _ js (Swap first rest _ a b free more) c =
    let later = swap_holds l count (first ++ b ∷ a ∷ rest) js more c in (
      (λ h. later.0 (one_swap l count first rest a b c free h)),
      (λ h. one_swap l count first rest b a c (back first rest a b free) (later.1 h)),
    )

-- swaps by place

pub record TwoAt {X : Type 0} (xs : List X) (i : ℕ) (x y : X) : Type 0 where
  pub first : List X
  pub rest : List X
  pub from : xs ≡ first ++ x ∷ y ∷ rest
  pub to : set (set xs i y) (suc i) x ≡ first ++ y ∷ x ∷ rest

pub two_at : {X : Type 0} (xs : List X) (i : ℕ) (x y : X) → slice_get xs i ≡ Some x → slice_get xs (suc i) ≡ Some y → TwoAt xs i x y
two_at [] i x y at next = absurd (cc)
two_at (z ∷ []) zero x y at next = absurd (cc)
two_at (z ∷ w ∷ xs) zero x y at next =
    record { first = []; rest = xs; from = cc; to = refl }
two_at (z ∷ xs) (suc i) x y at next =
    let more = two_at xs i x y at next in
    record { first = z ∷ more.first; rest = more.rest; from = ap (λ (l : List _). z ∷ l) more.from; to = ap (λ (l : List _). z ∷ l) more.to }

-- the parts of an exchange
pub record IsExchange {X : Type 0} (may : X → X → Bool) (xs : List X) (place : ℕ) (ys : List X) : Type 0 where
  pub i : ℕ
  pub x : X
  pub y : X
  pub is_place : place ≡ suc i
  pub at : slice_get xs i ≡ Some x
  pub next : slice_get xs (suc i) ≡ Some y
  pub free : may x y ≡ true
  pub gives : ys ≡ set (set xs i y) (suc i) x

pub is_exchange : {X : Type 0} (may : X → X → Bool) (xs : List X) (place : ℕ) (ys : List X) → exchanged may xs place ≡ Some ys →
    IsExchange may xs place ys
is_exchange may xs zero ys h = absurd (cc)
is_exchange may xs (suc i) ys h = go (slice_get xs i) (slice_get xs (suc i)) refl refl h
  where
    go : (o u : Option _) → slice_get xs i ≡ o → slice_get xs (suc i) ≡ u → exchange may xs i o u ≡ Some ys → IsExchange may xs (suc i) ys
    go None u at next h = absurd (cc)
    go (Some x) None at next h = absurd (cc)
    go (Some x) (Some y) at next h = tested (may x y) refl h
      where
        tested : (b : Bool) → may x y ≡ b → (if b then Some (set (set xs i y) (suc i) x) else None) ≡ Some ys → IsExchange may xs (suc i) ys
        tested true free h = record { i = i; x = x; y = y; is_place = refl; at = at; next = next; free = free; gives = cc }
        tested false free h = absurd (cc)

-- a swap, then more
equivalent_swap : (ks mid js : List Kept) (place : ℕ) → swapped ks place ≡ Some mid → AreEquivalent mid js → AreEquivalent ks js
equivalent_swap ks mid js place h more =
    let e = is_exchange (are_independent ks) ks place mid h in
    let two = two_at ks e.i e.x e.y e.at e.next in
    subst (λ (ks : List Kept). AreEquivalent ks js) (sym two.from)
    (Swap two.first two.rest js e.x e.y (subst (λ (ks : List Kept). are_independent ks e.x e.y ≡ true) two.from e.free)
    (subst (λ (l : List Kept). AreEquivalent l js) (e.gives ∙ two.to) more))

unless_bad_ok : {X : Type 0} (at : ℕ) (o : Option X) (x : X) → unless_bad at o ≡ Ok x → o ≡ Some x
unless_bad_ok at None x h = absurd (cc)
unless_bad_ok at (Some y) x h = cc

equivalent_after : (at : ℕ) (ks js other : List Kept) (places : List ℕ) → after_swaps swapped at ks places ≡ Ok js →
    unnumbered js ≡ unnumbered other → AreEquivalent ks other
equivalent_after at ks js other [] h same = Alike ks other (ap unnumbered (let e : ks ≡ js = cc in e) ∙ same)
equivalent_after at ks js other (place ∷ places) h same =
    let mid = bind_ok (unless_bad at (swapped ks place)) (λ next. after_swaps swapped (at + 1) next places) js h in
    equivalent_swap ks mid.0 other place (unless_bad_ok at (swapped ks place) mid.0 mid.1)
    (equivalent_after (at + 1) mid.0 js other places mid.2 same)

pub places_hold : PlacesLaw
places_hold ks js other places h same = equivalent_after 1 ks js other places h same
