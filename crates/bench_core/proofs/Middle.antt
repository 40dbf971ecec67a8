-- A step without consequences can be left out of a run.
use Rattle.std.proofs.Common.{◌≡◌, ◌≢◌, ℕ, suc, ◌≤◌, ◌==◌, ◌&&◌, nat_lt, true, false, List, [], ◌∷◌, ◌++◌, length, set, slice_get, Some, option_map}
use Rattle.std.proofs.Common.{unwrap_or, Ok, refl, sym, ap, ◌∙◌, subst, subst₂, true≢false, arith, append_assoc, le_of_eq}
use Rattle.std.proofs.lemmas.Bool.{eq-eqb, or_parts, lt-ltb}
use Rattle.replica_core.specs.declared.node_limits.NodeLimits.{NodeLimits}
use Rattle.node_core.specs.Nodes.{Node}
use Rattle.journal_core.specs.Journals.{Kept, NumbersRise, sender_of, delivers_from, is_consequence, without, steps_before}
use Rattle.bench_core.specs.Clusters.{Cluster, opening_of, message_for}
use Rattle.node_core.specs.Operations.{sends}
use Rattle.bench_core.specs.Runs.{then_runs, runs}
use Rattle.bench_core.specs.Laws.{MiddleLaw}
use Rattle.bench_core.proofs.Clusters.{Stepped, ReadsAlike, get-set_same, set-get, set-set_same, mapped, stepped}
use Rattle.bench_core.proofs.Taken.{posts}
use Rattle.journal_core.proofs.Each.{NoneOf, each_rest, none_follows}
use Rattle.journal_core.proofs.Split.{Split, split}
use Rattle.bench_core.proofs.Runs.{runs_append, runs_split, run_one, outbox_counts, sender_there, reads_alike, Apart, run-set}

-- later steps that are no consequences of k stand apart from its node

abbrev ReadsOf : ℕ → Node → Node → Kept → Type 0
ReadsOf n y x j = ReadsAlike n y.outbox x.outbox j.step

apart : (ks : List Kept) (k : Kept) (x y : Node) (m : ℕ) (rest : List Kept) → k.number ≤ m → NumbersRise m rest →
    NoneOf (is_consequence ks k) rest →
    ((j : Kept) → delivers_from ks j k ≡ false → ReadsOf k.node y x j) → Apart k.node x y rest
apart ks k x y m [] low rises none reads = tt
apart ks k x y m (j ∷ rest) low rises none reads =
    let parts = or_parts ((k.node == j.node) && nat_lt k.number j.number) (delivers_from ks j k) none.0 in
    let later : nat_lt k.number j.number ≡ true = lt-ltb k.number j.number (omega arith) in
    let other : j.node ≢ k.node = λ e. true≢false (sym (rw (eq-eqb k.node j.node (sym e), later) refl) ∙ parts.0) in
    (other, (reads j parts.1, apart ks k x y j.number rest (omega arith) rises.1 none.1 reads))

-- the steps behind k, where nothing follows from it, stand apart from what it did
pub stands_apart : (l : NodeLimits) (count n : ℕ) (ks : List Kept) (k : Kept) (old b : Cluster) (s : Split ks n k) →
    runs l count (steps_before ks n) ≡ Ok old → (at : Stepped old k.node k.step b) →
    NoneOf (is_consequence ks k) ks → Apart k.node at.to at.from s.rest
stands_apart l count n ks k old b s first at none =
    let none_there = each_rest _ (steps_before ks n ++ k ∷ []) s.rest (subst (NoneOf (is_consequence ks k))
    (s.whole ∙ sym (append_assoc (steps_before ks n) (k ∷ []) s.rest)) none) in
    let counted = outbox_counts l count (steps_before ks n) old k.node at.from first at.at in
    let source : sends k.step ≡ true → sender_of ks k.node (suc (length at.from.outbox)) ≡ Some k.number =
    λ h. subst₂ (λ js m. sender_of js k.node (suc m) ≡ Some k.number) (sym s.whole) (sym counted)
    (sender_there (steps_before ks n) s.rest k h) in
    let reads : (j : Kept) → delivers_from ks j k ≡ false → ReadsOf k.node at.from at.to j =
    λ j h. reads_alike ks k at.from.outbox at.to.outbox j.step source (posts at.from k.step (message_for old k.step) at.to at.taken) h in
    apart ks k at.to at.from n s.rest (le_of_eq s.number) s.later none_there reads

pub left_out : (l : NodeLimits) (count n : ℕ) (ks : List Kept) (k : Kept) (old b c : Cluster) (s : Split ks n k) →
    runs l count (steps_before ks n) ≡ Ok old → (at : Stepped old k.node k.step b) → then_runs (Ok b) s.rest ≡ Ok c →
    Apart k.node at.to at.from s.rest → runs l count (without ks n) ≡ Ok (set c k.node at.from)
left_out l count n ks k old b c s first at rest far =
    let has : slice_get b k.node ≡ Some at.to = ap (λ (d : Cluster). slice_get d k.node) at.gives
    ∙ get-set_same old k.node at.from at.to at.at in
    let same : set b k.node at.from ≡ old = ap (λ (d : Cluster). set d k.node at.from) at.gives ∙ set-set_same old k.node at.to at.from
    ∙ set-get old k.node at.from at.at in
    ap (λ (js : List Kept). runs l count js) s.out
    ∙ runs_append (Ok (opening_of l count)) (steps_before ks n) s.rest
    ∙ ap (λ r. then_runs r s.rest) (first ∙ ap Ok (sym same))
    ∙ run-set (Ok b) k.node at.to at.from s.rest has far
    ∙ ap (mapped (λ d. set d k.node at.from)) rest

pub middle_holds : MiddleLaw
middle_holds l count n ks k c rises run found free =
    let s = split 0 ks n k rises found in
    let whole : runs l count (steps_before ks n ++ k ∷ s.rest) ≡ Ok c = ap (λ (js : List Kept). runs l count js) (sym s.whole) ∙ run in
    let parts = runs_split (Ok (opening_of l count)) (steps_before ks n) (k ∷ s.rest) c whole in
    let one = run_one parts.0 c k s.rest parts.2 in
    let at = stepped parts.0 k.node k.step one.0 one.1 in
    let far = stands_apart l count n ks k parts.0 one.0 s parts.1 at (none_follows ks n k found free) in (
      parts.0,
      parts.1,
      left_out l count n ks k parts.0 one.0 c s parts.1 at one.2 far
          ∙ ap (λ o. Ok (unwrap_or (option_map (set c k.node) o) c)) (sym at.at),
    )
