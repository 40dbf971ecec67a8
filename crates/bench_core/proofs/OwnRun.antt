-- A node in a run is what its own steps make of it.
use Rattle.std.proofs.Common.{None, Option, ◌≡◌, ℕ, ◌==◌, Bool, true, false, cond, List, [], ◌∷◌, ◌++◌, set, slice_get, Some, Ok, refl, sym, ap, ◌∙◌, subst}
use Rattle.std.proofs.lemmas.Bool.{eqb-true, eqb-false}
use Rattle.node_core.specs.Operations.{Operation, delivers}
use Rattle.node_core.specs.Nodes.{Node, opening_node, take}
use Rattle.bench_core.specs.Clusters.{message_at, Cluster, message_for, opening_of}
use Rattle.journal_core.specs.Journals.{own_steps, Kept}
use Rattle.bench_core.specs.Runs.{then_runs}
use Rattle.bench_core.specs.Laws.{OwnRunLaw, own_run}
use Rattle.bench_core.proofs.Clusters.{get-set_same, get-set_other, Stepped, stepped}
use Rattle.bench_core.proofs.Taken.{WasRead, was_read}
use Rattle.bench_core.proofs.Runs.{runs_append, run_one, run_from_opening, message_stays_at}

-- a step that was accepted reads the same message at the end
message_same_at : (b c : Cluster) (ks : List Kept) (o : Option (ℕ × ℕ)) → WasRead o (message_at b o) → then_runs (Ok b) ks ≡ Ok c →
    message_at c o ≡ message_at b o
message_same_at b c ks None read run = refl
message_same_at b c ks (Some at) read run = message_stays_at b c ks (Some at) read.0 run read.1 ∙ sym read.1

message_same : (b c : Cluster) (ks : List Kept) (x y : Node) (s : Operation) → take x s (message_for b s) ≡ Ok y →
    then_runs (Ok b) ks ≡ Ok c → message_for c s ≡ message_for b s
message_same b c ks x y s taken run = message_same_at b c ks (delivers s) (was_read x s (message_for b s) y taken) run

own : (b c d : Cluster) (ks rest : List Kept) (n : ℕ) (x : Node) → then_runs (Ok b) ks ≡ Ok d → then_runs (Ok d) rest ≡ Ok c →
    slice_get b n ≡ Some x →
    (y : Node) × (slice_get d n ≡ Some y) × (own_run c (Ok x) (own_steps ks n) ≡ Ok y)
own b c d [] rest n x run more at = (x, subst (λ (d : Cluster). slice_get d n ≡ Some x) (cc) at, refl)
own b c d (k ∷ ks) rest n x run more at =
    let one = run_one b d k ks run in
    let s = stepped b k.node k.step one.0 one.1 in
    let whole : then_runs (Ok b) ((k ∷ ks) ++ rest) ≡ Ok c = runs_append (Ok b) (k ∷ ks) rest ∙ ap (λ r. then_runs r rest) run ∙ more in
    let message = message_same b c (k ∷ ks ++ rest) s.from s.to k.step s.taken whole in
    go one.0 s message (k.node == n) refl (λ z at. own one.0 c d ks rest n z one.2 more at)
  where
    go : (e : Cluster) (s : Stepped b k.node k.step e) → message_for c k.step ≡ message_for b k.step → (t : Bool) → (k.node == n) ≡ t →
        ((z : Node) → slice_get e n ≡ Some z → (y : Node) × (slice_get d n ≡ Some y) × (own_run c (Ok z) (own_steps ks n) ≡ Ok y)) →
        (y : Node) × (slice_get d n ≡ Some y) × (own_run c (Ok x) (cond t (k ∷ own_steps ks n) (own_steps ks n)) ≡ Ok y)
    go e s message true is more =
        let here : slice_get b n ≡ Some s.from = subst (λ m. slice_get b m ≡ Some s.from) (eqb-true k.node n is) s.at in
        let same : x ≡ s.from = cc in
        let there : slice_get e n ≡ Some s.to = ap (λ (e : Cluster). slice_get e n) s.gives
        ∙ subst (λ m. slice_get (set b m s.to) n ≡ Some s.to) (sym (eqb-true k.node n is)) (get-set_same b n s.from s.to here) in
        let later = more s.to there in
        let taken : take x k.step (message_for c k.step) ≡ Ok s.to =
        subst (λ (z : Node). take z k.step (message_for c k.step) ≡ Ok s.to) (sym same) (ap (take s.from k.step) message ∙ s.taken) in
        (later.0, later.1, ap (λ r. own_run c r (own_steps ks n)) taken ∙ later.2)
    go e s message false is more =
        more x (ap (λ (e : Cluster). slice_get e n) s.gives ∙ get-set_other b k.node n s.to (λ q. eqb-false k.node n is (sym q)) ∙ at)

pub own_run_holds : OwnRunLaw
own_run_holds l count n first rest old c node whole run at =
    let more : then_runs (Ok old) rest ≡ Ok c = sym (ap (λ r. then_runs r rest) run)
    ∙ sym (runs_append (Ok (opening_of l count)) first rest) ∙ whole in
    let o = own (opening_of l count) c old first rest n (opening_node n l) run more (run_from_opening l count first old n node run at) in
    let same : o.0 ≡ node = cc (o.1, at) in
    o.2 ∙ ap Ok same
