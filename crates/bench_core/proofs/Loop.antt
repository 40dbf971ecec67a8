-- The remaining steps of a run stand in order, and a step at the end of a journal can be taken out again.
use Rattle.std.proofs.Common.{◌≡◌, ℕ, zero, suc, List, [], ◌∷◌, ◌++◌, length, slice_get, Option, Some, None, option_map, option_and_then, Ok, refl, sym, ap}
use Rattle.std.proofs.Common.{◌∙◌, subst, arith, append_assoc}
use Rattle.std.proofs.lemmas.Bool.{ne_eqb, eq-eqb}
use Rattle.replica_core.specs.declared.node_limits.NodeLimits.{NodeLimits}
use Rattle.payload_core.specs.Messages.{numbered}
use Rattle.node_core.specs.Operations.{delivers}
use Rattle.node_core.specs.Nodes.{Node}
use Rattle.journal_core.specs.Journals.{Kept, NumbersRise, AreBelow, IsSentBefore, AreSentBefore, AreInCausalOrder, sent_by, is_consequence, find_number}
use Rattle.journal_core.specs.Journals.{first_number, without}
use Rattle.journal_core.specs.Holdings.{HasSender}
use Rattle.journal_core.proofs.Each.{first_none}
use Rattle.journal_core.proofs.Rising.{below_part}
use Rattle.journal_core.proofs.Senders.{none_up_to, sent_at_end}
use Rattle.bench_core.specs.Clusters.{Cluster, opening_of, outbox_of, message_at, message_for, step}
use Rattle.bench_core.specs.Runs.{then_runs, runs}
use Rattle.bench_core.specs.Laws.{LoopLaw}
use Rattle.bench_core.proofs.Clusters.{stepped}
use Rattle.bench_core.proofs.Taken.{WasRead, was_read}
use Rattle.bench_core.proofs.Runs.{runs_append, run_one, outbox_counts}

-- what is delivered was sent by a remaining step

get_alike : {A B : Type 0} (xs : List A) (ys : List B) (p : ℕ) (x : A) → length xs ≡ length ys → slice_get xs p ≡ Some x →
    (y : B) × (slice_get ys p ≡ Some y)
get_alike [] ys p x same h = absurd (cc)
get_alike (z ∷ xs) [] p x same h = absurd (omega arith)
get_alike (z ∷ xs) (w ∷ ys) zero x same h = (w, refl)
get_alike (z ∷ xs) (w ∷ ys) (suc p) x same h = get_alike xs ys p x (omega arith) h

pub has_sender : (l : NodeLimits) (count : ℕ) (ks : List Kept) (c : Cluster) (o : Option (ℕ × ℕ)) → runs l count ks ≡ Ok c →
    WasRead o (message_at c o) → HasSender ks o
has_sender l count ks c None run read = tt
has_sender l count ks c (Some (sender, p)) run read = go (slice_get c sender) p refl read.1
  where
    go : (o : Option Node) (p : ℕ) → slice_get c sender ≡ o → numbered (outbox_of o) p ≡ Some read.0 → HasSender ks (Some (sender, p))
    go o zero at is = absurd (cc)
    go None (suc p) at is = absurd (cc)
    go (Some x) (suc p) at is =
        let k = get_alike x.outbox (sent_by ks sender) p read.0 (outbox_counts l count ks c sender x run at) is in
        (k.0.number, ap (option_map (λ (k : Kept). k.number)) k.1)

-- no delivery stands before the step that sent its message

run_push : (l : NodeLimits) (count : ℕ) (ks : List Kept) (k : Kept) (b c : Cluster) → runs l count ks ≡ Ok b → step b k.node k.step ≡ Ok c →
    runs l count (ks ++ k ∷ []) ≡ Ok c
run_push l count ks k b c run taken =
    runs_append (Ok (opening_of l count)) ks (k ∷ []) ∙ ap (λ r. then_runs r (k ∷ [])) run ∙ ap (λ r. then_runs r []) taken

sent_before : (l : NodeLimits) (count : ℕ) (ks first rest : List Kept) (b c : Cluster) → ks ≡ first ++ rest → NumbersRise 0 ks →
    runs l count first ≡ Ok b → then_runs (Ok b) rest ≡ Ok c → AreSentBefore ks rest
sent_before l count ks first [] b c is rises run more = tt
sent_before l count ks first (j ∷ rest) b c is rises run more =
    let one = run_one b c j rest more in
    let at = stepped b j.node j.step one.0 one.1 in
    let sender = has_sender l count first b (delivers j.step) run (was_read at.from j.step (message_for b j.step) at.to at.taken) in
    let low = (below_part 0 first rest j (subst (NumbersRise 0) is rises)).1 in (
      subst (λ ks. IsSentBefore ks j.number (delivers j.step)) (sym is)
          (sent_at_end first (j ∷ rest) j.number (delivers j.step) low sender),
      sent_before l count ks (first ++ j ∷ []) rest one.0 c (is ∙ sym (append_assoc first (j ∷ []) rest)) rises
          (run_push l count first j b one.0 run one.1) one.2,
    )

pub in_order : (l : NodeLimits) (count : ℕ) (ks : List Kept) (c : Cluster) → NumbersRise 0 ks → runs l count ks ≡ Ok c → AreInCausalOrder ks
in_order l count ks c rises run = (rises, sent_before l count ks [] ks (opening_of l count) c refl rises refl run)

-- a step at the end

pub find_last : (n : ℕ) (ks : List Kept) (k : Kept) → k.number ≡ n → AreBelow n ks → find_number (ks ++ k ∷ []) n ≡ Some k
find_last n [] k is low = rw (eq-eqb k.number n is) refl
find_last n (j ∷ ks) k is low = rw (ne_eqb j.number n (λ e. omega arith)) (find_last n ks k is low.1)

without_last : (n : ℕ) (ks : List Kept) (k : Kept) → k.number ≡ n → AreBelow n ks → without (ks ++ k ∷ []) n ≡ ks
without_last n [] k is low = rw (eq-eqb k.number n is) refl
without_last n (j ∷ ks) k is low = rw (ne_eqb j.number n (λ e. omega arith)) (ap (λ (l : List Kept). j ∷ l) (without_last n ks k is low.1))

pub loop_holds : LoopLaw
loop_holds l count number node ks s c d rises run taken =
    let k : Kept = record { number = number; node = node; step = s } in
    let longer = ks ++ k ∷ [] in
    let low = (below_part 0 ks [] k rises).1 in
    let none = none_up_to longer ks [] k (in_order l count longer d rises (run_push l count ks k c d run taken)) refl in
    record {
      held =
          ap (option_and_then (λ j. first_number (is_consequence longer j) longer)) (find_last number ks k refl low)
          ∙ first_none (is_consequence longer k) longer none;
      out = without_last number ks k refl low;
    }
