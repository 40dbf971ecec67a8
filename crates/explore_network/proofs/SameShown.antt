-- The truth value whether two clusters show the same decides that they do.
use Rattle.std.proofs.Common.{◌≡◌, ◌&&◌, ℕ, Bool, true, false, Decides, List, [], ◌∷◌, map, slice_get, zero, suc, refl, sym, ap, ◌∙◌, subst, true≢false}
use Rattle.std.specs.Bool.{one_answer}
use Rattle.std.proofs.lemmas.Bool.{eq-eqb, eqb-true}
use Rattle.std.proofs.lemmas.Slice.Eq.{slice_eq-Decides}
use Rattle.std.specs.Ordering.{eq_by_cmp}
use Rattle.std.specs.Coded.{coded_list}
use base.Stored.{Gv, gnil, gnum, gcons}
use Rattle.replica_core.specs.Replicas.{Replica, replica_code}
use Rattle.node_core.specs.Nodes.{Node}
use Rattle.diff_core.specs.Rows.{Row, row_cmp}
use Rattle.diff_core.proofs.Order.{is_row-itself, is_row-true}
use Rattle.explore_network.specs.Questions.{replicas_in, Shown, Rows, Replicas}
use Rattle.explore_network.specs.SameShown.{same_code, same_replicas, same_rows, same_shown}
use Rattle.network_rules.proofs.Tests.{both_true}

code_itself : (a : Gv) → same_code a a ≡ true
code_itself gnil = refl
code_itself (gnum n) = eq-eqb n n refl
code_itself (gcons a b) = λ i. code_itself a i && code_itself b i

code_true : (a b : Gv) → same_code a b ≡ true → a ≡ b
code_true gnil gnil h = refl
code_true gnil (gnum m) h = absurd (true≢false (sym h))
code_true gnil (gcons c d) h = absurd (true≢false (sym h))
code_true (gnum n) gnil h = absurd (true≢false (sym h))
code_true (gnum n) (gnum m) h = ap gnum (eqb-true n m h)
code_true (gnum n) (gcons c d) h = absurd (true≢false (sym h))
code_true (gcons a b) gnil h = absurd (true≢false (sym h))
code_true (gcons a b) (gnum m) h = absurd (true≢false (sym h))
code_true (gcons a b) (gcons c d) h =
    let both = both_true (same_code a c) (same_code b d) h in
    let one = code_true a c both.0 in
    let two = code_true b d both.1 in
    λ i. gcons (one i) (two i)

same_replicas-Decides : (rs ss : List Replica) → Decides (same_replicas rs ss) (rs ≡ ss)
unfolding same_replicas
same_replicas-Decides rs ss = (
  λ h. (coded_list replica_code).inj rs ss (code_true ((coded_list replica_code).code rs) ((coded_list replica_code).code ss) h),
  λ e. ap (λ ss. same_code ((coded_list replica_code).code rs) ((coded_list replica_code).code ss)) (sym e) ∙ code_itself ((coded_list replica_code).code rs),
)

pub same_rows-Decides : (rows others : List Row) → Decides (same_rows rows others) (rows ≡ others)
same_rows-Decides rows others = slice_eq-Decides (λ a b. (is_row-true a b, λ e. subst (λ x. eq_by_cmp row_cmp a x ≡ true) e (is_row-itself a))) rows others
    (same_rows rows others) refl

rows_of : Shown → List Row
rows_of (Rows rows) = rows
rows_of (Replicas rs) = []

replicas_of : Shown → List Replica
replicas_of (Rows rows) = []
replicas_of (Replicas rs) = rs

are_rows : Shown → Bool
are_rows (Rows rows) = true
are_rows (Replicas rs) = false

pub same_shown-Decides : (s t : Shown) → Decides (same_shown s t) (s ≡ t)
unfolding rows_of replicas_of are_rows
same_shown-Decides (Rows rows) (Rows others) = let d = same_rows-Decides rows others in (λ h. ap Rows (d.0 h), λ e. d.1 (ap rows_of e))
same_shown-Decides (Rows rows) (Replicas ss) = (λ h. absurd (true≢false (sym h)), λ e. absurd (true≢false (ap are_rows e)))
same_shown-Decides (Replicas rs) (Rows others) = (λ h. absurd (true≢false (sym h)), λ e. absurd (true≢false (sym (ap are_rows e))))
same_shown-Decides (Replicas rs) (Replicas ss) = let d = same_replicas-Decides rs ss in (λ h. ap Replicas (d.0 h), λ e. d.1 (ap replicas_of e))

-- clusters that have the same replica at each place

pub all_replicas : (c d : List Node) → ((n : ℕ) → replicas_in (slice_get c n) ≡ replicas_in (slice_get d n)) → map (λ (x : Node). x.replica) c ≡ map (λ (x : Node). x.replica) d
all_replicas [] [] each = refl
all_replicas [] (y ∷ ys) each = absurd (let none : [] ≡ y.replica ∷ [] = each 0 in cc)
all_replicas (x ∷ xs) [] each = absurd (let none : x.replica ∷ [] ≡ [] = each 0 in cc)
all_replicas (x ∷ xs) (y ∷ ys) each =
    let one : x.replica ∷ [] ≡ y.replica ∷ [] = each 0 in
    let head : x.replica ≡ y.replica = cc in
    let tail = all_replicas xs ys (λ n. each (suc n)) in
    λ i. head i ∷ tail i

pub each_replica : (c d : List Node) → map (λ (x : Node). x.replica) c ≡ map (λ (x : Node). x.replica) d → (n : ℕ) → replicas_in (slice_get c n) ≡ replicas_in (slice_get d n)
each_replica [] [] e n = refl
each_replica [] (y ∷ ys) e n = absurd (cc)
each_replica (x ∷ xs) [] e n = absurd (cc)
each_replica (x ∷ xs) (y ∷ ys) e zero = let head : x.replica ≡ y.replica = cc in ap (λ (r : Replica). r ∷ []) head
each_replica (x ∷ xs) (y ∷ ys) e (suc n) = each_replica xs ys (let tail : map (λ (x : Node). x.replica) xs ≡ map (λ (x : Node). x.replica) ys = cc in tail) n

-- what decides the same is the same
pub same_decision : (s t : Shown) (b : Bool) → Decides b (s ≡ t) → same_shown s t ≡ b
same_decision s t b d = one_answer (same_shown s t) b (same_shown-Decides s t) d
