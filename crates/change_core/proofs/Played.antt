-- What a read gives, where a changed run has an order, and copies of its steps.
use Rattle.std.proofs.Common.{◌≡◌, ℕ, zero, suc, ◌+◌, ◌<◌, ◌≤◌, false, List, [], ◌∷◌, ◌++◌, length, nat_lt, drop, append_assoc, append-nil, get_or, slice_get, slice_index_or, Option, Some, None, refl, sym, ap, ◌∙◌, arith}
use Rattle.std.proofs.lemmas.Bool.{ltb-false}
use Rattle.std.proofs.lemmas.List.{drop_all}
use Rattle.std.proofs.lemmas.Option.{slice_get_past}
use Rattle.journal_core.specs.Journals.{Kept}
use Rattle.node_core.specs.Nodes.{Node}
use Rattle.bench_core.specs.Benches.{IsNodeOf}
use Rattle.bench_core.specs.Machine.{Machine}
use Rattle.order_core.specs.declared.mark.Mark.{Mark}
use Rattle.order_core.specs.Marks as marks
use Rattle.order_core.specs.Orders.{order_of}
use Rattle.order_core.specs.Marks.{AreMarks, AreMarksOf}
use Rattle.order_core.proofs.Marks.{marks_hold}
use Rattle.order_core.proofs.Places.{from_on}
use Rattle.change_core.specs.declared.change.Change.{Change}
use Rattle.change_core.specs.Changes.{changed}
use Rattle.change_core.specs.Marked.{changed_marks, steps_at, with_step}
use Rattle.change_core.specs.Questions.{Question, rows_at, rows_in, rows_of}
use Rattle.change_core.specs.Ends.{rows_before}
use Rattle.change_core.proofs.Marks.{changed_are, steps_are}

-- what a read at a place gives
pub read_at : {X : Type 0} (xs : List X) (i : ℕ) (x : X) → i < length xs → x ≡ get_or xs i x → slice_get xs i ≡ Some x
read_at [] i x lt h = absurd (omega (arith, lt))
read_at (y ∷ xs) zero x lt h = ap Some (sym h)
read_at (y ∷ xs) (suc i) x lt h = read_at xs i x (omega (arith, lt)) h

-- one of a type that is copied
pub read_or : {X : Type 0} (xs : List X) (i : ℕ) (x : X) → i < length xs → slice_get xs i ≡ Some (slice_index_or xs i x)
read_or [] i x lt = absurd (omega (arith, lt))
read_or (y ∷ xs) zero x lt = refl
read_or (y ∷ xs) (suc i) x lt = read_or xs i x (omega (arith, lt))

pub nothing_read : {X : Type 0} (xs : List X) (i : ℕ) → nat_lt i (length xs) ≡ false → slice_get xs i ≡ None
nothing_read xs i h = slice_get_past xs i (ltb-false i (length xs) h)

-- where a changed run leads, by its marks

no_order : (all : List Kept) (o : Option (List Mark)) (p : Option (List Kept)) → AreMarksOf all o p → o ≡ None → p ≡ None
no_order all None None h is = refl
no_order all None (Some ks) h is = absurd h
no_order all (Some ms) p h is = absurd (cc)

an_order : (all : List Kept) (o : Option (List Mark)) (p : Option (List Kept)) (ms : List Mark) → AreMarksOf all o p → o ≡ Some ms → p ≡ Some (steps_at all ms)
an_order all None p ms h is = absurd (cc)
an_order all (Some ns) None ms h is = absurd h
an_order all (Some ns) (Some ks) ms h is = let same : ns ≡ ms = cc in ap Some (sym (steps_are all ns ks h) ∙ ap (steps_at all) same)

pub no_order_of : (ks : List Kept) (c : Change) → marks.order_of_marks (changed_marks ks c) ≡ None → None ≡ order_of (changed ks c)
no_order_of ks c none = sym (no_order ks _ (order_of (changed ks c)) (marks_hold ks (changed ks c) (changed_marks ks c) (changed_are ks c)) none)

pub an_order_of : (ks : List Kept) (c : Change) (run : List Mark) → marks.order_of_marks (changed_marks ks c) ≡ Some run → order_of (changed ks c) ≡ Some (steps_at ks run)
an_order_of ks c run some = an_order ks _ (order_of (changed ks c)) run (marks_hold ks (changed ks c) (changed_marks ks c) (changed_are ks c)) some

pub before_is : (m : Machine) (q : Question) (o : Option Node) → IsNodeOf m q.node o → rows_in q.topic q.key o ≡ rows_before m q
unfolding rows_at
before_is m q o h = ap (rows_in q.topic q.key) h.2 ∙ sym (ap (rows_of q) h.1)

-- copies of the steps at marks

pub none_copied : (steps : List Kept) (ms : List Mark) (new : List Kept) → new ≡ [] → new ++ steps_at steps (drop 0 ms) ≡ steps_at steps ms
none_copied steps ms new is = ap (λ (l : List Kept). l ++ steps_at steps ms) is

with_behind : (o : Option Kept) (ks : List Kept) → with_step o ks ≡ with_step o [] ++ ks
with_behind None ks = refl
with_behind (Some k) ks = refl

pub copied_more : (steps : List Kept) (ms : List Mark) (i : ℕ) (m : Mark) (now new : List Kept) → slice_get ms i ≡ Some m →
    new ≡ now ++ with_step (slice_get steps m.place) [] → now ++ steps_at steps (drop i ms) ≡ steps_at steps ms → new ++ steps_at steps (drop (i + 1) ms) ≡ steps_at steps ms
unfolding steps_at
copied_more steps ms i m now new at is so_far =
    ap (λ (l : List Kept). l ++ steps_at steps (drop (i + 1) ms)) is
    ∙ append_assoc now (with_step (slice_get steps m.place) []) (steps_at steps (drop (i + 1) ms))
    ∙ ap (λ (l : List Kept). now ++ l) (sym (with_behind (slice_get steps m.place) (steps_at steps (drop (i + 1) ms))))
    ∙ ap (λ (l : List Mark). now ++ steps_at steps l) (sym (from_on ms i m at)) ∙ so_far

pub all_copied : (steps : List Kept) (ms : List Mark) (i : ℕ) (now : List Kept) → length ms ≤ i → now ++ steps_at steps (drop i ms) ≡ steps_at steps ms → now ≡ steps_at steps ms
unfolding steps_at
all_copied steps ms i now le so_far = sym (append-nil now) ∙ ap (λ (l : List Mark). now ++ steps_at steps l) (sym (drop_all i ms le)) ∙ so_far
