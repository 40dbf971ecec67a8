-- The marks of a changed run stand for its steps, and the steps at their places are these.
use Rattle.std.proofs.Common.{◌≡◌, ℕ, zero, suc, ◌+◌, ◌-◌, ◌<◌, ◌≤◌, List, [], ◌∷◌, ◌++◌, length, take, drop, slice_get, slice_range, Some, refl, sym, ap, ◌∙◌, subst, append_assoc, append-nil, arith}
use Rattle.std.specs.List.{flat_map}
use Rattle.journal_core.specs.Journals.{Kept}
use Rattle.order_core.specs.declared.mark.Mark.{Mark}
use Rattle.order_core.specs.Marks.{AreMarks}
use Rattle.order_core.proofs.Marks.{both}
use Rattle.order_core.proofs.Places.{from_on}
use Rattle.change_core.specs.declared.change.Change.{Change}
use Rattle.change_core.specs.Changes.{piece, pieces, changed}
use Rattle.change_core.specs.Marked.{mark_of, marked_from, marks_in, changed_marks, with_step, steps_at}

get_take : (xs : List Kept) (n d : ℕ) (k : Kept) → slice_get (take n xs) d ≡ Some k → slice_get xs d ≡ Some k
get_take xs zero d k h = absurd (cc)
get_take [] (suc n) d k h = absurd (cc)
get_take (x ∷ xs) (suc n) zero k h = h
get_take (x ∷ xs) (suc n) (suc d) k h = get_take xs n d k h

get_drop : (xs : List Kept) (i d : ℕ) (k : Kept) → slice_get (drop i xs) d ≡ Some k → slice_get xs (i + d) ≡ Some k
get_drop xs zero d k h = let same : d ≡ zero + d = omega arith in subst (λ n. slice_get xs n ≡ Some k) same h
get_drop [] (suc i) d k h = absurd (cc)
get_drop (x ∷ xs) (suc i) d k h =
    let same : suc (i + d) ≡ suc i + d = omega arith in subst (λ n. slice_get (x ∷ xs) n ≡ Some k) same (get_drop xs i d k h)

marked_are : (all xs : List Kept) (i : ℕ) → ((d : ℕ) (k : Kept) → slice_get xs d ≡ Some k → slice_get all (i + d) ≡ Some k) → AreMarks all (marked_from i xs) xs
marked_are all [] i at = tt
marked_are all (x ∷ xs) i at =
    let here : i + zero ≡ i = omega arith in (
      record { node = refl; delivers = refl; sends = refl; place = subst (λ n. slice_get all n ≡ Some x) here (at zero x refl) },
      marked_are all xs (suc i) (λ d k h. let next : i + suc d ≡ suc i + d = omega arith in subst (λ n. slice_get all n ≡ Some k) next (at (suc d) k h)),
    )

piece_are : (all : List Kept) (p : ℕ × ℕ) → AreMarks all (marks_in all p) (piece all p)
unfolding marks_in
piece_are all p =
    marked_are all (slice_range all p.0 p.1) p.0 (λ d k h. get_drop all p.0 d k (get_take (drop p.0 all) (p.1 - p.0) d k h))

pieces_are : (all : List Kept) (ps : List (ℕ × ℕ)) → AreMarks all (flat_map (marks_in all) ps) (flat_map (piece all) ps)
pieces_are all [] = tt
pieces_are all (p ∷ ps) =
    both all (marks_in all p) (flat_map (marks_in all) ps) (piece all p) (flat_map (piece all) ps) (piece_are all p) (pieces_are all ps)

pub changed_are : (all : List Kept) (c : Change) → AreMarks all (changed_marks all c) (changed all c)
unfolding changed_marks changed
changed_are all c = pieces_are all (pieces (length all) c.kind c.place c.beside)

pub steps_are : (all : List Kept) (ms : List Mark) (ks : List Kept) → AreMarks all ms ks → steps_at all ms ≡ ks
unfolding steps_at
steps_are all [] [] h = refl
steps_are all [] (k ∷ ks) h = absurd h
steps_are all (m ∷ ms) [] h = absurd h
steps_are all (m ∷ ms) (k ∷ ks) h = ap (λ o. with_step o (steps_at all ms)) h.0.place ∙ ap (λ l. k ∷ l) (steps_are all ms ks h.1)

-- the marks at places: the first of them, and none where no place is left

marks_first : (all : List Kept) (i j : ℕ) (k : Kept) → slice_get all i ≡ Some k → i < j → marks_in all (i, j) ≡ mark_of i k ∷ marks_in all (i + 1, j)
unfolding marks_in
marks_first all i j k h lt =
    let left : j - i ≡ suc (j - (i + 1)) = omega (arith, lt) in
    let next : suc i ≡ i + 1 = omega arith in
    ap (λ n. marked_from i (take n (drop i all))) left
    ∙ ap (λ (l : List Kept). marked_from i (take (suc (j - (i + 1))) l)) (from_on all i k h)
    ∙ ap (λ n. mark_of i k ∷ marked_from n (take (j - (i + 1)) (drop (i + 1) all))) next

pub put_more : (all : List Kept) (i j : ℕ) (k : Kept) (now new whole : List Mark) (m : Mark) → slice_get all i ≡ Some k → i < j → now ++ marks_in all (i, j) ≡ whole →
    new ≡ now ++ m ∷ [] → m ≡ mark_of i k → new ++ marks_in all (i + 1, j) ≡ whole
put_more all i j k now new whole m at lt so_far is one =
    ap (λ (l : List Mark). l ++ marks_in all (i + 1, j)) is
    ∙ append_assoc now (m ∷ []) (marks_in all (i + 1, j))
    ∙ ap (λ (x : Mark). now ++ x ∷ marks_in all (i + 1, j)) one
    ∙ ap (λ (l : List Mark). now ++ l) (sym (marks_first all i j k at lt)) ∙ so_far

pub none_left : (all : List Kept) (i j : ℕ) (now whole : List Mark) → j ≤ i → now ++ marks_in all (i, j) ≡ whole → now ≡ whole
unfolding marks_in
none_left all i j now whole le so_far =
    let none : j - i ≡ zero = omega (arith, le) in
    sym (append-nil now) ∙ ap (λ n. now ++ marked_from i (take n (drop i all))) (sym none) ∙ so_far
