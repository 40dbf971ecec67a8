-- The rows that are shown, put in order one by one, are the online list, and no other rows are.
use Rattle.std.proofs.Common.{◌≡◌, ◌+◌, ◌≤◌, Bool, true, false, if◌then◌else◌, List, [], ◌∷◌, refl, sym, ap, ◌∙◌, subst, true≢false, arith}
use Rattle.std.specs.declared.cmp.Ordering.TheVariants.{Less}
use Rattle.std.specs.Ordering.{is_lt}
use Rattle.std.specs.List.Sorted.{IsPermutation, IsStrictlySortedBy}
use Rattle.std.proofs.lemmas.List.Sorted.{IsPermutation-refl, IsPermutation-trans, IsPermutation-cons, IsPermutation-middle, sum_by-IsPermutation}
use Rattle.std.proofs.ByRecursion.{all_shuffled}
use Rattle.std.proofs.lemmas.List.Sums.{sum_by-cons}
use Rattle.diff_core.specs.Rows.{Row, row_cmp}
use Rattle.diff_core.specs.Online.{AreInOrder, IsOnlineList, shown}
use Rattle.diff_core.specs.Sorting.{with_row, in_order, online_of}
use Rattle.diff_core.specs.Laws.{OnlineLaw}
use Rattle.diff_core.proofs.Order.{is_row, is_row-itself, less_of, cases_row, all_above}
use Rattle.diff_core.proofs.Listed.{one, times, once_shown, same_rows}

-- no row is lost and none is added

with_row_has : (x : Row) (rows : List Row) → IsPermutation (x ∷ rows) (with_row x rows)
with_row_has x [] = IsPermutation-refl (x ∷ [])
with_row_has x (y ∷ ys) = go (with_row_has x ys) (is_lt (row_cmp y x))
  where
    go : IsPermutation (x ∷ ys) (with_row x ys) → (b : Bool) → IsPermutation (x ∷ y ∷ ys) (if b then y ∷ with_row x ys else x ∷ y ∷ ys)
    go rest true = IsPermutation-trans _ _ _ (IsPermutation-middle (x ∷ []) y ys) (IsPermutation-cons y _ _ rest)
    go rest false = IsPermutation-refl (x ∷ y ∷ ys)

in_order_has : (rows : List Row) → IsPermutation rows (in_order rows)
in_order_has [] = IsPermutation-refl []
in_order_has (x ∷ xs) = IsPermutation-trans _ _ _ (IsPermutation-cons x _ _ (in_order_has xs)) (with_row_has x (in_order xs))

pub times_in_order : (x : Row) (rows : List Row) → times x (in_order rows) ≡ times x rows
times_in_order x rows = sum_by-IsPermutation (λ r. one (is_row x r)) rows (in_order rows) (in_order_has rows)

-- a row that is none of these goes among them in order
with_row_rises : (x : Row) (rows : List Row) → times x rows ≡ 0 → AreInOrder rows → AreInOrder (with_row x rows)
unfolding IsStrictlySortedBy
with_row_rises x [] none rises = (tt, tt)
with_row_rises x (y ∷ ys) none rises = go (is_lt (row_cmp y x)) refl (with_row_rises x ys later rises.1)
  where
    all : times x (y ∷ ys) ≡ one (is_row x y) + times x ys
    all = sum_by-cons (λ r. one (is_row x r)) y ys

    later : times x ys ≡ 0
    later = omega (arith, all, none)

    before : is_lt (row_cmp y x) ≡ false → row_cmp x y ≡ Less
    before above_it =
        cases_row x y (λ below. below)
        (λ same. let here = ap one (ap (is_row x) (sym same) ∙ is_row-itself x) in absurd (omega (arith, all, none, here)))
        (λ above. absurd (true≢false (ap is_lt (sym above) ∙ above_it)))

    go : (b : Bool) → is_lt (row_cmp y x) ≡ b → AreInOrder (with_row x ys) → AreInOrder (if b then y ∷ with_row x ys else x ∷ y ∷ ys)
    go true below rest =
        (all_shuffled (λ r. row_cmp y r ≡ Less) (x ∷ ys) (with_row x ys) (with_row_has x ys) (less_of (row_cmp y x) below, rises.0), rest)
    go false above_it rest = ((before above_it, all_above x y ys (before above_it) rises.0), rises)

pub in_order_rises : (rows : List Row) → ((x : Row) → times x rows ≤ 1) → AreInOrder (in_order rows)
unfolding IsStrictlySortedBy
in_order_rises [] once = tt
in_order_rises (x ∷ xs) once =
    with_row_rises x (in_order xs) (times_in_order x xs ∙ none)
    (in_order_rises xs (λ r. let all = sum_by-cons (λ y. one (is_row r y)) x xs in let most = once r in omega (arith, all, most)))
  where
    none : times x xs ≡ 0
    none =
        let all = sum_by-cons (λ y. one (is_row x y)) x xs in let most = once x in let here = ap one (is_row-itself x) in
        omega (arith, all, most, here)

pub online_holds : OnlineLaw
unfolding online_of
online_holds r rows = (one_list, the_list)
  where
    rises : AreInOrder (in_order (shown r))
    rises = in_order_rises (shown r) (once_shown r)

    one_list : IsOnlineList r rows → rows ≡ in_order (shown r)
    one_list list =
        same_rows rows (in_order (shown r)) list.in_order rises
        (λ x. sum_by-IsPermutation (λ y. one (is_row x y)) (shown r) rows list.rows_shown ∙ sym (times_in_order x (shown r)))

    the_list : rows ≡ in_order (shown r) → IsOnlineList r rows
    the_list same = subst (IsOnlineList r) (sym same) (record { rows_shown = in_order_has (shown r); in_order = rises })
