-- The rows of a topic and a key in the online list, which has those that are shown in another order.
use Rattle.std.proofs.Common.{◌≡◌, ◌+◌, ℕ, Bool, true, false, cond, List, [], ◌∷◌, filter, refl, sym, ap, ◌∙◌, arith, true≢false}
use Rattle.std.proofs.lemmas.List.Sums.{sum_by-cons}
use Rattle.std.specs.List.{AllByRecursion}
use Rattle.std.specs.List.Sorted.{IsStrictlySortedBy}
use Rattle.std.specs.declared.cmp.Ordering.TheVariants.{Less}
use Rattle.diff_core.specs.Rows.{Row, row_cmp}
use Rattle.diff_core.specs.Online.{AreInOrder, shown}
use Rattle.diff_core.specs.Sorting.{in_order, online_of}
use Rattle.diff_core.proofs.Listed.{one, once_shown, same_rows, times}
use Rattle.diff_core.proofs.Order.{is_row, is_row-true}
use Rattle.diff_core.proofs.Sorting.{in_order_rises, times_in_order}
use Rattle.network_core.specs.Rows.{OnlineRowsLaw, is_row_of}

module _ (p : Row → Bool) where
  all_filtered : (x : Row) (ys : List Row) → AllByRecursion (λ (y : Row). row_cmp x y ≡ Less) ys → AllByRecursion (λ (y : Row). row_cmp x y ≡ Less) (filter p ys)
  all_filtered x [] all = tt
  all_filtered x (y ∷ ys) all = go (p y) (all_filtered x ys all.1)
    where
      go : (b : Bool) → AllByRecursion (λ (y : Row). row_cmp x y ≡ Less) (filter p ys) → AllByRecursion (λ (y : Row). row_cmp x y ≡ Less) (cond b (y ∷ filter p ys) (filter p ys))
      go true later = (all.0, later)
      go false later = later

  -- some of rows in order are in order
  still_in_order : (xs : List Row) → AreInOrder xs → AreInOrder (filter p xs)
  unfolding IsStrictlySortedBy
  still_in_order [] rises = tt
  still_in_order (x ∷ xs) rises = go (p x) (still_in_order xs rises.1)
    where
      go : (b : Bool) → AreInOrder (filter p xs) → AreInOrder (cond b (x ∷ filter p xs) (filter p xs))
      go true later = (all_filtered x xs rises.0, later)
      go false later = later

  -- a row stands among them as often as among all, if it is one of them
  times_filtered : (x : Row) (xs : List Row) → times x (filter p xs) ≡ cond (p x) (times x xs) 0
  times_filtered x [] = none (p x)
    where
      none : (b : Bool) → ◌≡◌ {A = ℕ} 0 (cond b 0 0)
      none true = refl
      none false = refl
  times_filtered x (y ∷ ys) = go (p y) (p x) (is_row x y) refl refl refl (times_filtered x ys)
    where
      whole : times x (y ∷ ys) ≡ one (is_row x y) + times x ys
      whole = sum_by-cons (λ r. one (is_row x r)) y ys

      first : times x (y ∷ filter p ys) ≡ one (is_row x y) + times x (filter p ys)
      first = sum_by-cons (λ r. one (is_row x r)) y (filter p ys)

      go : (a b c : Bool) → p y ≡ a → p x ≡ b → is_row x y ≡ c → times x (filter p ys) ≡ cond b (times x ys) 0 →
          times x (cond a (y ∷ filter p ys) (filter p ys)) ≡ cond b (times x (y ∷ ys)) 0
      go true true c is at same later = first ∙ ap (λ n. one (is_row x y) + n) later ∙ sym whole
      go true false true is at same later = absurd (true≢false (sym (ap p (is_row-true x y same) ∙ is) ∙ at))
      go true false false is at same later = let here = ap one same in omega (arith, first, later, here)
      go false true true is at same later = absurd (true≢false (sym at ∙ ap p (is_row-true x y same) ∙ is))
      go false true false is at same later = let here = ap one same in omega (arith, whole, later, here)
      go false false c is at same later = later

  -- put in order they hold what they held
  times_sorted : (x : Row) (xs : List Row) → times x (filter p (in_order xs)) ≡ times x (filter p xs)
  times_sorted x xs = times_filtered x (in_order xs) ∙ ap (λ n. cond (p x) n 0) (times_in_order x xs) ∙ sym (times_filtered x xs)

pub online_rows_hold : OnlineRowsLaw
unfolding online_of
online_rows_hold topic key r s same =
    same_rows (filter p (in_order (shown r))) (filter p (in_order (shown s)))
    (still_in_order p (in_order (shown r)) (in_order_rises (shown r) (once_shown r)))
    (still_in_order p (in_order (shown s)) (in_order_rises (shown s) (once_shown s)))
    (λ x. times_sorted p x (shown r) ∙ ap (times x) same ∙ sym (times_sorted p x (shown s)))
  where
    p : Row → Bool
    p = is_row_of topic key
