-- The rows of one list that are none of another, found in one pass over both.
use Rattle.std.proofs.Common.{◌≡◌, ℕ, zero, suc, ◌+◌, ◌<◌, Bool, true, false, not, ◌||◌, cond, if◌then◌else◌, List, [], ◌∷◌, ◌++◌, drop, length}
use Rattle.std.proofs.Common.{slice_index_or, refl, sym, ap, ◌∙◌, subst, true≢false}
use Rattle.std.specs.declared.cmp.Ordering.TheVariants.{Less}
use Rattle.std.specs.Ordering.{is_lt}
use Rattle.std.specs.List.{AllByRecursion}
use Rattle.std.specs.List.Sorted.{IsStrictlySortedBy}
use Rattle.std.proofs.lemmas.Bool.{or_right}
use Rattle.std.proofs.lemmas.List.{append_assoc, drop_more}
use Rattle.std.proofs.lemmas.List.Kept.{IsStrictlySortedBy-filter}
use Rattle.diff_core.specs.Rows.{Row, row_cmp, is_among}
use Rattle.diff_core.specs.RowOrder.{row_total}
use Rattle.diff_core.specs.Online.{AreInOrder}
use Rattle.diff_core.specs.Diffs.{alone, not_below, begins_with}
use Rattle.diff_core.specs.Laws.{DiffLaw}
use Rattle.diff_core.proofs.Order.{is_row, is_row-itself, is_row-below, is_row-above, less_of, cases_row, all_above}

-- nothing of a part of a list is alone beside the list
none_alone : (all part : List Row) → ((r : Row) → is_among part r ≡ true → is_among all r ≡ true) → alone part all ≡ []
none_alone all [] within = refl
none_alone all (r ∷ rs) within =
    let here : is_among all r ≡ true = within r (ap (λ b. b || is_among rs r) (is_row-itself r)) in
    ap (λ b. cond (not b) (r ∷ alone rs all) (alone rs all)) here
    ∙ none_alone all rs (λ x h. within x (or_right (is_row x r) (is_among rs x) h))

pub diff_holds : DiffLaw
diff_holds =
    record {
      itself = λ rows. none_alone rows rows (λ r h. h);
      in_order =
          λ rows others h. IsStrictlySortedBy-filter row_cmp (λ row. not (is_among others row)) rows h;
    }

-- what is below a row is none of those that are not
skips : (row x : Row) → ((r : Row) → row_cmp r row ≡ Less → is_row x r ≡ false) → (rs : List Row) →
    is_among rs x ≡ is_among (not_below row rs) x
skips row x apart [] = refl
skips row x apart (r ∷ rs) = go (skips row x apart rs) (is_lt (row_cmp r row)) refl
  where
    go : is_among rs x ≡ is_among (not_below row rs) x → (b : Bool) → is_lt (row_cmp r row) ≡ b →
        is_among (r ∷ rs) x ≡ is_among (if b then not_below row rs else r ∷ rs) x
    go rest true h = ap (λ b. b || is_among rs x) (apart r (less_of (row_cmp r row) h)) ∙ rest
    go rest false h = refl

pub skips_itself : (row : Row) (rs : List Row) → is_among rs row ≡ is_among (not_below row rs) row
skips_itself row = skips row row (λ r below. is_row-above r row below)

pub skips_later : (row x : Row) → row_cmp row x ≡ Less → (rs : List Row) → is_among rs x ≡ is_among (not_below row rs) x
skips_later row x later = skips row x (λ r below. is_row-above r x (row_total.trans r row x below later))

-- what is left is in order
pub not_below_in_order : (row : Row) (rs : List Row) → AreInOrder rs → AreInOrder (not_below row rs)
unfolding IsStrictlySortedBy
not_below_in_order row [] order = order
not_below_in_order row (r ∷ rs) order = go (not_below_in_order row rs order.1) (is_lt (row_cmp r row))
  where
    go : AreInOrder (not_below row rs) → (b : Bool) → AreInOrder (if b then not_below row rs else r ∷ rs)
    go rest true = rest
    go rest false = order

-- a row is none of those that are above it
none_above : (row : Row) (rs : List Row) → AllByRecursion (λ r. row_cmp row r ≡ Less) rs → is_among rs row ≡ false
none_above row [] all = refl
none_above row (r ∷ rs) all = ap (λ b. b || is_among rs row) (is_row-below row r all.0) ∙ none_above row rs all.1

-- of rows in order that are not below a row, the first is it or none is
pub first_or_none : (row : Row) (rs : List Row) → AreInOrder rs → is_among (not_below row rs) row ≡ begins_with row (not_below row rs)
unfolding IsStrictlySortedBy
first_or_none row [] order = refl
first_or_none row (r ∷ rs) order = go (first_or_none row rs order.1) (is_lt (row_cmp r row)) refl
  where
    other : row_cmp row r ≡ Less → is_among (r ∷ rs) row ≡ begins_with row (r ∷ rs)
    other below =
        ap (λ b. b || is_among rs row) (is_row-below row r below) ∙ none_above row rs (all_above row r rs below order.0)
        ∙ sym (is_row-above row r below)

    same : r ≡ row → is_among (r ∷ rs) row ≡ begins_with row (r ∷ rs)
    same e = ap (λ b. b || is_among rs row) (ap (is_row row) e ∙ is_row-itself row) ∙ sym (ap (λ x. is_row x row) e ∙ is_row-itself row)

    go : is_among (not_below row rs) row ≡ begins_with row (not_below row rs) → (b : Bool) → is_lt (row_cmp r row) ≡ b →
        is_among (if b then not_below row rs else r ∷ rs) row ≡ begins_with row (if b then not_below row rs else r ∷ rs)
    go rest true h = rest
    go rest false h = cases_row r row (λ below. absurd (true≢false (ap is_lt (sym below) ∙ h))) same other

-- the rows after one are none of what is below it
pub alone_later : (row : Row) (rows others : List Row) → AllByRecursion (λ x. row_cmp row x ≡ Less) rows →
    alone rows others ≡ alone rows (not_below row others)
alone_later row [] others all = refl
alone_later row (x ∷ xs) others all =
    let rest = alone_later row xs others all.1 in
    ap (λ b. cond (not b) (x ∷ alone xs others) (alone xs others)) (skips_later row x all.0 others)
    ∙ ap (λ ys. cond (not (is_among (not_below row others) x)) (x ∷ ys) ys) rest

in_order_drop : (i : ℕ) (rows : List Row) → AreInOrder rows → AreInOrder (drop i rows)
unfolding IsStrictlySortedBy
in_order_drop zero rows order = order
in_order_drop (suc i) [] order = order
in_order_drop (suc i) (r ∷ rs) order = in_order_drop i rs order.1

-- the row at the front is alone where it isn't the first of the others that are not below it; and then the rest
front_alone : (row : Row) (rows others : List Row) → AreInOrder (row ∷ rows) → AreInOrder others →
    alone (row ∷ rows) others ≡ cond (not (begins_with row (not_below row others))) (row ∷ alone rows (not_below row others))
    (alone rows (not_below row others))
unfolding IsStrictlySortedBy
front_alone row rows others order also =
    ap (λ b. cond (not b) (row ∷ alone rows others) (alone rows others)) (skips_itself row others ∙ first_or_none row others also)
    ∙ ap (λ rs. cond (not (begins_with row (not_below row others))) (row ∷ rs) rs) (alone_later row rows others order.0)

-- one row on, in a walk over the rows
module _ (rows others : List Row) (i : ℕ) (row : Row) (order : AreInOrder rows) (also : AreInOrder others) (there : i < length rows)
    (at : slice_index_or rows i row ≡ row) where
  walked : alone (drop i rows) others ≡
      cond (not (begins_with row (not_below row others))) (row ∷ alone (drop (i + 1) rows) (not_below row others))
      (alone (drop (i + 1) rows) (not_below row others))
  walked =
      let front : drop i rows ≡ row ∷ drop (i + 1) rows = drop_more rows i row there ∙ ap (λ r. r ∷ drop (i + 1) rows) at in
      ap (λ rs. alone rs others) front
      ∙ front_alone row (drop (i + 1) rows) others (subst AreInOrder front (in_order_drop i rows order)) also

  pub walked_alone : (found after whole : List Row) → begins_with row (not_below row others) ≡ false →
      found ++ alone (drop i rows) others ≡ whole → after ≡ found ++ row ∷ [] →
      after ++ alone (drop (i + 1) rows) (not_below row others) ≡ whole
  walked_alone found after whole other so_far is =
      ap (λ rs. rs ++ alone (drop (i + 1) rows) (not_below row others)) is
      ∙ append_assoc found (row ∷ []) (alone (drop (i + 1) rows) (not_below row others))
      ∙ ap (λ rs. found ++ rs) (sym (walked ∙ ap (λ b. cond (not b) (row ∷ alone (drop (i + 1) rows) (not_below row others))
      (alone (drop (i + 1) rows) (not_below row others))) other))
      ∙ so_far

  pub walked_by : (found whole : List Row) → begins_with row (not_below row others) ≡ true → found ++ alone (drop i rows) others ≡ whole →
      found ++ alone (drop (i + 1) rows) (not_below row others) ≡ whole
  walked_by found whole same so_far =
      ap (λ rs. found ++ rs) (sym (walked ∙ ap (λ b. cond (not b) (row ∷ alone (drop (i + 1) rows) (not_below row others))
      (alone (drop (i + 1) rows) (not_below row others))) same)) ∙ so_far
