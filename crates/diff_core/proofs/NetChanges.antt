-- What several changes of an online list come to, by how often each row left and joined.
use Rattle.std.proofs.Common.{◌≡◌, ℕ, zero, suc, ◌+◌, ◌-◌, ◌<◌, ◌≤◌, Bool, true, false, if◌then◌else◌, List, [], ◌∷◌, ◌++◌, drop, length}
use Rattle.std.proofs.Common.{slice_index_or, refl, sym, ap, ◌∙◌, true≢false, arith}
use Rattle.std.specs.declared.cmp.Ordering.TheVariants.{Less}
use Rattle.std.specs.Ordering.{is_lt}
use Rattle.std.specs.List.{AllByRecursion}
use Rattle.std.specs.List.Sorted.{IsPermutation, IsSorted, IsStrictlySortedBy}
use Rattle.std.proofs.lemmas.List.{append_assoc, drop_more}
use Rattle.std.proofs.lemmas.List.Sums.{sum_by-append, sum_by-cons}
use Rattle.std.proofs.lemmas.List.Sorted.{sum_by-IsPermutation, sorted_far, ranks_by}
use Rattle.diff_core.specs.Rows.{Row, row_cmp}
use Rattle.diff_core.specs.RowOrder.{row_total}
use Rattle.diff_core.specs.Online.{AreInOrder}
use Rattle.diff_core.specs.Diffs.{alone, not_below, begins_with}
use Rattle.diff_core.specs.NetChanges.{ComesTo, beyond}
use Rattle.diff_core.proofs.Order.{is_row, is_row-itself, is_row-true, is_row-below, is_row-above, less_of, cases_row}
use Rattle.diff_core.proofs.Listed.{one, times, none_times, same_rows}
use Rattle.diff_core.proofs.Counted.{most, times_less}
use Rattle.diff_core.proofs.Alone.{diff_holds}

-- rows that do not fall

abbrev NoneBelow : Row → List Row → Type 0
NoneBelow x rows = AllByRecursion (λ r. is_lt (row_cmp r x) ≡ false) rows

abbrev AreSorted : List Row → Type 0
AreSorted [] = Unit {0}
AreSorted (x ∷ xs) = NoneBelow x xs × AreSorted xs

none_below : (x : Row) (rows : List Row) → ((j : ℕ) (d : Row) → j < length rows → is_lt (row_cmp (slice_index_or rows j d) x) ≡ false) →
    NoneBelow x rows
none_below x [] low = tt
none_below x (r ∷ rs) low = (low zero x (omega arith), none_below x rs (λ j d within. low (suc j) d (omega arith)))

are_sorted : (rows : List Row) →
    ((i j : ℕ) (d : Row) → i < j → j < length rows → is_lt (row_cmp (slice_index_or rows j d) (slice_index_or rows i d)) ≡ false) →
    AreSorted rows
are_sorted [] far = tt
are_sorted (x ∷ xs) far = (
  none_below x xs (λ j d within. far zero (suc j) d (omega arith) (omega arith)),
  are_sorted xs (λ i j d below within. far (suc i) (suc j) d (omega arith) (omega arith)),
)

sorted_rows : (rows : List Row) → IsSorted row_cmp rows → AreSorted rows
sorted_rows rows sorted =
    are_sorted rows (λ i j d below within. sorted_far _ (ranks_by row_total (λ a. a)) rows sorted i j d (omega arith) within)

times_cons : (x r : Row) (rs : List Row) → times x (r ∷ rs) ≡ one (is_row x r) + times x rs
times_cons x r rs = sum_by-cons (λ y. one (is_row x y)) r rs

-- a row below one stands nowhere among rows that are not below that one
absent : (x r : Row) (rs : List Row) → row_cmp x r ≡ Less → NoneBelow r rs → times x rs ≡ 0
absent x r [] below all = refl
absent x r (y ∷ ys) below all =
    let rest = absent x r ys below all.1 in let rows = times_cons x y ys in
    cases_row r y (λ less. let here = ap one (is_row-below x y (row_total.trans x r y below less)) in omega (arith, rows, here, rest))
    (λ same. let here = ap one (is_row-below x y (ap (row_cmp x) (sym same) ∙ below)) in omega (arith, rows, here, rest))
    (λ less. absurd (true≢false (ap is_lt (sym less) ∙ all.0)))

-- what is below a row is no row that isn't
skipped : (row x : Row) → ((r : Row) → row_cmp r row ≡ Less → is_row x r ≡ false) → (rs : List Row) →
    times x rs ≡ times x (not_below row rs)
skipped row x apart [] = refl
skipped row x apart (r ∷ rs) = go (skipped row x apart rs) (is_lt (row_cmp r row)) refl
  where
    go : times x rs ≡ times x (not_below row rs) → (b : Bool) → is_lt (row_cmp r row) ≡ b →
        times x (r ∷ rs) ≡ times x (if b then not_below row rs else r ∷ rs)
    go rest true h =
        let rows = times_cons x r rs in let here = ap one (apart r (less_of (row_cmp r row) h)) in omega (arith, rows, here, rest)
    go rest false h = refl

sorted_left : (row : Row) (rs : List Row) → AreSorted rs → AreSorted (not_below row rs)
sorted_left row [] sorted = tt
sorted_left row (r ∷ rs) sorted = go (sorted_left row rs sorted.1) (is_lt (row_cmp r row))
  where
    go : AreSorted (not_below row rs) → (b : Bool) → AreSorted (if b then not_below row rs else r ∷ rs)
    go rest true = rest
    go rest false = sorted

sorted_behind : (rs : List Row) → AreSorted rs → AreSorted (drop 1 rs)
sorted_behind [] sorted = tt
sorted_behind (r ∷ rs) sorted = sorted.1

-- the first of what is not below a row, where it is the row
first_is : (row x : Row) (rs : List Row) → begins_with row rs ≡ true → times x rs ≡ one (is_row x row) + times x (drop 1 rs)
first_is row x [] begins = absurd (true≢false (sym begins))
first_is row x (r ∷ rs) begins = times_cons x r rs ∙ ap (λ r. one (is_row x r) + times x rs) (is_row-true r row begins)

-- where it is not, the row stands nowhere among them
first_is_not : (row : Row) (rs : List Row) → AreSorted rs → begins_with row (not_below row rs) ≡ false → times row (not_below row rs) ≡ 0
first_is_not row [] sorted other = refl
first_is_not row (r ∷ rs) sorted none = go (first_is_not row rs sorted.1) (is_lt (row_cmp r row)) refl none
  where
    above_it : is_row r row ≡ false → is_lt (row_cmp r row) ≡ false → row_cmp row r ≡ Less
    above_it other h = cases_row row r (λ less. less) (λ same. absurd (true≢false (sym (ap (is_row r) same ∙ is_row-itself r) ∙ other)))
        (λ less. absurd (true≢false (ap is_lt (sym less) ∙ h)))

    go : (begins_with row (not_below row rs) ≡ false → times row (not_below row rs) ≡ 0) → (b : Bool) → is_lt (row_cmp r row) ≡ b →
        begins_with row (if b then not_below row rs else r ∷ rs) ≡ false → times row (if b then not_below row rs else r ∷ rs) ≡ 0
    go rest true h other = rest other
    go rest false h other =
        let less = above_it other h in
        let here = ap one (is_row-below row r less) in
        let none = absent row r rs less sorted.0 in
        let rows = times_cons row r rs in
        omega (arith, rows, here, none)

-- how often a row stands among what is beyond
abbrev Counts : Row → List Row → List Row → Type 0
Counts x rows others = times x (beyond rows others) ≡ times x rows - times x others

pub times_beyond : (rows others : List Row) → AreSorted rows → AreSorted others → (x : Row) → Counts x rows others
times_beyond [] others sorted also x = let none : times x [] ≡ 0 = refl in omega (arith, none)
times_beyond (r ∷ rs) others sorted also x =
    go (begins_with r (not_below r others)) refl
    (times_beyond rs (drop 1 (not_below r others)) sorted.1 (sorted_behind (not_below r others) (sorted_left r others also)) x)
    (times_beyond rs (not_below r others) sorted.1 (sorted_left r others also) x)
  where
    rest : List Row
    rest = not_below r others

    rows : times x (r ∷ rs) ≡ one (is_row x r) + times x rs
    rows = times_cons x r rs

    go : (b : Bool) → begins_with r rest ≡ b → Counts x rs (drop 1 rest) → Counts x rs rest →
        times x (if b then beyond rs (drop 1 rest) else r ∷ beyond rs rest) ≡ times x (r ∷ rs) - times x others
    go true begins took kept =
        let first = first_is r x rest begins in
        cases_row x r
        (λ below. let none = absent x r rs below sorted.0 in let here = ap one (is_row-below x r below) in omega (arith, rows, took, none, here))
        (λ same. let skips = skipped r x (λ y less. ap (λ z. is_row z y) same ∙ is_row-above y r less) others in
        omega (arith, rows, took, first, skips))
        (λ above. let skips = skipped r x (λ y less. is_row-above y x (row_total.trans y r x less above)) others in
        omega (arith, rows, took, first, skips))
    go false begins took kept =
        let found = times_cons x r (beyond rs rest) in
        cases_row x r
        (λ below. let none = absent x r rs below sorted.0 in let here = ap one (is_row-below x r below) in
        omega (arith, rows, found, kept, none, here))
        (λ same. let skips = skipped r x (λ y less. ap (λ z. is_row z y) same ∙ is_row-above y r less) others in
        let none : times x rest ≡ 0 = ap (λ z. times z rest) same ∙ first_is_not r others also begins in
        omega (arith, rows, found, kept, skips, none))
        (λ above. let skips = skipped r x (λ y less. is_row-above y x (row_total.trans y r x less above)) others in
        let here = ap one (is_row-above r x above) in
        omega (arith, rows, found, kept, skips, here))

-- what is beyond doesn't fall either

all_beyond : (x : Row) (rows others : List Row) → NoneBelow x rows → NoneBelow x (beyond rows others)
all_beyond x [] others all = tt
all_beyond x (r ∷ rs) others all =
    go (begins_with r (not_below r others)) (all_beyond x rs (drop 1 (not_below r others)) all.1) (all_beyond x rs (not_below r others) all.1)
  where
    go : (b : Bool) → NoneBelow x (beyond rs (drop 1 (not_below r others))) → NoneBelow x (beyond rs (not_below r others)) →
        NoneBelow x (if b then beyond rs (drop 1 (not_below r others)) else r ∷ beyond rs (not_below r others))
    go true took kept = took
    go false took kept = (all.0, kept)

sorted_beyond : (rows others : List Row) → AreSorted rows → AreSorted (beyond rows others)
sorted_beyond [] others sorted = tt
sorted_beyond (r ∷ rs) others sorted =
    go (begins_with r (not_below r others)) (sorted_beyond rs (drop 1 (not_below r others)) sorted.1)
    (sorted_beyond rs (not_below r others) sorted.1)
  where
    go : (b : Bool) → AreSorted (beyond rs (drop 1 (not_below r others))) → AreSorted (beyond rs (not_below r others)) →
        AreSorted (if b then beyond rs (drop 1 (not_below r others)) else r ∷ beyond rs (not_below r others))
    go true took kept = took
    go false took kept = (all_beyond r rs (not_below r others) sorted.0, kept)

-- rows that do not fall, none of them twice, are in order

all_later : (x : Row) (rows : List Row) → NoneBelow x rows → times x rows ≡ 0 → AllByRecursion (λ r. row_cmp x r ≡ Less) rows
all_later x [] all none = tt
all_later x (r ∷ rs) all none = (
  cases_row x r (λ less. less)
      (λ same. let rows = times_cons x r rs in let here = ap one (ap (is_row x) (sym same) ∙ is_row-itself x) in
      absurd (omega (arith, rows, here, none)))
      (λ less. absurd (true≢false (ap is_lt (sym less) ∙ all.0))),
  all_later x rs all.1 (let rows = times_cons x r rs in omega (arith, rows, none)),
)

in_order_once : (rows : List Row) → AreSorted rows → ((x : Row) → times x rows ≤ 1) → AreInOrder rows
unfolding IsStrictlySortedBy
in_order_once [] sorted once = tt
in_order_once (x ∷ xs) sorted once = (
  all_later x xs sorted.0 (let rows = times_cons x x xs in let here = ap one (is_row-itself x) in let few = once x in
      omega (arith, rows, here, few)),
  in_order_once xs sorted.1 (λ r. let rows = times_cons r x xs in let few = once r in omega (arith, rows, few)),
)

pub once_in_order : (x : Row) (rows : List Row) → AreInOrder rows → times x rows ≤ 1
unfolding IsStrictlySortedBy
once_in_order x [] order = let none : times x [] ≡ 0 = refl in omega (arith, none)
once_in_order x (r ∷ rs) order = go (once_in_order x rs order.1) (is_row x r) refl
  where
    rows : times x (r ∷ rs) ≡ one (is_row x r) + times x rs
    rows = times_cons x r rs

    go : times x rs ≤ 1 → (b : Bool) → is_row x r ≡ b → times x (r ∷ rs) ≤ 1
    go rest true h =
        let none = none_times r rs order.0 in
        let here = ap (λ z. times z rs) (is_row-true x r h) in
        let few = most (is_row x r) in
        omega (arith, rows, none, here, few)
    go rest false h = let here = ap one h in omega (arith, rows, here, rest)

-- the net change

pub net_alone : (before after left joined left_sorted joined_sorted : List Row) → AreInOrder before → AreInOrder after →
    IsPermutation left left_sorted → IsSorted row_cmp left_sorted → IsPermutation joined joined_sorted → IsSorted row_cmp joined_sorted →
    ComesTo before after left joined → beyond left_sorted joined_sorted ≡ alone before after
net_alone before after left joined ls js order also left_all left_sorted joined_all joined_sorted comes =
    same_rows (beyond ls js) (alone before after)
    (in_order_once (beyond ls js) (sorted_beyond ls js (sorted_rows ls left_sorted))
    (λ x. let here = counted x in let few = once_in_order x before order in omega (arith, here, few)))
    (diff_holds.in_order before after order) (λ x. counted x ∙ sym (times_less x before after (once_in_order x before order)))
  where
    counted : (x : Row) → times x (beyond ls js) ≡ times x before - times x after
    counted x =
        let found = times_beyond ls js (sorted_rows ls left_sorted) (sorted_rows js joined_sorted) x in
        let lefts = sum_by-IsPermutation (λ y. one (is_row x y)) left ls left_all in
        let joins = sum_by-IsPermutation (λ y. one (is_row x y)) joined js joined_all in
        let total = comes x in
        omega (arith, found, lefts, joins, total)

pub comes_back : (before after left joined : List Row) → ComesTo before after left joined → ComesTo after before joined left
comes_back before after left joined comes x = sym (comes x)

-- nothing changed
pub comes_at_once : (rows : List Row) → ComesTo rows rows [] []
comes_at_once rows x = refl

-- one change more
pub comes_on : (start before after left joined : List Row) → AreInOrder before → AreInOrder after → ComesTo start before left joined →
    ComesTo start after (left ++ alone before after) (joined ++ alone after before)
comes_on start before after left joined order also comes x =
    let lefts = sum_by-append (λ y. one (is_row x y)) left (alone before after) in
    let joins = sum_by-append (λ y. one (is_row x y)) joined (alone after before) in
    let first = times_less x before after (once_in_order x before order) in
    let second = times_less x after before (once_in_order x after also) in
    let total = comes x in
    omega (arith, lefts, joins, first, second, total)

-- one row on, in a walk over the rows
module _ (rows rest : List Row) (i : ℕ) (row : Row) (found whole : List Row) (there : i < length rows) (at : slice_index_or rows i row ≡ row)
    (so_far : found ++ beyond (drop i rows) rest ≡ whole) where
  front : beyond (drop i rows) rest ≡
      (if begins_with row (not_below row rest) then beyond (drop (i + 1) rows) (drop 1 (not_below row rest))
      else row ∷ beyond (drop (i + 1) rows) (not_below row rest))
  front = ap (λ rs. beyond rs rest) (drop_more rows i row there ∙ ap (λ r. r ∷ drop (i + 1) rows) at)

  pub takes_one : begins_with row (not_below row rest) ≡ true →
      found ++ beyond (drop (i + 1) rows) (drop 1 (not_below row rest)) ≡ whole
  takes_one begins =
      ap (λ rs. found ++ rs) (sym (front ∙ ap (λ b. if b then beyond (drop (i + 1) rows) (drop 1 (not_below row rest))
      else row ∷ beyond (drop (i + 1) rows) (not_below row rest)) begins)) ∙ so_far

  pub is_beyond : (after : List Row) → begins_with row (not_below row rest) ≡ false → after ≡ found ++ row ∷ [] →
      after ++ beyond (drop (i + 1) rows) (not_below row rest) ≡ whole
  is_beyond after other is =
      ap (λ rs. rs ++ beyond (drop (i + 1) rows) (not_below row rest)) is
      ∙ append_assoc found (row ∷ []) (beyond (drop (i + 1) rows) (not_below row rest))
      ∙ ap (λ rs. found ++ rs) (sym (front ∙ ap (λ b. if b then beyond (drop (i + 1) rows) (drop 1 (not_below row rest))
      else row ∷ beyond (drop (i + 1) rows) (not_below row rest)) other)) ∙ so_far
