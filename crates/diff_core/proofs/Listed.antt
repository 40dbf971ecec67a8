-- That a walk over the entries collects what is shown, that a sort puts it in order, and that one list is so.
use Rattle.std.proofs.Common.{◌≡◌, ℕ, zero, suc, ◌+◌, ◌<◌, ◌≤◌, T, Bool, true, false, cond, List, [], ◌∷◌, ◌++◌, map, filter, length, slice_index_or}
use Rattle.std.proofs.Common.{◌==◌, append_assoc, append-nil, refl, sym, ap, ◌∙◌, subst, true≢false, arith}
use Rattle.std.specs.declared.cmp.Ordering.TheVariants.{Less}
use Rattle.std.specs.Ordering.{is_lt, is_eq}
use Rattle.std.specs.List.{AllByRecursion, sum_by}
use Rattle.std.specs.List.Sorted.{IsPermutation, IsSorted, IsStrictlySortedBy}
use Rattle.std.specs.FinMap as fin
use Rattle.std.specs.FinMap.Entries.{is_sorted, below_all}
use Rattle.std.proofs.Math.Facts.{and_yes}
use Rattle.std.proofs.lemmas.List.Sorted.{sum_by-IsPermutation, sorted_far, ranks_by}
use Rattle.std.proofs.lemmas.List.Sums.{sum_by-cons}
use Rattle.dots_core.specs.declared.dot.Dot.{Dot}
use Rattle.dots_core.specs.Dots.{dot_cmp, dot}
use Rattle.dots_core.proofs.Order.{less, is_dot, is_dot-true, is_dot_same}
use Rattle.payload_core.specs.EntryLists.{pair_of}
use Rattle.payload_core.specs.Presences.{Presence, Entry, Entries, entries_of_names, entry_of}
use Rattle.block_core.specs.Sets.{listed as walk_of}
use Rattle.block_core.proofs.Collected.{entries-retain}
use Rattle.block_core.proofs.MaskedEntries.{where_filter}
use Rattle.diff_core.specs.ChangedRows.{is_of_name}
use Rattle.replica_core.specs.Replicas.{Replica}
use Rattle.replica_core.specs.Views.{View, is_some_up}
use Rattle.diff_core.specs.Rows.{Row, row_cmp, row_of}
use Rattle.diff_core.specs.RowOrder.{row_total}
use Rattle.diff_core.specs.Online.{AreInOrder, IsOnlineList, shown, is_shown}
use Rattle.diff_core.specs.Laws.{OneListLaw}
use Rattle.diff_core.proofs.Order.{is_row, is_row-itself, is_row-true, cases_row, all_above}

-- the rows of those entries of a walk that pass
abbrev pub rows_ahead : (Entry → Bool) → List Entry → List Row
rows_ahead test es = map (λ e. row_of (pair_of e)) (filter test es)

pub rows_walked : (test : Dot × Presence → Bool) (ps : List (Dot × Presence)) →
    rows_ahead (λ e. test (pair_of e)) (map (λ (p : Dot × Presence). entry_of p.0 p.1) ps) ≡ map row_of (filter test ps)
rows_walked test [] = refl
rows_walked test (p ∷ ps) = go (test p) (rows_walked test ps)
  where
    go : (b : Bool) → rows_ahead (λ e. test (pair_of e)) (map (λ (p : Dot × Presence). entry_of p.0 p.1) ps) ≡ map row_of (filter test ps) →
        map (λ e. row_of (pair_of e)) (cond b (entry_of p.0 p.1 ∷ filter (λ e. test (pair_of e)) (map (λ (p : Dot × Presence). entry_of p.0 p.1) ps))
        (filter (λ e. test (pair_of e)) (map (λ (p : Dot × Presence). entry_of p.0 p.1) ps))) ≡ map row_of (cond b (p ∷ filter test ps) (filter test ps))
    go true later = ap (λ rows. row_of p ∷ rows) later
    go false later = later

-- one more entry of a walk, and its end

pub walked_row : (walk rest : List Entry) (e : Entry) (row : Row) (rows after whole : List Row) → walk ≡ e ∷ rest →
    row ≡ row_of (pair_of e) → after ≡ rows ++ row ∷ [] → rows ++ map (λ e. row_of (pair_of e)) walk ≡ whole →
    after ++ map (λ e. row_of (pair_of e)) rest ≡ whole
walked_row walk rest e row rows after whole next is grown so_far =
    ap (λ rs. rs ++ map (λ e. row_of (pair_of e)) rest) grown ∙ append_assoc rows (row ∷ []) (map (λ e. row_of (pair_of e)) rest)
    ∙ ap (λ r. rows ++ r ∷ map (λ e. row_of (pair_of e)) rest) is
    ∙ ap (λ es. rows ++ map (λ e. row_of (pair_of e)) es) (sym next) ∙ so_far

pub walked_all : (test : Entry → Bool) (walk : List Entry) (rows whole : List Row) → walk ≡ [] → rows ++ rows_ahead test walk ≡ whole → rows ≡ whole
walked_all test walk rows whole end so_far =
    sym (append-nil rows) ∙ ap (λ es. rows ++ rows_ahead test es) (sym end) ∙ so_far

pub walked_all_rows : (walk : List Entry) (rows whole : List Row) → walk ≡ [] → rows ++ map (λ e. row_of (pair_of e)) walk ≡ whole → rows ≡ whole
walked_all_rows walk rows whole end so_far =
    sym (append-nil rows) ∙ ap (λ es. rows ++ map (λ e. row_of (pair_of e)) es) (sym end) ∙ so_far

-- the rows of the entries of one name

pub rows_of_part : (name : ℕ) (m : Entries) →
    map (λ e. row_of (pair_of e)) (walk_of (entries_of_names (λ n. n == name) m)) ≡ map row_of (filter (is_of_name name) (fin.entries m))
rows_of_part name m =
    plain_rows (fin.entries (entries_of_names (λ n. n == name) m))
    ∙ ap (map row_of) (entries-retain m (λ d. d.name == name) ∙ where_filter (λ (d : Dot). d.name == name) (fin.entries m))
  where
    plain_rows : (ps : List (Dot × Presence)) → map (λ e. row_of (pair_of e)) (map (λ (p : Dot × Presence). entry_of p.0 p.1) ps) ≡ map row_of ps
    plain_rows [] = refl
    plain_rows (p ∷ ps) = ap (λ rows. row_of p ∷ rows) (plain_rows ps)

-- how often a row stands in a list, and a dot among the keys of one
abbrev pub one : Bool → ℕ
one b = cond b 1 0

abbrev pub times : Row → List Row → ℕ
times x rows = sum_by (λ r. one (is_row x r)) rows

abbrev pub times_at : Dot → List (Dot × Presence) → ℕ
times_at d es = sum_by (λ e. one (is_dot d e.0)) es

abbrev pub dot_of : Row → Dot
dot_of r = dot r.name r.clock

one_le : (a b : Bool) → (a ≡ true → b ≡ true) → one a ≤ one b
one_le true b h = let e = ap one (h refl) in omega arith
one_le false b h = omega arith

pub same_dot : (x : Row) (e : Dot × Presence) → is_row x (row_of e) ≡ true → is_dot (dot_of x) e.0 ≡ true
same_dot x e h = ap (λ r. is_dot (dot_of r) e.0) (is_row-true x (row_of e) h) ∙ is_dot_same e.0

-- the rows of some entries hold a row as often as the entries hold its dot, at most
pub row_le : (test : Dot × Presence → Bool) (x : Row) (es : List (Dot × Presence)) →
    times x (map row_of (filter test es)) ≤ times_at (dot_of x) es
row_le test x [] = omega arith
row_le test x (e ∷ es) = go (row_le test x es) (test e)
  where
    dots : times_at (dot_of x) (e ∷ es) ≡ one (is_dot (dot_of x) e.0) + times_at (dot_of x) es
    dots = sum_by-cons (λ (f : Dot × Presence). one (is_dot (dot_of x) f.0)) e es

    go : times x (map row_of (filter test es)) ≤ times_at (dot_of x) es → (b : Bool) →
        times x (map row_of (cond b (e ∷ filter test es) (filter test es))) ≤ times_at (dot_of x) (e ∷ es)
    go rest true =
        let rows = sum_by-cons (λ r. one (is_row x r)) (row_of e) (map row_of (filter test es)) in
        let here = one_le (is_row x (row_of e)) (is_dot (dot_of x) e.0) (same_dot x e) in
        omega (arith, rows, dots, rest, here)
    go rest false = omega (arith, dots, rest)

-- a dot stands once, at most, among rising keys
pub none_at : (d : Dot) (es : List (Dot × Presence)) → T (below_all dot_cmp d es) → times_at d es ≡ 0
none_at d [] below = refl
none_at d (e ∷ es) below =
    let first = ap (λ r. one (is_eq r)) (less (dot_cmp d e.0) (and_yes (is_lt (dot_cmp d e.0)) (below_all dot_cmp d es) below).0) in
    let rest = none_at d es (and_yes (is_lt (dot_cmp d e.0)) (below_all dot_cmp d es) below).1 in
    let dots = sum_by-cons (λ (f : Dot × Presence). one (is_dot d f.0)) e es in
    omega (arith, first, rest, dots)

once_at : (d : Dot) (es : List (Dot × Presence)) → T (is_sorted dot_cmp es) → times_at d es ≤ 1
once_at d [] sorted = omega arith
once_at d (e ∷ es) sorted = go (once_at d es (and_yes (below_all dot_cmp e.0 es) (is_sorted dot_cmp es) sorted).1) (is_dot d e.0) refl
  where
    dots : times_at d (e ∷ es) ≡ one (is_dot d e.0) + times_at d es
    dots = sum_by-cons (λ (f : Dot × Presence). one (is_dot d f.0)) e es

    go : times_at d es ≤ 1 → (b : Bool) → is_dot d e.0 ≡ b → times_at d (e ∷ es) ≤ 1
    go rest true h =
        let here = ap one h in
        let none = none_at d es (subst (λ x. T (below_all dot_cmp x es)) (sym (is_dot-true d e.0 h))
        (and_yes (below_all dot_cmp e.0 es) (is_sorted dot_cmp es) sorted).0) in
        omega (arith, dots, here, none)
    go rest false h =
        let here = ap one h in
        omega (arith, dots, here, rest)

-- no row is that of two entries
pub once_passed : (test : Dot × Presence → Bool) (r : Replica) (x : Row) → times x (map row_of (filter test (fin.entries r.store.entries))) ≤ 1
once_passed test r x =
    let rows = row_le test x (fin.entries r.store.entries) in
    let dots = once_at (dot_of x) (fin.entries r.store.entries) (fin.entries_sorted r.store.entries) in
    omega (arith, rows, dots)

-- no row is shown twice
pub once_shown : (r : Replica) (x : Row) → times x (shown r) ≤ 1
once_shown r x = once_passed (is_shown r) r x

-- a row that is none of these, and below none of them, is below each
heads : (x : Row) (ys : List Row) → times x ys ≡ 0 →
    ((j : ℕ) (d : Row) → j < length ys → is_lt (row_cmp (slice_index_or ys j d) x) ≡ false) → AllByRecursion (λ y. row_cmp x y ≡ Less) ys
heads x [] none low = tt
heads x (y ∷ ys) none low = (
  cases_row x y (λ below. below) same above,
  heads x ys (let all = rows in omega (arith, all, none)) (λ j d within. low (suc j) d (omega arith)),
)
  where
    rows : times x (y ∷ ys) ≡ one (is_row x y) + times x ys
    rows = sum_by-cons (λ r. one (is_row x r)) y ys

    same : x ≡ y → row_cmp x y ≡ Less
    same e = let here = ap one (ap (is_row x) (sym e) ∙ is_row-itself x) in absurd (omega (arith, rows, none, here))

    above : row_cmp y x ≡ Less → row_cmp x y ≡ Less
    above e = absurd (true≢false (ap is_lt (sym e) ∙ low zero x (omega arith)))

-- rows that do not fall, none of them twice, are in order
pub rises : (xs : List Row) → ((x : Row) → times x xs ≤ 1) →
    ((i j : ℕ) (d : Row) → i < j → j < length xs → is_lt (row_cmp (slice_index_or xs j d) (slice_index_or xs i d)) ≡ false) → AreInOrder xs
unfolding IsStrictlySortedBy
rises [] once far = tt
rises (x ∷ xs) once far = (
  heads x xs alone (λ j d within. far zero (suc j) d (omega arith) (omega arith)),
  rises xs (λ r. let all = sum_by-cons (λ y. one (is_row r y)) x xs in let most = once r in omega (arith, all, most))
      (λ i j d below within. far (suc i) (suc j) d (omega arith) (omega arith)),
)
  where
    alone : times x xs ≡ 0
    alone =
        let all = sum_by-cons (λ y. one (is_row x y)) x xs in let most = once x in let here = ap one (is_row-itself x) in
        omega (arith, all, most, here)

-- what is shown, sorted, is the online list
pub listed : (r : Replica) (collected sorted : List Row) → collected ≡ shown r → IsPermutation collected sorted → IsSorted row_cmp sorted →
    IsOnlineList r sorted
listed r collected sorted all moved in_order =
    let perm : IsPermutation (shown r) sorted = subst (λ rows. IsPermutation rows sorted) all moved in
    record {
      rows_shown = perm;
      in_order = rises sorted (λ x. subst (λ n. n ≤ 1) (sym (sum_by-IsPermutation (λ y. one (is_row x y)) (shown r) sorted perm))
          (once_shown r x)) (λ i j d below within. sorted_far _ (ranks_by row_total (λ a. a)) sorted in_order i j d (omega arith) within);
    }

pub none_times : (x : Row) (rs : List Row) → AllByRecursion (λ r. row_cmp x r ≡ Less) rs → times x rs ≡ 0
none_times x [] all = refl
none_times x (r ∷ rs) all =
    let rows = sum_by-cons (λ y. one (is_row x y)) r rs in let here = ap (λ o. one (is_eq o)) all.0 in let rest = none_times x rs all.1 in
    omega (arith, rows, here, rest)

-- a first row below the first of other rows in order is none of these
first_missing : (x y : Row) (xs ys : List Row) → row_cmp x y ≡ Less → AllByRecursion (λ r. row_cmp y r ≡ Less) ys →
    times x (x ∷ xs) ≡ times x (y ∷ ys) → ⊥
first_missing x y xs ys below all same =
    let one_side = sum_by-cons (λ r. one (is_row x r)) x xs in
    let here = ap one (is_row-itself x) in
    let none = none_times x (y ∷ ys) (below, all_above x y ys below all) in
    omega (arith, one_side, here, none, same)

-- rows in order are given by how often each row stands among them
pub same_rows : (xs ys : List Row) → AreInOrder xs → AreInOrder ys → ((x : Row) → times x xs ≡ times x ys) → xs ≡ ys
unfolding IsStrictlySortedBy
same_rows [] [] up also same = refl
same_rows [] (y ∷ ys) up also same =
    let all = sum_by-cons (λ r. one (is_row y r)) y ys in let here = ap one (is_row-itself y) in let none = same y in
    absurd (omega (arith, all, here, none))
same_rows (x ∷ xs) [] up also same =
    let all = sum_by-cons (λ r. one (is_row x r)) x xs in let here = ap one (is_row-itself x) in let none = same x in
    absurd (omega (arith, all, here, none))
same_rows (x ∷ xs) (y ∷ ys) up also same =
    cases_row x y (λ below. absurd (first_missing x y xs ys below also.0 (same x))) (both (same_rows xs ys up.1 also.1))
    (λ above. absurd (first_missing y x ys xs above up.0 (sym (same y))))
  where
    both : (((r : Row) → times r xs ≡ times r ys) → xs ≡ ys) → x ≡ y → (x ∷ xs) ≡ (y ∷ ys)
    both rest e =
        ap (λ r. r ∷ xs) e
        ∙ ap (λ rs. y ∷ rs) (rest (λ r.
        let left = sum_by-cons (λ z. one (is_row r z)) x xs in
        let right = sum_by-cons (λ z. one (is_row r z)) y ys in
        let here = ap (λ z. one (is_row r z)) e in
        let total = same r in
        omega (arith, left, right, here, total)))

shown_alike : (r s : Replica) → r.store.entries ≡ s.store.entries → r.view ≡ s.view → shown r ≡ shown s
shown_alike r s entries view =
    ap (λ (v : View). map row_of (filter (λ (e : Dot × Presence). is_some_up (fin.get v e.0.name)) (fin.entries r.store.entries))) view
    ∙ ap (λ (es : Entries). map row_of (filter (is_shown s) (fin.entries es))) entries

pub one_list_holds : OneListLaw
one_list_holds r s xs ys entries view one_list other =
    same_rows xs ys one_list.in_order other.in_order (λ x.
    sum_by-IsPermutation (λ y. one (is_row x y)) (shown r) xs one_list.rows_shown
    ∙ ap (times x) (shown_alike r s entries view)
    ∙ sym (sum_by-IsPermutation (λ y. one (is_row x y)) (shown s) ys other.rows_shown))
