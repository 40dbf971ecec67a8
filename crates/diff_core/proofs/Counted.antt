-- How often a row stands among what is shown, by the entry at its dot, and among what one list has alone.
use Rattle.std.proofs.Common.{◌≡◌, ◌≢◌, ℕ, ◌+◌, ◌-◌, ◌≤◌, ◌&&◌, ◌||◌, not, T, Bool, true, false, cond, List, [], ◌∷◌, ◌++◌, map, filter}
use Rattle.std.proofs.Common.{Option, Some, None, refl, sym, ap, subst, ◌∙◌, arith, true≢false}
use Rattle.std.proofs.Math.Facts.{and_yes}
use Rattle.std.proofs.lemmas.Bool.{false_from_ne_true}
use Rattle.std.proofs.lemmas.List.{map-append}
use Rattle.std.proofs.lemmas.List.Elements.{filter-append}
use Rattle.std.proofs.lemmas.List.Sums.{sum_by-append, sum_by-cons}
use Rattle.std.proofs.lemmas.List.Sorted.{sum_by-IsPermutation}
use Rattle.std.specs.List.{AllByRecursion}
use Rattle.std.specs.FinMap as fin
use Rattle.std.specs.FinMap.Entries.{is_sorted, below_all}
use Rattle.dots_core.specs.declared.dot.Dot.{Dot}
use Rattle.dots_core.specs.Dots.{dot_cmp}
use Rattle.dots_core.proofs.Order.{is_dot, is_dot-true}
use Rattle.payload_core.specs.Presences.{Presence, Entries}
use Rattle.store_core.specs.EntryMoves.{AreNew, found_at, with_each, without_each}
use Rattle.store_core.specs.LeavesTogether.{Differ}
use Rattle.block_core.proofs.EntryMaps.{get-insert, get-remove, get_remove_other}
use Rattle.replica_core.specs.Replicas.{Replica}
use Rattle.diff_core.specs.Rows.{Row, row_of, is_among}
use Rattle.diff_core.specs.Online.{IsOnlineList, shown, is_shown}
use Rattle.diff_core.specs.Diffs.{alone}
use Rattle.diff_core.specs.Sorting.{in_order, online_of}
use Rattle.diff_core.specs.ChangedRows.{found_each}
use Rattle.diff_core.proofs.Alone.{diff_holds}
use Rattle.diff_core.proofs.Order.{is_row, is_row-true}
use Rattle.diff_core.proofs.Listed.{one, times, dot_of, same_dot, none_at, row_le, same_rows}
use Rattle.diff_core.proofs.Sorting.{in_order_rises, online_holds, times_in_order}

abbrev pub Test : Type 0
Test = Dot × Presence → Bool

-- the rows of those entries that pass
abbrev pub rows : Test → List (Dot × Presence) → List Row
rows test es = map row_of (filter test es)

-- whether an entry passes and has the row
abbrev pub has : Test → Row → Dot × Presence → Bool
has test x e = test e && is_row x (row_of e)

pub more_times : (test : Test) (x : Row) (e : Dot × Presence) (es : List (Dot × Presence)) →
    times x (rows test (e ∷ es)) ≡ one (has test x e) + times x (rows test es)
more_times test x e es = go (test e)
  where
    go : (b : Bool) → times x (map row_of (cond b (e ∷ filter test es) (filter test es))) ≡ one (b && is_row x (row_of e)) + times x (rows test es)
    go true = sum_by-cons (λ r. one (is_row x r)) (row_of e) (map row_of (filter test es))
    go false = omega arith

pub both_times : (test : Test) (x : Row) (es fs : List (Dot × Presence)) →
    times x (rows test (es ++ fs)) ≡ times x (rows test es) + times x (rows test fs)
both_times test x es fs =
    ap (λ l. times x (map row_of l)) (filter-append test es fs) ∙ ap (times x) (map-append row_of (filter test es) (filter test fs))
    ∙ sum_by-append (λ r. one (is_row x r)) (rows test es) (rows test fs)

-- an entry of another dot hasn't the row
off : (test : Test) (x : Row) (e : Dot × Presence) → is_dot (dot_of x) e.0 ≡ false → one (has test x e) ≡ 0
off test x e other = ap (λ b. one (test e && b)) (false_from_ne_true (is_row x (row_of e)) (λ h. true≢false (sym (same_dot x e h) ∙ other))) ∙ none (test e)
  where
    none : (b : Bool) → one (b && false) ≡ 0
    none true = refl
    none false = refl

-- an entry at the row's dot has the row, as it would have it at that dot
on : (test : Test) (x : Row) (d : Dot) (p : Presence) → is_dot (dot_of x) d ≡ true → one (has test x (dot_of x, p)) ≡ one (has test x (d, p))
on test x d p h = ap (λ d. one (has test x (d, p))) (is_dot-true (dot_of x) d h)

-- whether the entry at the row's dot passes and has the row
abbrev pub shows : Test → Row → Option Presence → Bool
shows test x None = false
shows test x (Some p) = has test x (dot_of x, p)

-- how often the rows of a map have the row
abbrev pub held : Test → Row → Entries → ℕ
held test x m = one (shows test x (fin.get m (dot_of x)))

pub most : (b : Bool) → one b ≤ 1
most true = omega arith
most false = omega arith

by_dot : (test : Test) (x : Row) (es : List (Dot × Presence)) → T (is_sorted dot_cmp es) →
    times x (rows test es) ≡ one (shows test x (fin.find dot_cmp (dot_of x) es))
by_dot test x [] sorted = refl
by_dot test x (e ∷ es) sorted = go (is_dot (dot_of x) e.0) refl (by_dot test x es (and_yes (below_all dot_cmp e.0 es) (is_sorted dot_cmp es) sorted).1)
  where
    go : (b : Bool) → is_dot (dot_of x) e.0 ≡ b → times x (rows test es) ≡ one (shows test x (fin.find dot_cmp (dot_of x) es)) →
        times x (rows test (e ∷ es)) ≡ one (shows test x (cond b (Some e.1) (fin.find dot_cmp (dot_of x) es)))
    go true h rest =
        let none = none_at (dot_of x) es (subst (λ d. T (below_all dot_cmp d es)) (sym (is_dot-true (dot_of x) e.0 h))
        (and_yes (below_all dot_cmp e.0 es) (is_sorted dot_cmp es) sorted).0) in
        let few = row_le test x es in
        let all = more_times test x e es in
        let here = on test x e.0 e.1 h in
        omega (arith, none, few, all, here)
    go false h rest = let all = more_times test x e es in let here = off test x e h in omega (arith, all, here, rest)

pub shown_times : (r : Replica) (x : Row) → times x (shown r) ≡ held (is_shown r) x r.store.entries
shown_times r x = by_dot (is_shown r) x (fin.entries r.store.entries) (fin.entries_sorted r.store.entries)
    ∙ ap (λ o. one (shows (is_shown r) x o)) (sym (fin.get-entries r.store.entries (dot_of x)))

put_in : (test : Test) (x : Row) (m : Entries) (d : Dot) (p : Presence) → fin.get m d ≡ None →
    held test x (fin.insert m d p) ≡ one (has test x (d, p)) + held test x m
put_in test x m d p none = ap (λ o. one (shows test x o)) (get-insert m d (dot_of x) p) ∙ go (is_dot (dot_of x) d) refl
  where
    go : (b : Bool) → is_dot (dot_of x) d ≡ b → one (shows test x (cond b (Some p) (fin.get m (dot_of x)))) ≡ one (has test x (d, p)) + held test x m
    go true h =
        let empty : held test x m ≡ 0 = ap (λ o. one (shows test x o)) (ap (fin.get m) (is_dot-true (dot_of x) d h) ∙ none) in
        let here = on test x d p h in
        omega (arith, empty, here)
    go false h = let here = off test x (d, p) h in omega (arith, here)

taken_out : (test : Test) (x : Row) (m : Entries) (d : Dot) →
    held test x m ≡ times x (rows test (found_at d (fin.get m d))) + held test x (fin.remove m d)
taken_out test x m d =
    go (fin.get m d) refl (is_dot (dot_of x) d) refl
    ∙ ap (λ o. times x (rows test (found_at d (fin.get m d))) + one (shows test x o)) (sym (get-remove m d (dot_of x)))
  where
    at : (o : Option Presence) → fin.get m d ≡ o → is_dot (dot_of x) d ≡ true → held test x m ≡ one (shows test x o)
    at o is h = ap (λ o. one (shows test x o)) (ap (fin.get m) (is_dot-true (dot_of x) d h) ∙ is)

    go : (o : Option Presence) → fin.get m d ≡ o → (b : Bool) → is_dot (dot_of x) d ≡ b →
        held test x m ≡ times x (rows test (found_at d o)) + one (shows test x (cond b None (fin.get m (dot_of x))))
    go None is true h = let here = at None is h in omega (arith, here)
    go None is false h = omega arith
    go (Some p) is true h =
        let here = at (Some p) is h in
        let all = more_times test x (d, p) [] in
        let same = on test x d p h in
        omega (arith, here, all, same)
    go (Some p) is false h = let all = more_times test x (d, p) [] in let none = off test x (d, p) h in omega (arith, all, none)

pub all_put_in : (test : Test) (x : Row) (ps : List (Dot × Presence)) (m : Entries) → AreNew ps m →
    held test x (with_each ps m) ≡ times x (rows test ps) + held test x m
all_put_in test x [] m new = omega arith
all_put_in test x (p ∷ ps) m new =
    let rest = all_put_in test x ps (fin.insert m p.0 p.1) new.1 in
    let here = put_in test x m p.0 p.1 new.0 in
    let all = more_times test x p ps in
    omega (arith, rest, here, all)

same_found : (ds : List Dot) (d : Dot) (m : Entries) → AllByRecursion (λ (e : Dot). e ≢ d) ds → found_each ds (fin.remove m d) ≡ found_each ds m
same_found [] d m differ = refl
same_found (e ∷ ds) d m differ =
    ap (λ o. found_at e o ++ found_each ds (fin.remove m d)) (get_remove_other m d e differ.0)
    ∙ ap (λ l. found_at e (fin.get m e) ++ l) (same_found ds d m differ.1)

pub all_taken_out : (test : Test) (x : Row) (ds : List Dot) (m : Entries) → Differ ds →
    held test x m ≡ times x (rows test (found_each ds m)) + held test x (without_each ds m)
all_taken_out test x [] m differ = omega arith
all_taken_out test x (d ∷ ds) m differ =
    let here = taken_out test x m d in
    let rest = all_taken_out test x ds (fin.remove m d) differ.1 in
    let same = ap (λ l. times x (rows test l)) (same_found ds d m differ.0) in
    let both = both_times test x (found_at d (fin.get m d)) (found_each ds m) in
    omega (arith, here, rest, same, both)

-- what two lists of rows have alone

among_some : (x : Row) (ys : List Row) → is_among ys x ≡ true → 1 ≤ times x ys
among_some x [] h = absurd (true≢false (sym h))
among_some x (y ∷ ys) h = go (among_some x ys) (is_row x y) refl h
  where
    go : (is_among ys x ≡ true → 1 ≤ times x ys) → (b : Bool) → is_row x y ≡ b → (b || is_among ys x) ≡ true → 1 ≤ times x (y ∷ ys)
    go more true is h = let all = sum_by-cons (λ r. one (is_row x r)) y ys in let here = ap one is in omega (arith, all, here)
    go more false is h = let all = sum_by-cons (λ r. one (is_row x r)) y ys in let rest = more h in omega (arith, all, rest)

among_none : (x : Row) (ys : List Row) → is_among ys x ≡ false → times x ys ≡ 0
among_none x [] h = refl
among_none x (y ∷ ys) h = go (among_none x ys) (is_row x y) refl h
  where
    go : (is_among ys x ≡ false → times x ys ≡ 0) → (b : Bool) → is_row x y ≡ b → (b || is_among ys x) ≡ false → times x (y ∷ ys) ≡ 0
    go more true is h = absurd (true≢false h)
    go more false is h = let all = sum_by-cons (λ r. one (is_row x r)) y ys in let here = ap one is in let rest = more h in omega (arith, all, here, rest)

pub times_alone : (x : Row) (xs ys : List Row) → times x (alone xs ys) ≡ cond (is_among ys x) 0 (times x xs)
times_alone x [] ys = go (is_among ys x)
  where
    go : (b : Bool) → times x [] ≡ cond b 0 (times x [])
    go true = refl
    go false = refl
times_alone x (r ∷ rs) ys = go (is_row x r) refl (is_among ys r) refl (is_among ys x) refl (times_alone x rs ys)
  where
    all : times x (r ∷ rs) ≡ one (is_row x r) + times x rs
    all = sum_by-cons (λ z. one (is_row x z)) r rs

    also : times x (r ∷ alone rs ys) ≡ one (is_row x r) + times x (alone rs ys)
    also = sum_by-cons (λ z. one (is_row x z)) r (alone rs ys)

    go : (b : Bool) → is_row x r ≡ b → (c : Bool) → is_among ys r ≡ c → (d : Bool) → is_among ys x ≡ d →
        times x (alone rs ys) ≡ cond d 0 (times x rs) → times x (cond (not c) (r ∷ alone rs ys) (alone rs ys)) ≡ cond d 0 (times x (r ∷ rs))
    go b is true at true there rest = rest
    go true is true at false there rest = absurd (true≢false (sym at ∙ ap (is_among ys) (sym (is_row-true x r is)) ∙ there))
    go false is true at false there rest = let here = ap one is in omega (arith, all, here, rest)
    go true is false at true there rest = absurd (true≢false (sym there ∙ ap (is_among ys) (is_row-true x r is) ∙ at))
    go false is false at true there rest = let here = ap one is in omega (arith, also, here, rest)
    go b is false at false there rest = omega (arith, all, also, rest)

-- and so what one list has alone, where no row stands in it twice
pub times_less : (x : Row) (xs ys : List Row) → times x xs ≤ 1 → times x (alone xs ys) ≡ times x xs - times x ys
times_less x xs ys once = times_alone x xs ys ∙ go (is_among ys x) refl
  where
    go : (c : Bool) → is_among ys x ≡ c → cond c 0 (times x xs) ≡ times x xs - times x ys
    go true h = let some = among_some x ys h in omega (arith, some, once)
    go false h = let none = among_none x ys h in omega (arith, none)

is_list : (r : Replica) → IsOnlineList r (online_of r)
is_list r = (online_holds r (online_of r)).1 refl

pub online_times : (r : Replica) (x : Row) → times x (shown r) ≡ times x (online_of r)
online_times r x = sym (sum_by-IsPermutation (λ y. one (is_row x y)) (shown r) (online_of r) (is_list r).rows_shown)

-- what is shown of two replicas: some rows of the first alone, some of the second alone, and the same rest
module _ (a b : Replica) (ps qs : List Row) (rest : Row → ℕ) (before : (x : Row) → times x (shown a) ≡ times x ps + rest x)
    (after : (x : Row) → times x (shown b) ≡ times x qs + rest x) (apart : (x : Row) → times x ps + times x qs + rest x ≤ 1) where
  counted : (x : Row) → times x (alone (online_of a) (online_of b)) ≡ times x ps
  counted x = times_alone x (online_of a) (online_of b) ∙ go (is_among (online_of b) x) refl
    where
      go : (c : Bool) → is_among (online_of b) x ≡ c → cond c 0 (times x (online_of a)) ≡ times x ps
      go true h =
          let some = among_some x (online_of b) h in
          let there = online_times b x in
          let then = after x in
          let few = apart x in
          omega (arith, some, there, then, few)
      go false h =
          let none = among_none x (online_of b) h in
          let there = online_times b x in
          let then = after x in
          let here = online_times a x in
          let was = before x in
          omega (arith, none, there, then, here, was)

  pub first_alone : in_order ps ≡ alone (online_of a) (online_of b)
  first_alone =
      same_rows (in_order ps) (alone (online_of a) (online_of b)) (in_order_rises ps (λ x. let few = apart x in omega (arith, few)))
      (diff_holds.in_order (online_of a) (online_of b) (is_list a).in_order) (λ x. times_in_order x ps ∙ sym (counted x))
