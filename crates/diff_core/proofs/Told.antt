-- That a change names the rows that its call took from the online list and gave to it.
use Rattle.std.proofs.Common.{◌≡◌, ◌⊎◌, inl, inr, ℕ, ◌+◌, ◌≤◌, ◌&&◌, ◌||◌, not, Bool, true, false, cond, List, [], ◌∷◌}
use Rattle.std.proofs.Common.{Option, Some, None, refl, sym, ap, ◌∙◌, arith, true≢false}
use Rattle.std.specs.List.{list_any}
use Rattle.std.specs.FinMap as fin
use Rattle.dots_core.specs.declared.dot.Dot.{Dot}
use Rattle.dots_core.proofs.Order.{is_dot}
use Rattle.payload_core.specs.Presences.{Presence, Entries}
use Rattle.payload_core.specs.EntryLists.{pairs}
use Rattle.store_core.specs.EntryMoves.{AreNew, with_each, without_each}
use Rattle.store_core.specs.LeavesTogether.{Differ}
use Rattle.block_core.proofs.EntryMaps.{get-insert}
use Rattle.store_core.proofs.PutBack.{get-without_each}
use Rattle.replica_core.specs.Replicas.{Replica, is_online}
use Rattle.replica_core.specs.Changes.{Change, ChangeLeadsSomewhere, back}
use Rattle.replica_core.specs.Moves.{Moves, hidden_by, is_named, joined_by, left_by, shown_by}
use Rattle.replica_core.proofs.Back.{back_holds}
use Rattle.replica_core.proofs.Moves.{moves_hold}
use Rattle.std.specs.List.Sorted.{IsPermutation, IsSorted}
use Rattle.std.proofs.lemmas.List.Sorted.{sum_by-IsPermutation, sorted_far, ranks_by}
use Rattle.diff_core.specs.RowOrder.{row_total}
use Rattle.diff_core.specs.Rows.{Row, is_among, row_cmp, row_of}
use Rattle.diff_core.specs.Online.{shown, is_shown}
use Rattle.diff_core.specs.Diffs.{alone}
use Rattle.diff_core.specs.Sorting.{in_order, online_of}
use Rattle.diff_core.specs.ChangedRows.{found_each, given_rows, rows_or, rows_shown, taken_rows}
use Rattle.diff_core.specs.Laws.{ChangedLaw, Tells}
use Rattle.diff_core.proofs.Order.{is_row}
use Rattle.diff_core.proofs.Listed.{one, once_passed, once_shown, rises, same_rows, times, dot_of}
use Rattle.diff_core.proofs.Sorting.{in_order_rises, times_in_order}
use Rattle.diff_core.proofs.Counted.{Test, all_put_in, all_taken_out, first_alone, held, more_times, most, online_times, rows, shown_times, shows, times_alone}

-- the rows of two replicas, and of each what the other hasn't
module _ (change : Change) (b a : Replica) (rest : Row → ℕ)
    (before : (x : Row) → times x (shown a) ≡ times x (taken_rows change b) + rest x)
    (after : (x : Row) → times x (shown b) ≡ times x (given_rows change b) + rest x)
    (apart : (x : Row) → times x (taken_rows change b) + times x (given_rows change b) + rest x ≤ 1) where
  pub told : Tells change b a
  told = record {
    left = first_alone a b (taken_rows change b) (given_rows change b) rest before after apart;
    joined = first_alone b a (given_rows change b) (taken_rows change b) rest after before
        (λ x. let few = apart x in omega (arith, few));
  }

-- a map that has no more dots than one has room for what that one has room for
new_there : (ps : List (Dot × Presence)) (m n : Entries) → ((q : Dot) → fin.get m q ≡ None → fin.get n q ≡ None) → AreNew ps m → AreNew ps n
new_there [] m n fewer new = tt
new_there (p ∷ ps) m n fewer new = (
  fewer p.0 new.0,
  new_there ps (fin.insert m p.0 p.1) (fin.insert n p.0 p.1)
      (λ q none. get-insert n p.0 q p.1 ∙ there (is_dot q p.0) p.1 (fin.get m q) (fin.get n q) (fewer q) (sym (get-insert m p.0 q p.1) ∙ none))
      new.1,
)
  where
    there : (b : Bool) (v : Presence) (one other : Option Presence) → (one ≡ None → other ≡ None) → cond b (Some v) one ≡ None →
        cond b (Some v) other ≡ None
    there true v one other fewer none = absurd (cc)
    there false v one other fewer none = fewer none

none_out : (ds : List Dot) (m : Entries) (q : Dot) → fin.get m q ≡ None → fin.get (without_each ds m) q ≡ None
none_out ds m q none = get-without_each ds m q ∙ ap (cond (list_any (is_dot q) ds) None) none ∙ go (list_any (is_dot q) ds)
  where
    go : (b : Bool) → cond {A = Option Presence} b None None ≡ None
    go true = refl
    go false = refl

-- the entries of a are those of b, without some dots and with some pairs; the same names are up
module _ (change : Change) (b a : Replica) (ds : List Dot) (ps : List (Dot × Presence)) (up : (n : ℕ) → is_online a n ≡ is_online b n)
    (entries : a.store.entries ≡ with_each ps (without_each ds b.store.entries)) (gone : AreNew ps b.store.entries) (differ : Differ ds)
    (left : taken_rows change b ≡ rows_shown b ps) (joined : given_rows change b ≡ rows_shown b (found_each ds b.store.entries)) where
  new : AreNew ps (without_each ds b.store.entries)
  new = new_there ps b.store.entries (without_each ds b.store.entries) (none_out ds b.store.entries) gone

  at_first : (x : Row) → times x (shown a) ≡ times x (rows_shown b ps) + held (is_shown b) x (without_each ds b.store.entries)
  at_first x =
      shown_times a x
      ∙ (λ i. held (λ (e : Dot × Presence). up e.0.name i) x a.store.entries)
      ∙ ap (held (is_shown b) x) entries
      ∙ all_put_in (is_shown b) x ps (without_each ds b.store.entries) new

  at_last : (x : Row) → times x (shown b) ≡ times x (rows_shown b (found_each ds b.store.entries)) + held (is_shown b) x (without_each ds b.store.entries)
  at_last x = shown_times b x ∙ all_taken_out (is_shown b) x ds b.store.entries differ

  few : (x : Row) → times x (rows_shown b ps) + times x (rows_shown b (found_each ds b.store.entries)) +
      held (is_shown b) x (without_each ds b.store.entries) ≤ 1
  few x =
      let whole = all_put_in (is_shown b) x ps b.store.entries gone in
      let once = most (shows (is_shown b) x (fin.get (with_each ps b.store.entries) (dot_of x))) in
      let here = at_last x in
      let there = shown_times b x in
      omega (arith, whole, once, here, there)

  pub edited : Tells change b a
  edited = told change b a (λ x. held (is_shown b) x (without_each ds b.store.entries))
      (λ x. at_first x ∙ ap (λ l. times x l + held (is_shown b) x (without_each ds b.store.entries)) (sym left))
      (λ x. at_last x ∙ ap (λ l. times x l + held (is_shown b) x (without_each ds b.store.entries)) (sym joined))
      (λ x. let l = ap (times x) left in let j = ap (times x) joined in let f = few x in omega (arith, l, j, f))

-- of some entries, those that pass one test are those that pass either of two others
both_pass : (u n t : Test) → ((e : Dot × Presence) → one (u e) ≡ one (n e) + one (t e)) → (x : Row) (es : List (Dot × Presence)) →
    times x (rows u es) ≡ times x (rows n es) + times x (rows t es)
both_pass u n t split x [] = refl
both_pass u n t split x (e ∷ es) =
    let one_u = more_times u x e es in
    let one_n = more_times n x e es in
    let one_t = more_times t x e es in
    let rest = both_pass u n t split x es in
    let here = go (is_row x (row_of e)) in
    omega (arith, one_u, one_n, one_t, rest, here)
  where
    none : (b : Bool) → one (b && false) ≡ 0
    none true = refl
    none false = refl

    all : (b : Bool) → one (b && true) ≡ one b
    all true = refl
    all false = refl

    go : (r : Bool) → one (u e && r) ≡ one (n e && r) + one (t e && r)
    go true = let a = all (u e) in let b = all (n e) in let c = all (t e) in let s = split e in omega (arith, a, b, c, s)
    go false = let a = none (u e) in let b = none (n e) in let c = none (t e) in omega (arith, a, b, c)

-- the rows of a name's entries, if there is a name, are those of the entries that are of it
of_name : (name : Option ℕ) (r : Replica) (x : Row) →
    times x (rows_or name r []) ≡ times x (rows (λ e. is_named name e.0.name) (fin.entries r.store.entries))
of_name None r x = go (fin.entries r.store.entries)
  where
    go : (es : List (Dot × Presence)) → times x [] ≡ times x (rows (λ e. is_named None e.0.name) es)
    go [] = refl
    go (e ∷ es) = go es
of_name (Some name) r x = refl

-- the entries of a are those of b; some names are up in one alone
module _ (change : Change) (b a : Replica) (same : a.store.entries ≡ b.store.entries)
    (hidden : (n : ℕ) → is_named (hidden_by change) n ≡ (is_online a n && not (is_online b n)))
    (shows_up : (n : ℕ) → is_named (shown_by change) n ≡ (is_online b n && not (is_online a n)))
    (left : taken_rows change b ≡ rows_or (hidden_by change) b []) (joined : given_rows change b ≡ rows_or (shown_by change) b []) where
  abbrev in_both : Test
  in_both e = is_online a e.0.name && is_online b e.0.name

  first_split : (p q : Bool) → one p ≡ one (p && not q) + one (p && q)
  first_split true true = refl
  first_split true false = refl
  first_split false q = refl

  other_split : (p q : Bool) → one q ≡ one (q && not p) + one (p && q)
  other_split true true = refl
  other_split true false = refl
  other_split false true = refl
  other_split false false = refl

  either_split : (p q : Bool) → one (p || q) ≡ one (p && not q) + one q
  either_split true true = refl
  either_split true false = refl
  either_split false true = refl
  either_split false false = refl

  first_times : (x : Row) → times x (shown a) ≡ times x (taken_rows change b) + times x (rows in_both (fin.entries b.store.entries))
  first_times x =
      ap (λ (es : Entries). times x (rows (is_shown a) (fin.entries es))) same
      ∙ both_pass (is_shown a) (λ e. is_named (hidden_by change) e.0.name) in_both
      (λ e. first_split (is_online a e.0.name) (is_online b e.0.name)
      ∙ ap (λ t. one t + one (in_both e)) (sym (hidden e.0.name))) x (fin.entries b.store.entries)
      ∙ ap (λ n. n + times x (rows in_both (fin.entries b.store.entries))) (sym (ap (times x) left ∙ of_name (hidden_by change) b x))

  last_times : (x : Row) → times x (shown b) ≡ times x (given_rows change b) + times x (rows in_both (fin.entries b.store.entries))
  last_times x =
      both_pass (is_shown b) (λ e. is_named (shown_by change) e.0.name) in_both
      (λ e. other_split (is_online a e.0.name) (is_online b e.0.name)
      ∙ ap (λ t. one t + one (in_both e)) (sym (shows_up e.0.name))) x (fin.entries b.store.entries)
      ∙ ap (λ n. n + times x (rows in_both (fin.entries b.store.entries))) (sym (ap (times x) joined ∙ of_name (shown_by change) b x))

  in_either : (x : Row) → times x (rows (λ e. is_online a e.0.name || is_online b e.0.name) (fin.entries b.store.entries)) ≡
      times x (taken_rows change b) + times x (shown b)
  in_either x =
      both_pass (λ e. is_online a e.0.name || is_online b e.0.name) (λ e. is_named (hidden_by change) e.0.name) (is_shown b)
      (λ e. either_split (is_online a e.0.name) (is_online b e.0.name)
      ∙ ap (λ t. one t + one (is_online b e.0.name)) (sym (hidden e.0.name))) x (fin.entries b.store.entries)
      ∙ ap (λ n. n + times x (shown b)) (sym (ap (times x) left ∙ of_name (hidden_by change) b x))

  once_each : (x : Row) → times x (taken_rows change b) + times x (given_rows change b) + times x (rows in_both (fin.entries b.store.entries)) ≤ 1
  once_each x =
      let all = in_either x in
      let last = last_times x in
      let once = once_passed (λ e. is_online a e.0.name || is_online b e.0.name) b x in
      omega (arith, all, last, once)

  pub renamed : Tells change b a
  renamed = told change b a (λ x. times x (rows in_both (fin.entries b.store.entries))) first_times last_times once_each

-- where no name is up in one of two alone, the same ones are up
same_up : (p q : Bool) → false ≡ (q && not p) → false ≡ (p && not q) → p ≡ q
same_up true true shown hidden = refl
same_up true false shown hidden = absurd (true≢false (sym hidden))
same_up false true shown hidden = absurd (true≢false (sym shown))
same_up false false shown hidden = refl

moves_told : (change : Change) (b a : Replica) → Moves change b a → Tells change b a
moves_told change b a m = go m.one
  where
    go : ((left_by change ≡ []) × (joined_by change b ≡ [])) ⊎ ((shown_by change ≡ None) × (hidden_by change ≡ None)) → Tells change b a
    go (inl none) = renamed change b a
        (m.entries ∙ (λ i. with_each (pairs (none.0 i)) (without_each (none.1 i) b.store.entries))) m.hidden m.shown
        (ap (λ es. rows_or (hidden_by change) b (rows_shown b (pairs es))) none.0)
        (ap (λ ds. rows_or (shown_by change) b (rows_shown b (found_each ds b.store.entries))) none.1)
    go (inr none) = edited change b a (joined_by change b) (pairs (left_by change))
        (λ n. same_up (is_online a n) (is_online b n) (sym (ap (λ o. is_named o n) none.0) ∙ m.shown n)
        (sym (ap (λ o. is_named o n) none.1) ∙ m.hidden n))
        m.entries m.gone m.differ
        (ap (λ o. rows_or o b (rows_shown b (pairs (left_by change)))) none.1)
        (ap (λ o. rows_or o b (rows_shown b (found_each (joined_by change b) b.store.entries))) none.0)

pub changed_holds : ChangedLaw
changed_holds change b a h = moves_told change b a (moves_hold change b a h)

-- rows that are told, sorted
sorted_alone : (a b : Replica) (ps sorted : List Row) → in_order ps ≡ alone (online_of a) (online_of b) → IsPermutation ps sorted →
    IsSorted row_cmp sorted → sorted ≡ alone (online_of a) (online_of b)
sorted_alone a b ps sorted is moved order =
    same_rows sorted (in_order ps)
    (rises sorted (λ x. let p = counts x in let o = once x in omega (arith, p, o))
    (λ i j d below within. sorted_far _ (ranks_by row_total (λ a. a)) sorted order i j d (omega arith) within))
    (in_order_rises ps once) (λ x. sym (counts x) ∙ sym (times_in_order x ps))
    ∙ is
  where
    counts : (x : Row) → times x ps ≡ times x sorted
    counts x = sym (sum_by-IsPermutation (λ y. one (is_row x y)) ps sorted moved)

    few : (c : Bool) (n : ℕ) → n ≤ 1 → cond c 0 n ≤ 1
    few true n h = omega arith
    few false n h = h

    once : (x : Row) → times x ps ≤ 1
    once x =
        let here = online_times a x in
        let most = once_shown a x in
        let all = few (is_among (online_of b) x) (times x (online_of a)) (omega (arith, here, most)) in
        let same = sym (times_in_order x ps) ∙ ap (times x) is ∙ times_alone x (online_of a) (online_of b) in
        omega (arith, all, same)

module _ (change : Change) (b : Replica) (h : ChangeLeadsSomewhere change b) (collected sorted : List Row) (moved : IsPermutation collected sorted)
    (order : IsSorted row_cmp sorted) where
  tells : Tells change b h.0
  tells = changed_holds change b h.0 h.1

  earlier : back change b ≡ h.0
  earlier = back_holds change b h.0 h.1

  pub told_left : collected ≡ taken_rows change b → sorted ≡ alone (online_of (back change b)) (online_of b)
  told_left is =
      sorted_alone h.0 b collected sorted (ap in_order is ∙ tells.left) moved order
      ∙ ap (λ (a : Replica). alone (online_of a) (online_of b)) (sym earlier)

  pub told_joined : collected ≡ given_rows change b → sorted ≡ alone (online_of b) (online_of (back change b))
  told_joined is =
      sorted_alone b h.0 collected sorted (ap in_order is ∙ tells.joined) moved order
      ∙ ap (λ (a : Replica). alone (online_of b) (online_of a)) (sym earlier)
