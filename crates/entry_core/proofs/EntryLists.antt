-- A list of entries that rises by dot: what an edit of it, and a search in it, are for the map of its presences.
use Rattle.std.proofs.Common.{◌≡◌, ◌==◌, ℕ, zero, suc, ◌+◌, ◌<◌, ◌≤◌, Bool, true, false, cond, ◌&&◌, T, List, [], ◌∷◌, length, map, filter, get_or, Option}
use Rattle.std.proofs.Common.{Some, None, Result, Ok, Err, Ordering, Less, Equal, Greater, refl, sym, ap, subst, ◌∙◌, arith, eqb-true}
use Rattle.std.proofs.Math.Facts.{and_yes, yes_and}
use Rattle.std.specs.List.{slice_get, insert, remove, AllWithin}
use Rattle.std.specs.List.{find as list_find}
use Rattle.std.proofs.lemmas.List.{length-map}
use Rattle.std.specs.List.Sorted.{IsBinarySearchResult, IsSearchInRange}
use Rattle.std.specs.Option.{option_map}
use Rattle.std.specs.Ordering.{is_lt, is_eq, ordering_reverse}
use Rattle.std.specs.Cmp.{tied_itself}
use Rattle.std.specs.FinMap as fin
use Rattle.std.specs.FinMap.Entries.{by_order, put, find, below_all, is_sorted, is_sorted-put, where_key, is_sorted-where_key, find-where_key}
use Rattle.std.proofs.lemmas.List.Sorted.{searchable_from_sorted}
use Rattle.dots_core.specs.declared.dot.Dot.{Dot}
use Rattle.dots_core.specs.Dots.{dot_cmp}
use Rattle.dots_core.proofs.Order.{dot_total, dot_exact, same_of_tied, less, is_dot, is_dot-true}
use Rattle.entry_core.specs.Presences.{Presence, Entry, Entries, presence_of, entry_of, dots_of}
use Rattle.entry_core.specs.EntryLists.{pair_of, pairs, IsBefore, IsBehind, Rises, entries_of, one_later, spot}

-- the list's map

pub entries-entries_of : (es : List Entry) → Rises es → fin.entries (entries_of es) ≡ pairs es
entries-entries_of es h = fin.entries-from_sorted dot_cmp (pairs es) h

pub get-entries_of : (es : List Entry) (d : Dot) → Rises es → fin.get (entries_of es) d ≡ find dot_cmp d (pairs es)
get-entries_of es d h = fin.get-from_sorted dot_cmp (pairs es) d h

pub len-entries_of : (es : List Entry) → Rises es → fin.len (entries_of es) ≡ length es
len-entries_of es h = fin.len-entries (entries_of es) ∙ ap length (entries-entries_of es h) ∙ length-map es pair_of

abbrev entry_of_pair : Dot × Presence → Entry
entry_of_pair p = entry_of p.0 p.1

pub entries_back : (es : List Entry) → map entry_of_pair (pairs es) ≡ es
entries_back [] = refl
entries_back (e ∷ es) = ap (λ rest. e ∷ rest) (entries_back es)

-- two lists that rise are one where their maps are
pub same_lists : (es fs : List Entry) → Rises es → Rises fs → entries_of es ≡ entries_of fs → es ≡ fs
same_lists es fs h k same =
    let alike : pairs es ≡ pairs fs = sym (entries-entries_of es h) ∙ ap fin.entries same ∙ entries-entries_of fs k in
    sym (entries_back es) ∙ ap (map entry_of_pair) alike ∙ entries_back fs

get_pairs : (es : List Entry) (i : ℕ) → option_map entry_of_pair (slice_get (pairs es) i) ≡ slice_get es i
get_pairs [] i = refl
get_pairs (e ∷ es) zero = refl
get_pairs (e ∷ es) (suc i) = get_pairs es i

-- the entry at a place
pub entry_at : (es : List Entry) (i : ℕ) → Rises es →
    option_map (λ p. entry_of p.0 p.1) (slice_get (fin.entries (entries_of es)) i) ≡ slice_get es i
entry_at es i h = ap (λ ps. option_map entry_of_pair (slice_get ps i)) (entries-entries_of es h) ∙ get_pairs es i

-- dots above one dot

below_through : (d x : Dot) (ps : List (Dot × Presence)) → dot_cmp d x ≡ Less → T (below_all dot_cmp x ps) → T (below_all dot_cmp d ps)
below_through d x [] l h = tt
below_through d x (p ∷ ps) l h =
    yes_and _ _ (subst (λ o. T (is_lt o)) (sym (dot_total.trans d x p.0 l (less _ (and_yes _ _ h).0))) tt)
    (below_through d x ps l (and_yes _ _ h).1)

none_below : (d : Dot) (ps : List (Dot × Presence)) → T (below_all dot_cmp d ps) → find dot_cmp d ps ≡ None
none_below d [] h = refl
none_below d (p ∷ ps) h =
    ap (λ o. cond (is_eq o) (Some p.1) (find dot_cmp d ps)) (less _ (and_yes _ _ h).0) ∙ none_below d ps (and_yes _ _ h).1

below_at : (d : Dot) (es : List Entry) (k : ℕ) (x : Entry) → T (below_all dot_cmp d (pairs es)) → k < length es →
    dot_cmp d (get_or es k x).dot ≡ Less
below_at d [] k x h within = absurd (omega arith)
below_at d (e ∷ es) zero x h within = less _ (and_yes _ _ h).0
below_at d (e ∷ es) (suc k) x h within = below_at d es k x (and_yes _ _ h).1 (omega arith)

pub turned : (a b : Dot) (o : Ordering) → dot_cmp a b ≡ o → dot_cmp b a ≡ ordering_reverse o
turned a b o e = dot_total.antisymm b a ∙ ap ordering_reverse e

-- the place that a search gives

module _ (d : Dot) where
  pub at_less : (e : Entry) (es : List Entry) → dot_cmp d e.dot ≡ Less → spot d (e ∷ es) ≡ Err 0
  at_less e es l = ap (λ o. by_order o (Err 0) (Ok 0) (one_later (spot d es))) l

  pub at_equal : (e : Entry) (es : List Entry) → dot_cmp d e.dot ≡ Equal → spot d (e ∷ es) ≡ Ok 0
  at_equal e es l = ap (λ o. by_order o (Err 0) (Ok 0) (one_later (spot d es))) l

  pub at_greater : (e : Entry) (es : List Entry) → dot_cmp d e.dot ≡ Greater → spot d (e ∷ es) ≡ one_later (spot d es)
  at_greater e es l = ap (λ o. by_order o (Err 0) (Ok 0) (one_later (spot d es))) l

  found_spot : (es : List Entry) (k : ℕ) → Rises es → k < length es → ((x : Entry) → dot_cmp (get_or es k x).dot d ≡ Equal) →
      spot d es ≡ Ok k
  found_spot [] k h within tie = absurd (omega arith)
  found_spot (e ∷ es) zero h within tie = at_equal e es (turned e.dot d Equal (tie e))
  found_spot (e ∷ es) (suc k) h within tie =
      let below : dot_cmp e.dot (get_or es k e).dot ≡ Less = below_at e.dot es k e (and_yes _ _ h).0 (omega arith) in
      let here : (get_or es k e).dot ≡ d = dot_exact _ _ (tie e) in
      at_greater e es (turned e.dot d Less (subst (λ x. dot_cmp e.dot x ≡ Less) here below))
      ∙ ap one_later (found_spot es k (and_yes _ _ h).1 (omega arith) tie)

  missed_spot : (es : List Entry) (i : ℕ) → i ≤ length es → AllWithin (λ (x : Entry). dot_cmp x.dot d ≡ Less) es 0 i →
      AllWithin (λ (x : Entry). dot_cmp x.dot d ≡ Greater) es i (length es) → spot d es ≡ Err i
  missed_spot [] i within low high = let none : i ≡ 0 = omega arith in ap Err (sym none)
  missed_spot (e ∷ es) zero within low high = at_less e es (turned e.dot d Greater (high 0 e (omega arith) (omega arith)))
  missed_spot (e ∷ es) (suc i) within low high =
      at_greater e es (turned e.dot d Less (low 0 e (omega arith) (omega arith)))
      ∙ ap one_later (missed_spot es i (omega arith) (λ k x _ above. low (suc k) x (omega arith) (omega arith))
      (λ k x from above. high (suc k) x (omega arith) (omega arith)))

-- a place that was guessed

pub same_dot : (a b : Dot) → (a.name == b.name && a.clock == b.clock) ≡ true → a ≡ b
same_dot a b h =
    let name : a.name ≡ b.name = eqb-true a.name b.name (and_left (a.name == b.name) (a.clock == b.clock) h) in
    let clock : a.clock ≡ b.clock = eqb-true a.clock b.clock (and_right (a.name == b.name) (a.clock == b.clock) h) in
    λ i. record { name = name i; clock = clock i }
  where
    and_left : (x y : Bool) → (x && y) ≡ true → x ≡ true
    and_left true y h = refl
    and_left false y h = h

    and_right : (x y : Bool) → (x && y) ≡ true → y ≡ true
    and_right true y h = h
    and_right false y h = absurd (cc)

below_slot : (d : Dot) (es : List Entry) (k : ℕ) (e : Entry) → T (below_all dot_cmp d (pairs es)) → slice_get es k ≡ Some e →
    dot_cmp d e.dot ≡ Less
below_slot d [] k e h at = absurd (cc)
below_slot d (x ∷ es) zero e h at =
    let is : x ≡ e = cc in subst (λ (y : Entry). dot_cmp d y.dot ≡ Less) is (less _ (and_yes _ _ h).0)
below_slot d (x ∷ es) (suc k) e h at = below_slot d es k e (and_yes _ _ h).1 at

some_slot : (es : List Entry) (j : ℕ) → j < length es → (e : Entry) × (slice_get es j ≡ Some e)
some_slot [] j within = absurd (omega arith)
some_slot (x ∷ es) zero within = (x, refl)
some_slot (x ∷ es) (suc j) within = some_slot es j (omega arith)

is_less : (o : Ordering) → is_lt o ≡ true → o ≡ Less
is_less o h = less o (subst T (sym h) tt)

pub slot_within : (es : List Entry) (k : ℕ) (e : Entry) → slice_get es k ≡ Some e → k < length es
slot_within [] k e at = absurd (cc)
slot_within (x ∷ es) zero e at = omega arith
slot_within (x ∷ es) (suc k) e at = let more = slot_within es k e at in omega (arith, more)

module _ (d : Dot) where
  pub spot_found : (es : List Entry) (k : ℕ) (e : Entry) → Rises es → slice_get es k ≡ Some e → e.dot ≡ d → spot d es ≡ Ok k
  spot_found [] k e up at same = absurd (cc)
  spot_found (x ∷ es) zero e up at same =
      let is : x ≡ e = cc in
      let one : d ≡ x.dot = sym (ap (λ (y : Entry). y.dot) is ∙ same) in
      at_equal d x es (subst (λ k. dot_cmp d k ≡ Equal) one (tied_itself dot_total d))
  spot_found (x ∷ es) (suc k) e up at same =
      let low = subst (λ q. dot_cmp x.dot q ≡ Less) same (below_slot x.dot es k e (and_yes _ _ up).0 at) in
      at_greater d x es (turned x.dot d Less low) ∙ ap one_later (spot_found es k e (and_yes _ _ up).1 at same)

  pub spot_gap : (es : List Entry) (i : ℕ) → Rises es → i ≤ length es → IsBehind d es i → IsBefore d es i → spot d es ≡ Err i
  spot_gap [] i up within low high = let none : 0 ≡ i = omega (arith, within) in ap Err none
  spot_gap (x ∷ es) zero up within low high = at_less d x es (is_less _ (high x refl))
  spot_gap (x ∷ es) (suc i) up within low high =
      at_greater d x es (turned x.dot d Less (first i within low))
      ∙ ap one_later (spot_gap es i (and_yes _ _ up).1 (omega arith) (λ j e is at. low (suc j) e (ap suc is) at) high)
    where
      first : (i : ℕ) → suc i ≤ suc (length es) → IsBehind d (x ∷ es) (suc i) → dot_cmp x.dot d ≡ Less
      first zero within low = is_less _ (low 0 x refl refl)
      first (suc j) within low =
          let here = some_slot es j (omega arith) in
          dot_total.trans x.dot here.0.dot d (below_slot x.dot es j here.0 (and_yes _ _ up).0 here.1) (is_less _ (low (suc j) here.0 refl here.1))

rising_pairs : (es : List Entry) (k : ℕ) (x : Entry) → Rises es → suc k < length es →
    is_lt (dot_cmp (get_or es (suc k) x).dot (get_or es k x).dot) ≡ false
rising_pairs [] k x h within = absurd (omega arith)
rising_pairs (e ∷ es) zero x h within =
    ap is_lt (turned e.dot (get_or es 0 x).dot Less (below_at e.dot es 0 x (and_yes _ _ h).0 (omega arith)))
rising_pairs (e ∷ es) (suc k) x h within = rising_pairs es k x (and_yes _ _ h).1 (omega arith)

-- what a binary search answers
pub searched : (d : Dot) (es : List Entry) (r : Result ℕ ℕ) → Rises es → IsSearchInRange r (length es) →
    IsBinarySearchResult (λ (e : Entry). dot_cmp e.dot d) es r → r ≡ spot d es
searched d es (Ok k) h within is = sym (found_spot d es k h within is)
searched d es (Err i) h within is =
    let next : (k : ℕ) → suc k ≡ k + 1 = λ k. omega arith in
    let adjacent : (k : ℕ) (x : Entry) → k + 1 < length es → is_lt (dot_cmp (get_or es (k + 1) x).dot (get_or es k x).dot) ≡ false =
    λ k x more. subst (λ m. is_lt (dot_cmp (get_or es m x).dot (get_or es k x).dot) ≡ false) (next k) (rising_pairs es k x h (omega arith))
    in
    let parts = is (searchable_from_sorted dot_total (λ (e : Entry). e.dot) es d (λ k x _ more. adjacent k x more)) in
    sym (missed_spot d es i within parts.0 parts.1)

-- what stands at the place

pub later_ok : (r : Result ℕ ℕ) (i : ℕ) → one_later r ≡ Ok i → (j : ℕ) × (r ≡ Ok j) × (i ≡ suc j)
later_ok (Ok j) i e = let is : suc j ≡ i = cc in (j, refl, sym is)
later_ok (Err j) i e = absurd (cc)

pub later_err : (r : Result ℕ ℕ) (i : ℕ) → one_later r ≡ Err i → (j : ℕ) × (r ≡ Err j) × (i ≡ suc j)
later_err (Ok j) i e = absurd (cc)
later_err (Err j) i e = let is : suc j ≡ i = cc in (j, refl, sym is)

module _ (d : Dot) where
  -- a dot that is found: its place, and the entry there
  pub found_at : (es : List Entry) (i : ℕ) → spot d es ≡ Ok i →
      (i < length es) × (option_map (entry_of d) (find dot_cmp d (pairs es)) ≡ slice_get es i)
  found_at [] i e = absurd (cc)
  found_at (x ∷ es) i e = go (dot_cmp d x.dot) refl (found_at es) e
    where
      go : (o : Ordering) → dot_cmp d x.dot ≡ o →
          ((j : ℕ) → spot d es ≡ Ok j → (j < length es) × (option_map (entry_of d) (find dot_cmp d (pairs es)) ≡ slice_get es j)) →
          by_order o (Err 0) (Ok 0) (one_later (spot d es)) ≡ Ok i →
          (i < suc (length es)) × (option_map (entry_of d) (cond (is_eq (dot_cmp d x.dot)) (Some (presence_of x))
          (find dot_cmp d (pairs es))) ≡ slice_get (x ∷ es) i)
      go Less o again e = absurd (cc)
      go Equal o again e =
          let here : 0 ≡ i = cc in
          let same : d ≡ x.dot = dot_exact d x.dot o in (
            omega arith,
            ap (λ t. option_map (entry_of d) (cond (is_eq t) (Some (presence_of x)) (find dot_cmp d (pairs es)))) o
                ∙ ap (λ k. Some (entry_of k (presence_of x))) same
                ∙ ap (slice_get (x ∷ es)) here,
          )
      go Greater o again e =
          let rest = later_ok (spot d es) i e in
          let more = again rest.0 rest.1 in (
            omega (arith, more.0, rest.2),
            ap (λ t. option_map (entry_of d) (cond (is_eq t) (Some (presence_of x)) (find dot_cmp d (pairs es)))) o
                ∙ more.1 ∙ ap (slice_get (x ∷ es)) (sym rest.2),
          )

  pub missing_at : (es : List Entry) (i : ℕ) → Rises es → spot d es ≡ Err i → (i ≤ length es) × (find dot_cmp d (pairs es) ≡ None)
  missing_at [] i h e = let here : 0 ≡ i = cc in (omega arith, refl)
  missing_at (x ∷ es) i h e = go (dot_cmp d x.dot) refl (λ j. missing_at es j (and_yes _ _ h).1) e
    where
      go : (o : Ordering) → dot_cmp d x.dot ≡ o → ((j : ℕ) → spot d es ≡ Err j → (j ≤ length es) × (find dot_cmp d (pairs es) ≡ None)) →
          by_order o (Err 0) (Ok 0) (one_later (spot d es)) ≡ Err i →
          (i ≤ suc (length es)) × (cond (is_eq (dot_cmp d x.dot)) (Some (presence_of x)) (find dot_cmp d (pairs es)) ≡ None)
      go Less o again e =
          let here : 0 ≡ i = cc in (
            omega arith,
            ap (λ t. cond (is_eq t) (Some (presence_of x)) (find dot_cmp d (pairs es))) o
                ∙ none_below d (pairs es) (below_through d x.dot (pairs es) o (and_yes _ _ h).0),
          )
      go Equal o again e = absurd (cc)
      go Greater o again e =
          let rest = later_err (spot d es) i e in
          let more = again rest.0 rest.1 in (
            omega (arith, more.0, rest.2),
            ap (λ t. cond (is_eq t) (Some (presence_of x)) (find dot_cmp d (pairs es))) o ∙ more.1,
          )

-- edits

pairs_insert : (e : Entry) (es : List Entry) (i : ℕ) → spot e.dot es ≡ Err i →
    put dot_cmp e.dot (presence_of e) (pairs es) ≡ pairs (insert es i e)
pairs_insert e [] i h = let here : 0 ≡ i = cc in ap (λ k. pairs (insert [] k e)) here
pairs_insert e (x ∷ es) i h = go (dot_cmp e.dot x.dot) (pairs_insert e es) h
  where
    go : (o : Ordering) → ((j : ℕ) → spot e.dot es ≡ Err j → put dot_cmp e.dot (presence_of e) (pairs es) ≡ pairs (insert es j e)) →
        by_order o (Err 0) (Ok 0) (one_later (spot e.dot es)) ≡ Err i →
        by_order o (pair_of e ∷ pair_of x ∷ pairs es) ((x.dot, presence_of e) ∷ pairs es)
        (pair_of x ∷ put dot_cmp e.dot (presence_of e) (pairs es)) ≡ pairs (insert (x ∷ es) i e)
    go Less again h = let here : 0 ≡ i = cc in ap (λ k. pairs (insert (x ∷ es) k e)) here
    go Equal again h = absurd (cc)
    go Greater again h =
        let rest = later_err (spot e.dot es) i h in
        ap (λ ps. pair_of x ∷ ps) (again rest.0 rest.1) ∙ ap (λ k. pairs (insert (x ∷ es) k e)) (sym rest.2)

pub Rises-insert : (e : Entry) (es : List Entry) (i : ℕ) → spot e.dot es ≡ Err i → Rises es → Rises (insert es i e)
Rises-insert e es i h up =
    subst (λ ps. T (is_sorted dot_cmp ps)) (pairs_insert e es i h) (is_sorted-put dot_cmp dot_total e.dot (presence_of e) (pairs es) up)

pub entries_of-insert : (e : Entry) (es : List Entry) (i : ℕ) → spot e.dot es ≡ Err i → Rises es →
    entries_of (insert es i e) ≡ fin.insert (entries_of es) e.dot (presence_of e)
entries_of-insert e es i h up =
    fin.same_entries_map _ _ (entries-entries_of (insert es i e) (Rises-insert e es i h up)
    ∙ sym (fin.entries-insert dot_total (entries_of es) e.dot (presence_of e)
    ∙ ap (put dot_cmp e.dot (presence_of e)) (entries-entries_of es up) ∙ pairs_insert e es i h))

below_remove : (d : Dot) (es : List Entry) (i : ℕ) → T (below_all dot_cmp d (pairs es)) → T (below_all dot_cmp d (pairs (remove es i)))
below_remove d [] zero h = tt
below_remove d [] (suc i) h = tt
below_remove d (e ∷ es) zero h = (and_yes _ _ h).1
below_remove d (e ∷ es) (suc i) h = yes_and _ _ (and_yes _ _ h).0 (below_remove d es i (and_yes _ _ h).1)

pub Rises-remove : (es : List Entry) (i : ℕ) → Rises es → Rises (remove es i)
Rises-remove [] zero h = tt
Rises-remove [] (suc i) h = tt
Rises-remove (e ∷ es) zero h = (and_yes _ _ h).1
Rises-remove (e ∷ es) (suc i) h = yes_and _ _ (below_remove e.dot es i (and_yes _ _ h).0) (Rises-remove es i (and_yes _ _ h).1)

-- the entry at the head, behind one that is to go
skips_first : (a b : Bool) (x : Presence) (r s : Option Presence) → (a ≡ true → b ≡ true → ⊥) → r ≡ cond a None s →
    cond b (Some x) r ≡ cond a None (cond b (Some x) s)
skips_first true true x r s apart e = absurd (apart refl refl)
skips_first true false x r s apart e = e
skips_first false true x r s apart e = refl
skips_first false false x r s apart e = e

takes_first : (a : Bool) (x : Presence) (r : Option Presence) → (a ≡ true → r ≡ None) → r ≡ cond a None (cond a (Some x) r)
takes_first true x r none = none refl
takes_first false x r none = refl

module _ (d q : Dot) where
  find-remove : (es : List Entry) (i : ℕ) → Rises es → spot d es ≡ Ok i →
      find dot_cmp q (pairs (remove es i)) ≡ cond (is_dot q d) None (find dot_cmp q (pairs es))
  find-remove [] i h e = absurd (cc)
  find-remove (x ∷ es) i h e = go (dot_cmp d x.dot) refl (λ j. find-remove es j (and_yes _ _ h).1) e
    where
      go : (o : Ordering) → dot_cmp d x.dot ≡ o →
          ((j : ℕ) → spot d es ≡ Ok j → find dot_cmp q (pairs (remove es j)) ≡ cond (is_dot q d) None (find dot_cmp q (pairs es))) →
          by_order o (Err 0) (Ok 0) (one_later (spot d es)) ≡ Ok i →
          find dot_cmp q (pairs (remove (x ∷ es) i)) ≡
          cond (is_dot q d) None (cond (is_dot q x.dot) (Some (presence_of x)) (find dot_cmp q (pairs es)))
      go Less o again e = absurd (cc)
      go Equal o again e =
          let here : i ≡ 0 = cc in
          let same : x.dot ≡ d = sym (dot_exact d x.dot o) in
          let gone : is_dot q d ≡ true →
          find dot_cmp q (pairs es) ≡ None =
          λ t. none_below q (pairs es) (subst (λ k. T (below_all dot_cmp k (pairs es))) (same ∙ sym (is_dot-true q d t))
          (and_yes _ _ h).0) in
          ap (λ k. find dot_cmp q (pairs (remove (x ∷ es) k))) here
          ∙ takes_first (is_dot q d) (presence_of x) (find dot_cmp q (pairs es)) gone
          ∙ ap (λ k. cond (is_dot q d) None (cond (is_dot q k) (Some (presence_of x)) (find dot_cmp q (pairs es)))) (sym same)
      go Greater o again e =
          let rest = later_ok (spot d es) i e in
          let apart : is_dot q d ≡ true → is_dot q x.dot ≡ true → ⊥ = λ s t. let one : d ≡ x.dot = sym (is_dot-true q d s)
          ∙ is_dot-true q x.dot t in
          let tie : dot_cmp d x.dot ≡ Equal = subst (λ k. dot_cmp d k ≡ Equal) one (tied_itself dot_total d) in cc in
          ap (λ k. find dot_cmp q (pairs (remove (x ∷ es) k))) rest.2
          ∙ skips_first (is_dot q d) (is_dot q x.dot) (presence_of x) (find dot_cmp q (pairs (remove es rest.0)))
          (find dot_cmp q (pairs es)) apart (again rest.0 rest.1)

pub entries_of-remove : (d : Dot) (es : List Entry) (i : ℕ) → spot d es ≡ Ok i → Rises es →
    entries_of (remove es i) ≡ fin.remove (entries_of es) d
entries_of-remove d es i e h =
    fin.same_map dot_total dot_exact _ _ (λ q.
    get-entries_of (remove es i) q (Rises-remove es i h)
    ∙ find-remove d q es i h e
    ∙ ap (cond (is_dot q d) None) (sym (get-entries_of es q h))
    ∙ sym (fin.get-remove dot_total (entries_of es) d q))

-- a dot that isn't there: to remove it changes nothing
pub remove_missing : (d : Dot) (m : Entries) → fin.get m d ≡ None → fin.remove m d ≡ m
remove_missing d m none = fin.same_map dot_total dot_exact _ _ (λ q. fin.get-remove dot_total m d q ∙ go q (is_dot q d) refl)
  where
    go : (q : Dot) (b : Bool) → is_dot q d ≡ b → cond b None (fin.get m q) ≡ fin.get m q
    go q true e = sym none ∙ ap (fin.get m) (sym (is_dot-true q d e))
    go q false e = refl

-- the entries whose dots pass a test

pairs_filter : (p : Dot → Bool) (es : List Entry) → pairs (filter (λ (e : Entry). p e.dot) es) ≡ where_key dot_cmp p (pairs es)
pairs_filter p [] = refl
pairs_filter p (e ∷ es) =
    let rest = pairs_filter p es in
    elim (p e.dot) as (λ b. pairs (cond b (e ∷ filter (λ (e : Entry). p e.dot) es) (filter (λ (e : Entry). p e.dot) es)) ≡
    cond b (pair_of e ∷ where_key dot_cmp p (pairs es)) (where_key dot_cmp p (pairs es))) [
      | true ↦ ap (λ ps. pair_of e ∷ ps) rest
      | false ↦ rest
    ]

pub Rises-filter : (p : Dot → Bool) (es : List Entry) → Rises es → Rises (filter (λ (e : Entry). p e.dot) es)
Rises-filter p es h = subst (λ ps. T (is_sorted dot_cmp ps)) (sym (pairs_filter p es)) (is_sorted-where_key dot_cmp p (pairs es) h)

pub entries_of-filter : (p : Dot → Bool) (es : List Entry) → Rises es →
    entries_of (filter (λ (e : Entry). p e.dot) es) ≡ fin.retain_keys (entries_of es) p
entries_of-filter p es h =
    fin.same_map dot_total dot_exact _ _ (λ q.
    get-entries_of (filter (λ (e : Entry). p e.dot) es) q (Rises-filter p es h)
    ∙ ap (find dot_cmp q) (pairs_filter p es)
    ∙ find-where_key dot_cmp p q (same_of_tied p q) (pairs es)
    ∙ ap (λ o. cond (p q) o None) (sym (get-entries_of es q h))
    ∙ sym (fin.get-retain_keys (entries_of es) p q (same_of_tied p q)))

-- the dots of a name whose presence passes a test

pub dots_found : (name : ℕ) (test : Presence → Bool) (es : List Entry) → Rises es →
    dots_of name test (entries_of es) ≡ map (λ (e : Entry). e.dot) (filter (λ (e : Entry). (e.dot.name == name) && test (presence_of e)) es)
dots_found name test es h =
    ap (λ ps. map (λ (e : Dot × Presence). e.0) (filter (λ (e : Dot × Presence). (e.0.name == name) && test e.1) ps))
    (entries-entries_of es h) ∙ go es
  where
    go : (es : List Entry) → map (λ (e : Dot × Presence). e.0) (filter (λ (e : Dot × Presence). (e.0.name == name) && test e.1) (pairs es))
        ≡ map (λ (e : Entry). e.dot) (filter (λ (e : Entry). (e.dot.name == name) && test (presence_of e)) es)
    go [] = refl
    go (e ∷ es) =
        let rest = go es in
        elim ((e.dot.name == name) && test (presence_of e)) as
        (λ b. map (λ (e : Dot × Presence). e.0)
        (cond b (pair_of e ∷ filter (λ (e : Dot × Presence). (e.0.name == name) && test e.1) (pairs es))
        (filter (λ (e : Dot × Presence). (e.0.name == name) && test e.1) (pairs es))) ≡
        map (λ (e : Entry). e.dot) (cond b (e ∷ filter (λ (e : Entry). (e.dot.name == name) && test (presence_of e)) es)
        (filter (λ (e : Entry). (e.dot.name == name) && test (presence_of e)) es))) [
          | true ↦ ap (λ ds. e.dot ∷ ds) rest
          | false ↦ rest
        ]

-- what a set of entries reads off its list

pub slice_get_none : {A : Type 0} (xs : List A) (i : ℕ) → slice_get xs i ≡ None → length xs ≤ i
slice_get_none [] i e = omega arith
slice_get_none (x ∷ xs) zero e = absurd (cc)
slice_get_none (x ∷ xs) (suc i) e = let more = slice_get_none xs i e in omega (arith, more)

module _ (d : Dot) (es : List Entry) (h : Rises es) (i : ℕ) where
  pub get_missing : spot d es ≡ Err i → fin.get (entries_of es) d ≡ None
  get_missing e = get-entries_of es d h ∙ (missing_at d es i h e).1

  pub present : spot d es ≡ Ok i → fin.get (entries_of es) d ≡ None → ⊥
  present e none =
      let here = found_at d es i e in
      let nothing : slice_get es i ≡ None = sym here.1 ∙ ap (option_map (entry_of d)) (sym (get-entries_of es d h) ∙ none) in
      omega (arith, here.0, slice_get_none es i nothing)

first_of_found : {A B : Type 0} (f : A → B) (p : A → Bool) (xs : List A) → slice_get (map f (filter p xs)) 0 ≡ option_map f (list_find p xs)
first_of_found f p [] = refl
first_of_found f p (x ∷ xs) =
    elim (p x) as (λ b. slice_get (map f (cond b (x ∷ filter p xs) (filter p xs))) 0 ≡ option_map f (cond b (Some x) (list_find p xs)))
    [ true ↦ refl | false ↦ first_of_found f p xs ]

pub first_dot : (name : ℕ) (test : Presence → Bool) (es : List Entry) → Rises es →
    slice_get (dots_of name test (entries_of es)) 0 ≡
    option_map (λ (e : Entry). e.dot) (list_find (λ (e : Entry). (e.dot.name == name) && test (presence_of e)) es)
first_dot name test es h =
    ap (λ ds. slice_get ds 0) (dots_found name test es h)
    ∙ first_of_found (λ (e : Entry). e.dot) (λ (e : Entry). (e.dot.name == name) && test (presence_of e)) es

pub entries_of_none : entries_of [] ≡ fin.empty
entries_of_none =
    fin.same_entries_map _ _ (fin.entries-from_sorted dot_cmp [] tt ∙ sym
    (no_entries (fin.entries fin.empty) (sym (fin.len-entries fin.empty) ∙ fin.len-empty dot_cmp Presence)))
  where
    no_entries : (ps : List (Dot × Presence)) → length ps ≡ 0 → ps ≡ []
    no_entries [] e = refl
    no_entries (p ∷ ps) e = absurd (omega arith)
