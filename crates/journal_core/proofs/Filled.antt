-- Slots of steps: what is found in them, put into them and taken out of them.
use Rattle.std.proofs.Common.{◌≡◌, ℕ, zero, suc, ◌+◌, ◌-◌, slice_get, ◌<◌, ◌≤◌, ◌==◌, Bool, true, false, if◌then◌else◌, List, [], ◌∷◌, ◌++◌, length}
use Rattle.std.proofs.Common.{get_or, slice_set, Option, Some, None, option_map, option_to_list, is_none, append-nil, refl, sym, ap, ◌∙◌, subst}
use Rattle.std.proofs.Common.{arith}
use Rattle.std.specs.List.{AllByRecursion}
use Rattle.std.proofs.lemmas.Bool.{eq-eqb, ne_eqb, eqb-true}
use Rattle.node_core.specs.Inverses.{Inverse}
use Rattle.journal_core.specs.Numbers.{RisesAbove, place_of}
use Rattle.journal_core.specs.Holdings.{Held, find_held, with_inverse, without_held}
use Rattle.journal_core.specs.Slots.{steps_in, AreAligned, ends_empty, lent_in, count_in}
use Rattle.journal_core.proofs.NumberLists.{one_more, no_more}

pub aligned_length : (ns : List ℕ) (os : List (Option Held)) → AreAligned ns os → length ns ≡ length os
aligned_length [] [] h = refl
aligned_length [] (o ∷ os) h = elim h [ ]
aligned_length (n ∷ ns) [] h = elim h [ ]
aligned_length (n ∷ ns) (None ∷ os) h = ap suc (aligned_length ns os h)
aligned_length (n ∷ ns) (Some x ∷ os) h = ap suc (aligned_length ns os h.1)

find_above : (a n : ℕ) (ns : List ℕ) (os : List (Option Held)) → n ≤ a → RisesAbove a ns → AreAligned ns os → find_held (steps_in os) n ≡ None
find_above a n [] [] le rises h = refl
find_above a n [] (o ∷ os) le rises h = elim h [ ]
find_above a n (m ∷ ns) [] le rises h = elim h [ ]
find_above a n (m ∷ ns) (None ∷ os) le rises h = let first = rises.0 in find_above m n ns os (omega arith) rises.1 h
find_above a n (m ∷ ns) (Some x ∷ os) le rises h =
    let first = rises.0 in
    let number = h.0 in
    let other : (x.kept.number == n) ≡ false = ne_eqb x.kept.number n (λ e. omega arith) in
    rw other (find_above m n ns os (omega arith) rises.1 h.1)

pub found : (a n : ℕ) (ns : List ℕ) (os : List (Option Held)) (p : ℕ) → RisesAbove a ns → AreAligned ns os → place_of ns n ≡ Some p → find_held
    (steps_in os) n ≡ get_or os p None
found a n [] os p rises h at = absurd (cc)
found a n (m ∷ ns) [] p rises h at = elim h [ ]
found a n (m ∷ ns) (None ∷ os) p rises h at = go (m == n) refl at (λ q. found m n ns os q rises.1 h)
  where
    go : (b : Bool) → (m == n) ≡ b → (if b then Some 0 else option_map (λ q. q + 1) (place_of ns n)) ≡ Some p →
        ((q : ℕ) → place_of ns n ≡ Some q → find_held (steps_in os) n ≡ get_or os q None) → find_held (steps_in os) n ≡ get_or (None ∷ os) p None
    go true is at more =
        let e : p ≡ 0 = cc in let same = eqb-true m n is in find_above m n ns os (omega arith) rises.1 h ∙ ap (λ p. get_or (None ∷ os) p None)
        (sym e)
    go false is at more = let q = one_more (place_of ns n) p at in more q.0 q.1 ∙ ap (λ p. get_or (None ∷ os) p None) (sym q.2)
found a n (m ∷ ns) (Some x ∷ os) p rises h at = go (m == n) refl at (λ q. found m n ns os q rises.1 h.1)
  where
    go : (b : Bool) → (m == n) ≡ b → (if b then Some 0 else option_map (λ q. q + 1) (place_of ns n)) ≡ Some p →
        ((q : ℕ) → place_of ns n ≡ Some q → find_held (steps_in os) n ≡ get_or os q None) →
        (if x.kept.number == n then Some x else find_held (steps_in os) n) ≡ get_or (Some x ∷ os) p None
    go true is at more = let e : p ≡ 0 = cc in rw (eq-eqb x.kept.number n (h.0 ∙ eqb-true m n is)) (ap (λ p. get_or (Some x ∷ os) p None) (sym e))
    go false is at more =
        let q = one_more (place_of ns n) p at in
        let other : (x.kept.number == n) ≡ false = ap (λ k. k == n) h.0 ∙ is in
        rw other (more q.0 q.1 ∙ ap (λ p. get_or (Some x ∷ os) p None) (sym q.2))

pub unfound : (n : ℕ) (ns : List ℕ) (os : List (Option Held)) → AreAligned ns os → place_of ns n ≡ None → find_held (steps_in os) n ≡ None
unfound n [] [] h at = refl
unfound n [] (o ∷ os) h at = elim h [ ]
unfound n (m ∷ ns) [] h at = elim h [ ]
unfound n (m ∷ ns) (None ∷ os) h at = go (m == n) at (unfound n ns os h)
  where
    go : (b : Bool) → (if b then Some 0 else option_map (λ q. q + 1) (place_of ns n)) ≡ None →
        (place_of ns n ≡ None → find_held (steps_in os) n ≡ None) → find_held (steps_in os) n ≡ None
    go true at more = absurd (cc)
    go false at more = more (no_more (place_of ns n) at)
unfound n (m ∷ ns) (Some x ∷ os) h at = go (m == n) refl at (unfound n ns os h.1)
  where
    go : (b : Bool) → (m == n) ≡ b → (if b then Some 0 else option_map (λ q. q + 1) (place_of ns n)) ≡ None →
        (place_of ns n ≡ None → find_held (steps_in os) n ≡ None) → (if x.kept.number == n then Some x else find_held (steps_in os) n) ≡ None
    go true is at more = absurd (cc)
    go false is at more = let other : (x.kept.number == n) ≡ false = ap (λ k. k == n) h.0 ∙ is in rw other (more (no_more (place_of ns n) at))

-- where a step isn't found, nothing changes

pub none_out : (n : ℕ) (hs : List Held) → find_held hs n ≡ None → without_held hs n ≡ hs
none_out n [] h = refl
none_out n (x ∷ hs) h = go (x.kept.number == n) h (none_out n hs)
  where
    go : (b : Bool) → (if b then Some x else find_held hs n) ≡ None → (find_held hs n ≡ None → without_held hs n ≡ hs) →
        (if b then hs else x ∷ without_held hs n) ≡ x ∷ hs
    go true h more = absurd (cc)
    go false h more = ap (λ (l : List Held). x ∷ l) (more h)

pub none_with : (n : ℕ) (o : Option Inverse) (hs : List Held) → find_held hs n ≡ None → with_inverse hs n o ≡ hs
none_with n o [] h = refl
none_with n o (x ∷ hs) h = go (x.kept.number == n) h (none_with n o hs)
  where
    go : (b : Bool) → (if b then Some x else find_held hs n) ≡ None → (find_held hs n ≡ None → with_inverse hs n o ≡ hs) →
        (if b then record { kept = x.kept; inverse = o } ∷ hs else x ∷ with_inverse hs n o) ≡ x ∷ hs
    go true h more = absurd (cc)
    go false h more = ap (λ (l : List Held). x ∷ l) (more h)

-- a step is taken out, or its inverse is lent

pub out_at : (a n : ℕ) (ns : List ℕ) (os : List (Option Held)) (p : ℕ) → RisesAbove a ns → AreAligned ns os → place_of ns n ≡ Some p → steps_in
    (slice_set os p None) ≡ without_held (steps_in os) n
out_at a n [] os p rises h at = absurd (cc)
out_at a n (m ∷ ns) [] p rises h at = elim h [ ]
out_at a n (m ∷ ns) (None ∷ os) p rises h at = go (m == n) refl at (λ q. out_at m n ns os q rises.1 h)
  where
    go : (b : Bool) → (m == n) ≡ b → (if b then Some 0 else option_map (λ q. q + 1) (place_of ns n)) ≡ Some p →
        ((q : ℕ) → place_of ns n ≡ Some q → steps_in (slice_set os q None) ≡ without_held (steps_in os) n) → steps_in
        (slice_set (None ∷ os) p None) ≡ without_held (steps_in os) n
    go true is at more =
        let e : p ≡ 0 = cc in let same = eqb-true m n is in ap (λ p. steps_in (slice_set (None ∷ os) p None)) e ∙ sym
        (none_out n (steps_in os) (find_above m n ns os (omega arith) rises.1 h))
    go false is at more = let q = one_more (place_of ns n) p at in ap (λ p. steps_in (slice_set (None ∷ os) p None)) q.2 ∙ more q.0 q.1
out_at a n (m ∷ ns) (Some x ∷ os) p rises h at = go (m == n) refl at (λ q. out_at m n ns os q rises.1 h.1)
  where
    go : (b : Bool) → (m == n) ≡ b → (if b then Some 0 else option_map (λ q. q + 1) (place_of ns n)) ≡ Some p →
        ((q : ℕ) → place_of ns n ≡ Some q → steps_in (slice_set os q None) ≡ without_held (steps_in os) n) → steps_in
        (slice_set (Some x ∷ os) p None) ≡ (if x.kept.number == n then steps_in os else x ∷ without_held (steps_in os) n)
    go true is at more =
        let e : p ≡ 0 = cc in rw (eq-eqb x.kept.number n (h.0 ∙ eqb-true m n is)) (ap (λ p. steps_in (slice_set (Some x ∷ os) p None)) e)
    go false is at more =
        let q = one_more (place_of ns n) p at in
        let other : (x.kept.number == n) ≡ false = ap (λ k. k == n) h.0 ∙ is in
        rw other (ap (λ p. steps_in (slice_set (Some x ∷ os) p None)) q.2 ∙ ap (λ (l : List Held). x ∷ l) (more q.0 q.1))

pub lent_at : (a n : ℕ) (o : Option Inverse) (ns : List ℕ) (os : List (Option Held)) (p : ℕ) → RisesAbove a ns → AreAligned ns os → place_of ns n ≡
    Some p → steps_in (slice_set os p (lent_in o (get_or os p None))) ≡ with_inverse (steps_in os) n o
lent_at a n o [] os p rises h at = absurd (cc)
lent_at a n o (m ∷ ns) [] p rises h at = elim h [ ]
lent_at a n o (m ∷ ns) (None ∷ os) p rises h at = go (m == n) refl at (λ q. lent_at m n o ns os q rises.1 h)
  where
    go : (b : Bool) → (m == n) ≡ b → (if b then Some 0 else option_map (λ q. q + 1) (place_of ns n)) ≡ Some p →
        ((q : ℕ) → place_of ns n ≡ Some q → steps_in (slice_set os q (lent_in o (get_or os q None))) ≡ with_inverse (steps_in os) n o) → steps_in
        (slice_set (None ∷ os) p (lent_in o (get_or (None ∷ os) p None))) ≡ with_inverse (steps_in os) n o
    go true is at more =
        let e : p ≡ 0 = cc in let same = eqb-true m n is in ap
        (λ (p : ℕ). steps_in (slice_set (None ∷ os) p (lent_in o (get_or (None ∷ os) p None)))) e ∙ sym
        (none_with n o (steps_in os) (find_above m n ns os (omega arith) rises.1 h))
    go false is at more =
        let q = one_more (place_of ns n) p at in ap (λ (p : ℕ). steps_in (slice_set (None ∷ os) p (lent_in o (get_or (None ∷ os) p None)))) q.2
        ∙ more q.0 q.1
lent_at a n o (m ∷ ns) (Some x ∷ os) p rises h at = go (m == n) refl at (λ q. lent_at m n o ns os q rises.1 h.1)
  where
    go : (b : Bool) → (m == n) ≡ b → (if b then Some 0 else option_map (λ q. q + 1) (place_of ns n)) ≡ Some p →
        ((q : ℕ) → place_of ns n ≡ Some q → steps_in (slice_set os q (lent_in o (get_or os q None))) ≡ with_inverse (steps_in os) n o) → steps_in
        (slice_set (Some x ∷ os) p (lent_in o (get_or (Some x ∷ os) p None))) ≡
        (if x.kept.number == n then record { kept = x.kept; inverse = o } ∷ steps_in os else x ∷ with_inverse (steps_in os) n o)
    go true is at more =
        let e : p ≡ 0 = cc in rw (eq-eqb x.kept.number n (h.0 ∙ eqb-true m n is))
        (ap (λ (p : ℕ). steps_in (slice_set (Some x ∷ os) p (lent_in o (get_or (Some x ∷ os) p None)))) e)
    go false is at more =
        let q = one_more (place_of ns n) p at in
        let other : (x.kept.number == n) ≡ false = ap (λ k. k == n) h.0 ∙ is in
        rw other (ap (λ (p : ℕ). steps_in (slice_set (Some x ∷ os) p (lent_in o (get_or (Some x ∷ os) p None)))) q.2 ∙ ap
        (λ (l : List Held). x ∷ l) (more q.0 q.1))

pub aligned_out : (ns : List ℕ) (os : List (Option Held)) (p : ℕ) → AreAligned ns os → AreAligned ns (slice_set os p None)
aligned_out [] [] p h = tt
aligned_out [] (o ∷ os) p h = elim h [ ]
aligned_out (n ∷ ns) [] p h = elim h [ ]
aligned_out (n ∷ ns) (None ∷ os) zero h = h
aligned_out (n ∷ ns) (None ∷ os) (suc p) h = aligned_out ns os p h
aligned_out (n ∷ ns) (Some x ∷ os) zero h = h.1
aligned_out (n ∷ ns) (Some x ∷ os) (suc p) h = (h.0, aligned_out ns os p h.1)

pub aligned_lent : (i : Option Inverse) (ns : List ℕ) (os : List (Option Held)) (p : ℕ) → AreAligned ns os → AreAligned ns
    (slice_set os p (lent_in i (get_or os p None)))
aligned_lent i [] [] p h = tt
aligned_lent i [] (o ∷ os) p h = elim h [ ]
aligned_lent i (n ∷ ns) [] p h = elim h [ ]
aligned_lent i (n ∷ ns) (None ∷ os) zero h = h
aligned_lent i (n ∷ ns) (None ∷ os) (suc p) h = aligned_lent i ns os p h
aligned_lent i (n ∷ ns) (Some x ∷ os) zero h = h
aligned_lent i (n ∷ ns) (Some x ∷ os) (suc p) h = (h.0, aligned_lent i ns os p h.1)

-- at the end

pub steps_in-append : (os ps : List (Option Held)) → steps_in (os ++ ps) ≡ steps_in os ++ steps_in ps
steps_in-append [] ps = refl
steps_in-append (None ∷ os) ps = steps_in-append os ps
steps_in-append (Some x ∷ os) ps = ap (λ (l : List Held). x ∷ l) (steps_in-append os ps)

pub aligned_push : (ns : List ℕ) (os : List (Option Held)) (n : ℕ) (h : Held) → h.kept.number ≡ n → AreAligned ns os → AreAligned (ns ++ n ∷ [])
    (os ++ Some h ∷ [])
aligned_push [] [] n x e h = (e, tt)
aligned_push [] (o ∷ os) n x e h = elim h [ ]
aligned_push (m ∷ ns) [] n x e h = elim h [ ]
aligned_push (m ∷ ns) (None ∷ os) n x e h = aligned_push ns os n x e h
aligned_push (m ∷ ns) (Some y ∷ os) n x e h = (h.0, aligned_push ns os n x e h.1)

pub aligned_pop : (ns : List ℕ) (os : List (Option Held)) (n : Option ℕ) (o : Option (Option Held)) → AreAligned (ns ++ option_to_list n)
    (os ++ option_to_list o) → length ns ≡ length os → AreAligned ns os
aligned_pop [] [] n o h e = tt
aligned_pop [] (p ∷ os) n o h e = absurd (omega arith)
aligned_pop (k ∷ ns) [] n o h e = absurd (omega arith)
aligned_pop (k ∷ ns) (None ∷ os) n o h e = aligned_pop ns os n o h (omega arith)
aligned_pop (k ∷ ns) (Some x ∷ os) n o h e = (h.0, aligned_pop ns os n o h.1 (omega arith))

pub rises_front : (a : ℕ) (ns ms : List ℕ) → RisesAbove a (ns ++ ms) → RisesAbove a ns
rises_front a [] ms h = tt
rises_front a (n ∷ ns) ms h = (h.0, rises_front n ns ms h.1)

pub empty_last : (os : List (Option Held)) (o : Option Held) → ends_empty (os ++ o ∷ []) ≡ is_none o
empty_last [] o = refl
empty_last (p ∷ []) o = refl
empty_last (p ∷ q ∷ os) o = empty_last (q ∷ os) o

-- the last slot is not empty, so each number is below that of a step to come
low_end : (a n m : ℕ) (ns : List ℕ) (o : Option Held) (os : List (Option Held)) → RisesAbove a (m ∷ ns) → AreAligned (m ∷ ns) (o ∷ os) → ends_empty
    (o ∷ os) ≡ false → AllByRecursion (λ (h : Held). h.kept.number < n) (steps_in (o ∷ os)) → a < n
low_end a n m [] None [] rises h last all = absurd (cc)
low_end a n m [] (Some x) [] rises h last all = let first = all.0 in let number = h.0 in let low = rises.0 in omega arith
low_end a n m [] None (p ∷ os) rises h last all = elim h [ ]
low_end a n m [] (Some x) (p ∷ os) rises h last all = elim h.1 [ ]
low_end a n m (k ∷ ns) None [] rises h last all = elim h [ ]
low_end a n m (k ∷ ns) (Some x) [] rises h last all = elim h.1 [ ]
low_end a n m (k ∷ ns) None (p ∷ os) rises h last all = let more = low_end m n k ns p os rises.1 h last all in let low = rises.0 in omega arith
low_end a n m (k ∷ ns) (Some x) (p ∷ os) rises h last all =
    let more = low_end m n k ns p os rises.1 h.1 last all.1 in let low = rises.0 in omega arith

pub rises_push : (a n : ℕ) (ns : List ℕ) (os : List (Option Held)) → a < n → RisesAbove a ns → AreAligned ns os → ends_empty os ≡ false →
    AllByRecursion (λ (h : Held). h.kept.number < n) (steps_in os) → RisesAbove a (ns ++ n ∷ [])
rises_push a n [] [] low rises h last all = (low, tt)
rises_push a n [] (o ∷ os) low rises h last all = elim h [ ]
rises_push a n (m ∷ ns) [] low rises h last all = elim h [ ]
rises_push a n (m ∷ []) (None ∷ []) low rises h last all = absurd (cc)
rises_push a n (m ∷ []) (Some x ∷ []) low rises h last all = (rises.0, (let first = all.0 in let number = h.0 in omega arith, tt))
rises_push a n (m ∷ []) (None ∷ p ∷ os) low rises h last all = elim h [ ]
rises_push a n (m ∷ []) (Some x ∷ p ∷ os) low rises h last all = elim h.1 [ ]
rises_push a n (m ∷ k ∷ ns) (None ∷ []) low rises h last all = elim h [ ]
rises_push a n (m ∷ k ∷ ns) (Some x ∷ []) low rises h last all = elim h.1 [ ]
rises_push a n (m ∷ k ∷ ns) (None ∷ p ∷ os) low rises h last all =
    (rises.0, rises_push m n (k ∷ ns) (p ∷ os) (low_end m n k ns p os rises.1 h last all) rises.1 h last all)
rises_push a n (m ∷ k ∷ ns) (Some x ∷ p ∷ os) low rises h last all =
    (rises.0, rises_push m n (k ∷ ns) (p ∷ os) (let first = all.0 in let number = h.0 in omega arith) rises.1 h.1 last all.1)

pub ends_at : (os : List (Option Held)) (o : Option Held) → slice_get os (length os - 1) ≡ Some o → ends_empty os ≡ is_none o
ends_at [] o h = absurd (cc)
ends_at (p ∷ []) o h = ap is_none (let same : p ≡ o = cc in same)
ends_at (p ∷ q ∷ os) o h =
    ends_at (q ∷ os) o (let e : length (p ∷ q ∷ os) - 1 ≡ suc (length (q ∷ os) - 1) = omega arith in subst
    (λ n. slice_get (p ∷ q ∷ os) n ≡ Some o) e h)

-- an empty slot is taken from the end
pub steps_in_pop : (os : List (Option Held)) (o : Option (Option Held)) → ends_empty (os ++ option_to_list o) ≡ true → steps_in os ≡ steps_in
    (os ++ option_to_list o)
steps_in_pop os None last = ap steps_in (sym (append-nil os))
steps_in_pop os (Some None) last = sym (steps_in-append os (None ∷ []) ∙ append-nil (steps_in os))
steps_in_pop os (Some (Some x)) last = absurd (let wrong = sym last ∙ empty_last os (Some x) in cc)

pub empty_some : (os : List (Option Held)) → ends_empty os ≡ true → 0 < length os
empty_some [] h = absurd (cc)
empty_some (o ∷ os) h = omega arith

-- how many steps there are, and which is at a place

pub emptied : (os : List (Option Held)) (p : ℕ) → length (steps_in (slice_set os p None)) + count_in (get_or os p None) ≡ length (steps_in os)
emptied [] p = omega arith
emptied (None ∷ os) zero = omega arith
emptied (Some x ∷ os) zero = omega arith
emptied (None ∷ os) (suc p) = emptied os p
emptied (Some x ∷ os) (suc p) = let more = emptied os p in omega arith

pub steps_in_most : (os : List (Option Held)) → length (steps_in os) ≤ length os
steps_in_most [] = omega arith
steps_in_most (None ∷ os) = let more = steps_in_most os in omega arith
steps_in_most (Some x ∷ os) = let more = steps_in_most os in omega arith

pub with_length : (hs : List Held) (n : ℕ) (o : Option Inverse) → length (with_inverse hs n o) ≡ length hs
with_length [] n o = refl
with_length (x ∷ hs) n o = go (x.kept.number == n) (with_length hs n o)
  where
    go : (b : Bool) → length (with_inverse hs n o) ≡ length hs → length
        (if b then record { kept = x.kept; inverse = o } ∷ hs else x ∷ with_inverse hs n o) ≡ length (x ∷ hs)
    go true more = refl
    go false more = ap suc more

pub full_at : (os : List (Option Held)) (p : ℕ) → length (steps_in os) ≡ length os → p < length os → get_or os p None ≡ slice_get (steps_in os) p
full_at [] p full low = absurd (omega arith)
full_at (None ∷ os) p full low = absurd (let most = steps_in_most os in omega arith)
full_at (Some x ∷ os) zero full low = refl
full_at (Some x ∷ os) (suc p) full low = full_at os p (omega arith) (omega arith)

pub get_past : (hs : List Held) (p : ℕ) → length hs ≤ p → slice_get hs p ≡ None
get_past [] p h = refl
get_past (x ∷ hs) zero h = absurd (omega arith)
get_past (x ∷ hs) (suc p) h = get_past hs p (omega arith)
