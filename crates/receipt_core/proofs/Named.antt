-- Places that are named once, by marks.
use Rattle.std.proofs.Common.{◌≡◌, ◌≢◌, ◌↔◌, ◌⊎◌, ℕ, ◌+◌, ◌-◌, Bool, true, false, eqb, List, [], ◌∷◌, ◌++◌, length, map, take, replicate, sym, ◌∙◌, arith, slice_get, slice_set, slice_index_or, Some, inl, inr}
use Rattle.std.specs.List.{AllByRecursion}
use Rattle.std.proofs.Math.ListN.{set, length-set}
use Rattle.std.proofs.lemmas.List.{take_more_same, get_or-set_same, get_or-set_other, get_or-replicate, length-replicate}
use Rattle.std.proofs.lemmas.Option.{get_or_from_slice_get, slice_get_within}
use Rattle.std.proofs.lemmas.Bool.{true≢false}
use Rattle.std.proofs.lemmas.Bool.Decides.{eqb_tells}
use Rattle.bench_core.specs.Acts.{Action}
use Rattle.bench_core.specs.Machine.{Event}
use Rattle.receipt_core.specs.Receipts.{Receipt}
use Rattle.receipt_core.specs.Agree.{Line, named, places, lines_of, NoneTwice, AreReceiptsOf, AreAllReceipts}
use Rattle.receipt_core.specs.Marks.{Fresh, Within}

pub same-more : (xs ys : List Event) (i : ℕ) (x : Event) → slice_get xs i ≡ Some x → slice_get ys i ≡ Some x → take i xs ≡ take i ys → take (i + 1) xs ≡ take (i + 1) ys
same-more xs ys i x a b e =
    take_more_same xs ys i x (slice_get_within xs i x a) (slice_get_within ys i x b) e (get_or_from_slice_get xs i x x a ∙ sym (get_or_from_slice_get ys i x x b))

abbrev pub Unmarked : List Bool → ℕ → Type 0
Unmarked marks p = slice_index_or marks (p - 1) true ≡ false

unset_at : (marks : List Bool) (p q : ℕ) → Within (length marks) p → Within (length marks) q → Unmarked (slice_set marks (p - 1) true) q → (((eqb p q ≡ true) × (p ≡ q)) ⊎ ((eqb p q ≡ false) × (p ≢ q))) → (p ≢ q) × Unmarked marks q
unset_at marks p q wp wq u (inl t) =
    let same : q ≡ p = sym t.1 in
    absurd (true≢false (sym (get_or-set_same marks (p - 1) true true (omega arith)) ∙ rw same at u))
unset_at marks p q wp wq u (inr f) =
    (f.1, sym (get_or-set_other marks (p - 1) (q - 1) true true (λ e. f.1 (omega arith))) ∙ u)

-- a mark that is set is one place's
pub unset : (marks : List Bool) (p q : ℕ) → Within (length marks) p → Within (length marks) q → Unmarked (slice_set marks (p - 1) true) q → (p ≢ q) × Unmarked marks q
unset marks p q wp wq u = unset_at marks p q wp wq u (eqb_tells p q)

pub still_unset : (marks : List Bool) (p q : ℕ) → Within (length marks) p → Within (length marks) q → p ≢ q → Unmarked marks q → Unmarked (slice_set marks (p - 1) true) q
still_unset marks p q wp wq f u = get_or-set_other marks (p - 1) (q - 1) true true (λ e. f (omega arith)) ∙ u

-- the same of each place of a list
all_unset : (marks : List Bool) (p : ℕ) (qs : List ℕ) → Within (length marks) p → AllByRecursion (Within (length marks)) qs → AllByRecursion (Unmarked (slice_set marks (p - 1) true)) qs → AllByRecursion (λ q. p ≢ q) qs × AllByRecursion (Unmarked marks) qs
all_unset marks p [] wp w u = (tt, tt)
all_unset marks p (q ∷ qs) wp w u =
    let one = unset marks p q wp w.0 u.0 in
    let more = all_unset marks p qs wp w.1 u.1 in
    ((one.0, more.0), (one.1, more.1))

all_still_unset : (marks : List Bool) (p : ℕ) (qs : List ℕ) → Within (length marks) p → AllByRecursion (Within (length marks)) qs → AllByRecursion (λ q. p ≢ q) qs → AllByRecursion (Unmarked marks) qs → AllByRecursion (Unmarked (slice_set marks (p - 1) true)) qs
all_still_unset marks p [] wp w f u = tt
all_still_unset marks p (q ∷ qs) wp w f u = (still_unset marks p q wp w.0 f.0 u.0, all_still_unset marks p qs wp w.1 f.1 u.1)

within_set : (marks : List Bool) (p : ℕ) (qs : List ℕ) → AllByRecursion (Within (length marks)) qs → AllByRecursion (Within (length (slice_set marks (p - 1) true))) qs
within_set marks p qs w = rw length-set w

-- unmarked places that differ are what `Fresh` says
pub apart_from_fresh : (marks : List Bool) (ps : List ℕ) → AllByRecursion (Within (length marks)) ps → Fresh marks ps → NoneTwice ps × AllByRecursion (Unmarked marks) ps
apart_from_fresh marks [] w f = (tt, tt)
apart_from_fresh marks (p ∷ ps) w f =
    let rest = apart_from_fresh (slice_set marks (p - 1) true) ps (within_set marks p ps w.1) f.2 in
    let here = all_unset marks p ps w.0 w.1 rest.1 in
    ((here.0, rest.0), (f.1, here.1))

pub fresh_from_apart : (marks : List Bool) (ps : List ℕ) → AllByRecursion (Within (length marks)) ps → NoneTwice ps → AllByRecursion (Unmarked marks) ps → Fresh marks ps
fresh_from_apart marks [] w d u = tt
fresh_from_apart marks (p ∷ ps) w d u =
    (w.0.0, u.0, fresh_from_apart (slice_set marks (p - 1) true) ps (within_set marks p ps w.1) d.1 (all_still_unset marks p ps w.0 w.1 d.0 u.1))

-- with no mark set yet
unmarked_at_first : (n : ℕ) (ps : List ℕ) → AllByRecursion (Within n) ps → AllByRecursion (Unmarked (replicate n false)) ps
unmarked_at_first n [] w = tt
unmarked_at_first n (p ∷ ps) w = (get_or-replicate n (p - 1) false true (omega arith), unmarked_at_first n ps w.1)

pub distinct_is_fresh : (n : ℕ) (ps : List ℕ) → AllByRecursion (Within n) ps → Fresh (replicate n false) ps ↔ NoneTwice ps
distinct_is_fresh n ps w =
    let e : length (replicate n false) ≡ n = length-replicate n false in
    let w' : AllByRecursion (Within (length (replicate n false))) ps = rw e w in
    ((λ f. (apart_from_fresh _ ps w' f).0), (λ d. fresh_from_apart _ ps w' d (unmarked_at_first n ps w)))

-- the places that receipts name are in the history
all_append : (P : ℕ → Type 0) (xs ys : List ℕ) → AllByRecursion P xs → AllByRecursion P ys → AllByRecursion P (xs ++ ys)
all_append P [] ys a b = b
all_append P (x ∷ xs) ys a b = (a.0, all_append P xs ys a.1 b)

receipts-within : (after : List Event) (last : ℕ) (ls : List Line) (rs : List Receipt) → AreReceiptsOf after last ls rs → AllByRecursion (Within (length after)) (map named rs)
receipts-within after last [] [] a = tt
receipts-within after last [] (r ∷ rs) a = absurd a
receipts-within after last (l ∷ ls) [] a = absurd a
receipts-within after last (l ∷ ls) (r ∷ rs) a =
    let inside = slice_get_within after (named r - 1) _ a.0.recorded in
    let past = a.0.past in
    ((omega arith, omega arith), receipts-within after (named r) ls rs a.1)

pub all_receipts-within : (after : List Event) (start : ℕ) (lines : List (ℕ × Action)) (actor : ℕ) (lists : List (List Receipt)) → AreAllReceipts after start lines actor lists → AllByRecursion (Within (length after)) (places lists)
all_receipts-within after start lines actor [] a = tt
all_receipts-within after start lines actor (rs ∷ lists) a =
    all_append (Within (length after)) (map named rs) (places lists) (receipts-within after start (lines_of actor lines) rs a.0) (all_receipts-within after start lines (actor + 1) lists a.1)
