-- Lists of numbers that rise: what is found in them, and what they are with one more or one less.
use Rattle.std.proofs.Common.{◌≡◌, ℕ, zero, suc, ◌+◌, ◌-◌, take, slice_get, slice_set, ◌<◌, ◌≤◌, ◌==◌, nat_lt, nat_le, not, Bool, true, false, cond}
use Rattle.std.proofs.Common.{if◌then◌else◌, List, [], ◌∷◌, length, get_or, Option, Some, None, option_map, refl, sym, ap, ◌∙◌, arith}
use Rattle.std.specs.List.{AllWithin, remove}
use Rattle.std.specs.List.Sorted.{IsPartitionedBy}
use Rattle.std.proofs.lemmas.Bool.{eqb-true, lt-ltb, le-ltb, ltb-true, leb-true, le-leb, eq-eqb, ne_eqb}
use Rattle.smallvec.specs.SmallVec.{SmallVec}
use Rattle.journal_core.specs.Numbers.{RisesAbove, Rises, place_of, first_above, all_but, head, last}
use Rattle.journal_core.specs.Causes.{AllRise}

-- numbers at places

pub above_at : (a : ℕ) (ns : List ℕ) (k : ℕ) (d : ℕ) → RisesAbove a ns → k < length ns → a < get_or ns k d
above_at a [] k d rises within = absurd (omega arith)
above_at a (n ∷ ns) zero d rises within = rises.0
above_at a (n ∷ ns) (suc k) d rises within = let more = above_at n ns k d rises.1 (omega arith) in let first = rises.0 in omega arith

pub rises_at : (a : ℕ) (ns : List ℕ) (i j : ℕ) (d : ℕ) → RisesAbove a ns → i ≤ j → j < length ns → get_or ns i d ≤ get_or ns j d
rises_at a [] i j d rises le within = absurd (omega arith)
rises_at a (n ∷ ns) zero zero d rises le within = omega arith
rises_at a (n ∷ ns) zero (suc j) d rises le within = let more = above_at n ns j d rises.1 (omega arith) in omega arith
rises_at a (n ∷ ns) (suc i) zero d rises le within = absurd (omega arith)
rises_at a (n ∷ ns) (suc i) (suc j) d rises le within = rises_at n ns i j d rises.1 (omega arith) (omega arith)

pub parted_lt : (n : ℕ) (ns : List ℕ) → Rises ns → IsPartitionedBy (λ m. nat_lt m n) ns
parted_lt n ns rises i j d le within high = let low = rises_at 0 ns i j d rises le within in let h = ltb-true _ _ high in lt-ltb _ _ (omega arith)

pub parted_le : (n : ℕ) (ns : List ℕ) → Rises ns → IsPartitionedBy (λ m. nat_le m n) ns
parted_le n ns rises i j d le within high = let low = rises_at 0 ns i j d rises le within in let h = leb-true _ _ high in le-leb _ _ (omega arith)

-- places of numbers

pub none_above : (a n : ℕ) (ns : List ℕ) → n ≤ a → RisesAbove a ns → place_of ns n ≡ None
none_above a n [] le rises = refl
none_above a n (m ∷ ns) le rises =
    let first = rises.0 in
    let other : (m == n) ≡ false = ne_eqb m n (λ e. omega arith) in
    rw other (ap (option_map (λ p. p + 1)) (none_above m n ns (omega arith) rises.1))

pub place_at : (n : ℕ) (ns : List ℕ) (p : ℕ) → p < length ns → AllWithin (λ m. nat_lt m n ≡ true) ns 0 p → get_or ns p 0 ≡ n → place_of ns n ≡
    Some p
place_at n [] p within low is = absurd (omega arith)
place_at n (m ∷ ns) zero within low is = rw (eq-eqb m n is) refl
place_at n (m ∷ ns) (suc p) within low is =
    let h = ltb-true _ _ (low 0 0 (omega arith) (omega arith)) in
    let other : (m == n) ≡ false = ne_eqb m n (λ e. omega arith) in
    let next : p + 1 ≡ suc p = omega arith in
    rw other (ap (option_map (λ p. p + 1)) (place_at n ns p (omega arith) (λ k d _ under. low (suc k) d (omega arith) (omega arith)) is)
    ∙ ap Some next)

pub place_none : (a n : ℕ) (ns : List ℕ) (p : ℕ) → RisesAbove a ns → p ≤ length ns → AllWithin (λ m. nat_lt m n ≡ true) ns 0 p →
    (p < length ns → n < get_or ns p 0) → place_of ns n ≡ None
place_none a n [] p rises within low high = refl
place_none a n (m ∷ ns) zero rises within low high =
    let above = high (omega arith) in
    let other : (m == n) ≡ false = ne_eqb m n (λ e. omega arith) in
    rw other (ap (option_map (λ p. p + 1)) (none_above m n ns (omega arith) rises.1))
place_none a n (m ∷ ns) (suc p) rises within low high =
    let h = ltb-true _ _ (low 0 0 (omega arith) (omega arith)) in
    let other : (m == n) ≡ false = ne_eqb m n (λ e. omega arith) in
    rw other (ap (option_map (λ p. p + 1))
    (place_none m n ns p rises.1 (omega arith) (λ k d _ under. low (suc k) d (omega arith) (omega arith)) (λ more. high (omega arith))))

pub above_is : (n : ℕ) (ns : List ℕ) (p : ℕ) → p < length ns → AllWithin (λ m. nat_le m n ≡ true) ns 0 p → n < get_or ns p 0 → first_above n ns ≡
    Some (get_or ns p 0)
above_is n [] p within low is = absurd (omega arith)
above_is n (m ∷ ns) zero within low is = rw (lt-ltb n m is) refl
above_is n (m ∷ ns) (suc p) within low is =
    let h = leb-true _ _ (low 0 0 (omega arith) (omega arith)) in
    rw (le-ltb n m h) (above_is n ns p (omega arith) (λ k d _ under. low (suc k) d (omega arith) (omega arith)) is)

pub above_none : (n : ℕ) (ns : List ℕ) (p : ℕ) → length ns ≤ p → AllWithin (λ m. nat_le m n ≡ true) ns 0 p → first_above n ns ≡ None
above_none n [] p within low = refl
above_none n (m ∷ ns) zero within low = absurd (omega arith)
above_none n (m ∷ ns) (suc p) within low =
    let h = leb-true _ _ (low 0 0 (omega arith) (omega arith)) in
    rw (le-ltb n m h) (above_none n ns p (omega arith) (λ k d _ under. low (suc k) d (omega arith) (omega arith)))

-- one less

abbrev pub one_more : (o : Option ℕ) (p : ℕ) → option_map (λ q. q + 1) o ≡ Some p → (q : ℕ) × (o ≡ Some q) × (p ≡ suc q)
one_more None p h = absurd (cc)
one_more (Some q) p h = (q, refl, let e : q + 1 ≡ p = cc in omega arith)

pub no_more : (o : Option ℕ) → option_map (λ q. q + 1) o ≡ None → o ≡ None
no_more None h = refl
no_more (Some q) h = absurd (cc)

pub place_below : (n : ℕ) (ns : List ℕ) (p : ℕ) → place_of ns n ≡ Some p → p < length ns
place_below n [] p at = absurd (cc)
place_below n (m ∷ ns) p at = go (m == n) at (place_below n ns)
  where
    go : (b : Bool) → (if b then Some 0 else option_map (λ q. q + 1) (place_of ns n)) ≡ Some p →
        ((q : ℕ) → place_of ns n ≡ Some q → q < length ns) → p < length (m ∷ ns)
    go true at more = let e : 0 ≡ p = cc in omega arith
    go false at more = let m = one_more (place_of ns n) p at in let low = more m.0 m.1 in let e = m.2 in omega arith

pub all_but_above : (a n : ℕ) (ns : List ℕ) → n ≤ a → RisesAbove a ns → all_but n ns ≡ ns
all_but_above a n [] le rises = refl
all_but_above a n (m ∷ ns) le rises =
    let first = rises.0 in
    let other : (m == n) ≡ false = ne_eqb m n (λ e. omega arith) in
    rw other (ap (λ (l : List ℕ). m ∷ l) (all_but_above m n ns (omega arith) rises.1))

pub all_but_none : (n : ℕ) (ns : List ℕ) → place_of ns n ≡ None → all_but n ns ≡ ns
all_but_none n [] at = refl
all_but_none n (m ∷ ns) at = go (m == n) at (all_but_none n ns)
  where
    go : (b : Bool) → (if b then Some 0 else option_map (λ q. q + 1) (place_of ns n)) ≡ None → (place_of ns n ≡ None → all_but n ns ≡ ns) → cond
        (not b) (m ∷ all_but n ns) (all_but n ns) ≡ m ∷ ns
    go true at more = absurd (cc)
    go false at more = ap (λ (l : List ℕ). m ∷ l) (more (no_more (place_of ns n) at))

pub all_but_at : (a n : ℕ) (ns : List ℕ) (p : ℕ) → RisesAbove a ns → place_of ns n ≡ Some p → remove ns p ≡ all_but n ns
all_but_at a n [] p rises at = absurd (cc)
all_but_at a n (m ∷ ns) p rises at = go (m == n) refl at (λ q. all_but_at m n ns q rises.1)
  where
    go : (b : Bool) → (m == n) ≡ b → (if b then Some 0 else option_map (λ q. q + 1) (place_of ns n)) ≡ Some p →
        ((q : ℕ) → place_of ns n ≡ Some q → remove ns q ≡ all_but n ns) → remove (m ∷ ns) p ≡ cond (not b) (m ∷ all_but n ns) (all_but n ns)
    go true is at more =
        let e : p ≡ 0 = cc in ap (remove (m ∷ ns)) e ∙ sym (all_but_above m n ns (let same = eqb-true m n is in omega arith) rises.1)
    go false is at more = let q = one_more (place_of ns n) p at in ap (remove (m ∷ ns)) q.2 ∙ ap (λ (l : List ℕ). m ∷ l) (more q.0 q.1)

pub rises_lower : (a b : ℕ) (ns : List ℕ) → a ≤ b → RisesAbove b ns → RisesAbove a ns
rises_lower a b [] h rises = tt
rises_lower a b (n ∷ ns) h rises = (let first = rises.0 in omega arith, rises.1)

pub rises_all_but : (a n : ℕ) (ns : List ℕ) → RisesAbove a ns → RisesAbove a (all_but n ns)
rises_all_but a n [] rises = tt
rises_all_but a n (m ∷ ns) rises = go (m == n) (rises_all_but m n ns rises.1)
  where
    go : (b : Bool) → RisesAbove m (all_but n ns) → RisesAbove a (cond (not b) (m ∷ all_but n ns) (all_but n ns))
    go false more = (rises.0, more)
    go true more = rises_lower a m (all_but n ns) (let first = rises.0 in omega arith) more

pub rises_take : (a i : ℕ) (ns : List ℕ) → RisesAbove a ns → RisesAbove a (take i ns)
rises_take a zero ns rises = tt
rises_take a (suc i) [] rises = tt
rises_take a (suc i) (n ∷ ns) rises = (rises.0, rises_take n i ns rises.1)

pub last_is : (ns : List ℕ) → slice_get ns (length ns - 1) ≡ last None ns
last_is [] = refl
last_is (n ∷ ns) = go n ns
  where
    go : (n : ℕ) (ns : List ℕ) → slice_get (n ∷ ns) (length (n ∷ ns) - 1) ≡ last (Some n) ns
    go n [] = refl
    go n (m ∷ ns) = let e : length (n ∷ m ∷ ns) - 1 ≡ suc (length (m ∷ ns) - 1) = omega arith in ap (slice_get (n ∷ m ∷ ns)) e ∙ go m ns

pub head_is : (ns : List ℕ) → slice_get ns 0 ≡ head ns
head_is [] = refl
head_is (n ∷ ns) = refl

pub all_take : (i : ℕ) (vs : List (SmallVec ℕ)) → AllRise vs → AllRise (take i vs)
all_take zero vs all = tt
all_take (suc i) [] all = tt
all_take (suc i) (v ∷ vs) all = (all.0, all_take i vs all.1)

pub all_set : (vs : List (SmallVec ℕ)) (p : ℕ) (v : SmallVec ℕ) → AllRise vs → Rises v.items → AllRise (slice_set vs p v)
all_set [] p v all rises = tt
all_set (w ∷ vs) zero v all rises = (rises, all.1)
all_set (w ∷ vs) (suc p) v all rises = (all.0, all_set vs p v all.1 rises)

pub rises_of : (vs : List (SmallVec ℕ)) (p : ℕ) (d : SmallVec ℕ) → AllRise vs → p < length vs → Rises (get_or vs p d).items
rises_of [] p d all within = absurd (omega arith)
rises_of (v ∷ vs) zero d all within = all.0
rises_of (v ∷ vs) (suc p) d all within = rises_of vs p d all.1 (omega arith)
