-- The first clock of a part, and the first dot of a set, that is not below another.
use Rattle.std.proofs.Common.{◌≡◌, ◌⊎◌, inl, inr, ℕ, zero, suc, ◌+◌, ◌<◌, ◌≤◌, ◌&&◌, max, nat_lt, nat_le, Bool, true, false, Option, Some}
use Rattle.std.proofs.Common.{None, Err, List, [], ◌∷◌, length, get_or, slice_get, refl, sym, ap, ◌∙◌, arith, true≢false}
use Rattle.std.proofs.lemmas.Bool.{cases_lt, false_from_ne_true, or_right}
use Rattle.std.proofs.lemmas.Option.{get_or_from_slice_get, slice_get_within}
use Rattle.std.specs.FinSet as set
use Rattle.dots_core.specs.declared.dot.Dot.{Dot}
use Rattle.dots_core.specs.Dots.{Dots, dot, IsBelow, IsFirstDot, IsFrom}
use Rattle.dots_core.specs.Clocks.{Clocks, is_among, holds, IsCanonical, IsFirstFrom}
use Rattle.dots_core.specs.Parts.{dots_of_parts, AreParts}
use Rattle.dots_core.proofs.Clocks.{among_at, among_place, holds_cases, holds_zero, rises_order}
use Rattle.dots_core.proofs.Changes.{Searched, put_at}
use Rattle.dots_core.proofs.Parts.{absent, held_at}

-- from 0 on as from 1 on
pub from_first : (p : Clocks) (k from : ℕ) (o : Option ℕ) → IsCanonical p → from ≡ max k 1 → IsFirstFrom p from o → IsFirstFrom p k o
from_first p k from None h is none = λ j le. go j le (cases_lt 0 j)
  where
    go : (j : ℕ) → k ≤ j → (0 < j) ⊎ (j ≤ 0) → holds p j ≡ false
    go j le (inl above) = none j (omega (arith, is))
    go j le (inr least) = let e : j ≡ 0 = omega arith in ap (holds p) e ∙ holds_zero p h
from_first p k from (Some f) h is first = (let low = first.0 in omega (arith, is, low), first.1, λ j le below. go j le below (cases_lt 0 j))
  where
    go : (j : ℕ) → k ≤ j → j < f → (0 < j) ⊎ (j ≤ 0) → holds p j ≡ false
    go j le below (inl above) = first.2 j (omega (arith, is)) below
    go j le below (inr least) = let e : j ≡ 0 = omega arith in ap (holds p) e ∙ holds_zero p h

-- a clock that is held is the first from itself on
pub first_itself : (p : Clocks) (k : ℕ) → holds p k ≡ true → IsFirstFrom p k (Some k)
first_itself p k there = (omega arith, there, λ j le below. absurd (omega arith))

past : (xs : List ℕ) (i : ℕ) → slice_get xs i ≡ None → length xs ≤ i
past [] i e = omega arith
past (x ∷ xs) zero e = absurd (cc)
past (x ∷ xs) (suc i) e = let more = past xs i e in omega (arith, more)

-- above the context clock, and not in the cloud: the clock at the place where it would stand
module _ (p : Clocks) (k i : ℕ) (h : IsCanonical p) (above : p.clock < k) (search : Searched k p.cloud (Err i)) where
  split : (i ≤ length p.cloud) × ((j : ℕ) → j < i → get_or p.cloud j 0 < k) × ((j : ℕ) → i ≤ j → j < length p.cloud → k < get_or p.cloud j 0)
  split = put_at (p.clock + 1) k p.cloud i h.rises search

  -- a clock from k on that is held stands in the cloud from the place on
  placed : (j : ℕ) → k ≤ j → holds p j ≡ true → (m : ℕ) × (i ≤ m) × (m < length p.cloud) × (get_or p.cloud m 0 ≡ j)
  placed j le there = go (holds_cases p j there)
    where
      at : (m : ℕ) → m < length p.cloud → get_or p.cloud m 0 ≡ j → (m < i) ⊎ (i ≤ m) →
          (m : ℕ) × (i ≤ m) × (m < length p.cloud) × (get_or p.cloud m 0 ≡ j)
      at m within is (inl low) = let less = split.1 m low in absurd (omega (arith, less, is))
      at m within is (inr high) = (m, high, within, is)

      go : ((0 < j) × (j ≤ p.clock)) ⊎ (is_among j p.cloud ≡ true) → (m : ℕ) × (i ≤ m) × (m < length p.cloud) × (get_or p.cloud m 0 ≡ j)
      go (inl low) = let most = low.1 in absurd (omega arith)
      go (inr among) = let place = among_place p.cloud j among in at place.0 place.1 place.2 (cases_lt place.0 i)

  pub first_above : (o : Option ℕ) → o ≡ slice_get p.cloud i → IsFirstFrom p k o
  first_above None is = λ j le. false_from_ne_true (holds p j)
      (λ there. let place = placed j le there in let end = past p.cloud i (sym is) in absurd (omega (arith, place.1, place.2, end)))
  first_above (Some f) is =
      let within : i < length p.cloud = slice_get_within p.cloud i f (sym is) in
      let at : get_or p.cloud i 0 ≡ f = get_or_from_slice_get p.cloud i f 0 (sym is) in (
        let least = split.2 i (omega arith) within in omega (arith, least, at),
        or_right (nat_lt 0 f && nat_le f p.clock) (is_among f p.cloud) (among_at p.cloud i f within at),
        λ j le below. false_from_ne_true (holds p j) (λ there. let place = placed j le there in let order =
            rises_order (p.clock + 1) p.cloud h.rises i place.0 place.1 place.2 in absurd (omega (arith, order, at, place.3))),
      )

-- a walk over the names

-- the dots of these names below n are below d, or not in the set
abbrev pub ArePassed : (ℕ → Bool) → Dots → Dot → ℕ → Type 0
ArePassed named s d n = (q : Dot) → IsFrom d q → q.name < n → named q.name ≡ true → set.contains s q ≡ false

pub passed_below : (named : ℕ → Bool) (s : Dots) (d : Dot) (n : ℕ) → n ≤ d.name → ArePassed named s d n
passed_below named s d n le q (inl above) low on = absurd (omega arith)
passed_below named s d n le q (inr same) low on = let e = same.0 in absurd (omega arith)

below_or_at : (q n : ℕ) → q < n + 1 → (q < n) ⊎ (q ≡ n)
below_or_at q n low = go (cases_lt q n)
  where
    go : (q < n) ⊎ (n ≤ q) → (q < n) ⊎ (q ≡ n)
    go (inl below) = inl below
    go (inr above) = inr (omega arith)

pub passed_unnamed : (named : ℕ → Bool) (s : Dots) (d : Dot) (n : ℕ) → ArePassed named s d n → named n ≡ false → ArePassed named s d (n + 1)
passed_unnamed named s d n h unnamed q from low on = go (below_or_at q.name n low)
  where
    go : (q.name < n) ⊎ (q.name ≡ n) → set.contains s q ≡ false
    go (inl below) = h q from below on
    go (inr at) = absurd (true≢false (sym on ∙ ap named at ∙ unnamed))

pub passed_all : (ps : List Clocks) (named : ℕ → Bool) (s : Dots) (d : Dot) (n : ℕ) → AreParts ps → dots_of_parts ps ≡ s → 32 ≤ n →
    ArePassed named s d n → IsFirstDot named s d None
passed_all ps named s d n h view all passed q from on = go (cases_lt q.name n)
  where
    go : (q.name < n) ⊎ (n ≤ q.name) → set.contains s q ≡ false
    go (inl below) = passed q from below on
    go (inr above) = ap (λ s. set.contains s q) (sym view) ∙ absent ps q h (omega arith)

-- the part of one name, as the code reads it
module _ (ps : List Clocks) (i n : ℕ) (e : Clocks) (named : ℕ → Bool) (s : Dots) (d : Dot) (start : ℕ) (h : AreParts ps) (is : i ≡ n)
    (lt : n < 32) (view : dots_of_parts ps ≡ s)
    (own : n ≡ d.name → start ≡ d.clock) (later : d.name < n → start ≡ 0) (passed : ArePassed named s d n) where
  start_low : (q : Dot) → IsFrom d q → q.name ≡ n → start ≤ q.clock
  start_low q (inl above) at = let zero = later (omega arith) in omega arith
  start_low q (inr same) at = let clock = own (sym at ∙ sym same.0) in let le = same.1 in omega (arith, clock, le)

  at_name : (q : Dot) → q.name ≡ n → set.contains s q ≡ holds (get_or ps i e) q.clock
  at_name q at = sym (held_at ps i q e s h (is ∙ sym at) (omega arith) view)

  pub none_at_name : IsFirstFrom (get_or ps i e) start None → ArePassed named s d (n + 1)
  none_at_name none q from low on = go (below_or_at q.name n low)
    where
      go : (q.name < n) ⊎ (q.name ≡ n) → set.contains s q ≡ false
      go (inl below) = passed q from below on
      go (inr at) = at_name q at ∙ none q.clock (start_low q from at)

  pub first_at_name : (f : ℕ) → d.name ≤ n → named n ≡ true → IsFirstFrom (get_or ps i e) start (Some f) → IsFirstDot named s d (Some (dot n f))
  first_at_name f le on first = (from (cases_lt d.name n), on, at_name (dot n f) refl ∙ first.1, between)
    where
      from : (d.name < n) ⊎ (n ≤ d.name) → IsFrom d (dot n f)
      from (inl above) = inl above
      from (inr at) = let same : n ≡ d.name = omega arith in let clock = own same in let low = first.0 in inr (sym same, omega (arith, clock, low))

      between : (q : Dot) → IsFrom d q → IsBelow q (dot n f) → named q.name ≡ true → set.contains s q ≡ false
      between q from (inl below) on = passed q from below on
      between q from (inr same) on = at_name q same.0 ∙ first.2 q.clock (start_low q from same.0) same.1
