-- Where a search stands in a list of entries that rises by dot.
use Rattle.std.proofs.Common.{◌≡◌, ◌⊎◌, inl, inr, ℕ, zero, suc, ◌<◌, ◌≤◌, T, List, [], ◌∷◌, slice_get, Some, Result, Ok, Err}
use Rattle.std.proofs.Common.{Ordering, Less, Equal, Greater, refl, sym, ap, subst, ◌∙◌, arith}
use Rattle.std.proofs.Math.Facts.{and_yes}
use Rattle.std.proofs.lemmas.Cmp.{ranked}
use Rattle.std.specs.Ordering.{MatchOrdering, nat_cmp, ordering_reverse, ordering_then}
use Rattle.std.specs.FinMap as fin
use Rattle.std.specs.FinMap.Entries.{below_all, by_order, is_sorted}
use Rattle.dots_core.specs.declared.dot.Dot.{Dot}
use Rattle.dots_core.specs.Dots.{IsBelow, IsFrom, dot_cmp}
use Rattle.dots_core.proofs.Order.{dot_exact, dot_total, less}
use Rattle.entry_core.specs.Presences.{Presence, Entry}
use Rattle.entry_core.specs.EntryLists.{IsPlaceFrom, Rises, entries_of, one_later, pair_of, pairs, spot}
use Rattle.entry_core.proofs.EntryLists.{entries-entries_of}

-- the order of dots

pub below_less : (a b : Dot) → dot_cmp a b ≡ Less → IsBelow a b
below_less a b h = go (nat_cmp a.name b.name) (nat_cmp a.clock b.clock) (ranked a.name b.name _ refl) (ranked a.clock b.clock _ refl) h
  where
    go : (o u : Ordering) → MatchOrdering o (a.name < b.name) (a.name ≡ b.name) (b.name < a.name) →
        MatchOrdering u (a.clock < b.clock) (a.clock ≡ b.clock) (b.clock < a.clock) → ordering_then o u ≡ Less → IsBelow a b
    go Less u name clock h = inl name
    go Equal Less name clock h = inr (name, clock)
    go Equal Equal name clock h = absurd (cc)
    go Equal Greater name clock h = absurd (cc)
    go Greater u name clock h = absurd (cc)

from_below : (a b : Dot) → IsBelow a b → IsFrom a b
from_below a b (inl name) = inl name
from_below a b (inr same) = let clock = same.1 in inr (same.0, omega arith)

from_same : (a b : Dot) → a ≡ b → IsFrom a b
from_same a b e = let clock = ap (λ (d : Dot). d.clock) e in inr (ap (λ (d : Dot). d.name) e, omega (arith, clock))

from_through : (a b c : Dot) → IsFrom a b → IsBelow b c → IsFrom a c
from_through a b c (inl x) (inl y) = inl (omega arith)
from_through a b c (inl x) (inr y) = let name = y.0 in inl (omega arith)
from_through a b c (inr x) (inl y) = let name = x.0 in inl (omega arith)
from_through a b c (inr x) (inr y) = let low = x.1 in let high = y.1 in inr (x.0 ∙ y.0, omega arith)

below_at : (d : Dot) (ps : List (Dot × Presence)) → T (below_all dot_cmp d ps) → (k : ℕ) (p : Dot × Presence) → slice_get ps k ≡ Some p →
    IsBelow d p.0
below_at d [] h k p is = absurd (cc)
below_at d (q ∷ ps) h zero p is =
    let same : q ≡ p = cc in subst (λ (p : Dot × Presence). IsBelow d p.0) same (below_less d q.0 (less _ (and_yes _ _ h).0))
below_at d (q ∷ ps) h (suc k) p is = below_at d ps (and_yes _ _ h).1 k p is

-- an entry is not below those before it
pub from_earlier : (ps : List (Dot × Presence)) → T (is_sorted dot_cmp ps) → (i k : ℕ) (e p : Dot × Presence) → i ≤ k →
    slice_get ps i ≡ Some e → slice_get ps k ≡ Some p → IsFrom e.0 p.0
from_earlier [] h i k e p le at is = absurd (cc)
from_earlier (q ∷ ps) h zero zero e p le at is = let same : e ≡ p = cc in from_same e.0 p.0 (ap (λ (p : Dot × Presence). p.0) same)
from_earlier (q ∷ ps) h zero (suc k) e p le at is =
    let same : q ≡ e = cc in subst (λ (e : Dot × Presence). IsFrom e.0 p.0) same (from_below q.0 p.0 (below_at q.0 ps (and_yes _ _ h).0 k p is))
from_earlier (q ∷ ps) h (suc i) zero e p le at is = absurd (omega arith)
from_earlier (q ∷ ps) h (suc i) (suc k) e p le at is = from_earlier ps (and_yes _ _ h).1 i k e p (omega arith) at is

-- the place that a search gives

later : (r : Result ℕ ℕ) (i : ℕ) → (one_later r ≡ Ok i) ⊎ (one_later r ≡ Err i) → (j : ℕ) × ((r ≡ Ok j) ⊎ (r ≡ Err j)) × (i ≡ suc j)
later (Ok j) i (inl e) = let is : suc j ≡ i = cc in (j, inl refl, sym is)
later (Ok j) i (inr e) = absurd (cc)
later (Err j) i (inl e) = absurd (cc)
later (Err j) i (inr e) = let is : suc j ≡ i = cc in (j, inr refl, sym is)

module _ (d : Dot) where
  none : IsPlaceFrom d [] 0
  none = record { within = omega arith; below = λ k p low is. absurd (cc); from = λ k p high is. absurd (cc) }

  front : (e : Entry) (es : List Entry) → IsFrom d e.dot → T (below_all dot_cmp e.dot (pairs es)) → IsPlaceFrom d (pairs (e ∷ es)) 0
  front e es here above = record { within = omega arith; below = λ k p low is. absurd (omega arith); from = λ k p high is. go k p is }
    where
      go : (k : ℕ) (p : Dot × Presence) → slice_get (pairs (e ∷ es)) k ≡ Some p → IsFrom d p.0
      go zero p is = let same : pair_of e ≡ p = cc in subst (λ (p : Dot × Presence). IsFrom d p.0) same here
      go (suc k) p is = from_through d e.dot p.0 here (below_at e.dot (pairs es) above k p is)

  behind : (e : Entry) (es : List Entry) (j : ℕ) → IsBelow e.dot d → IsPlaceFrom d (pairs es) j → IsPlaceFrom d (pairs (e ∷ es)) (suc j)
  behind e es j low rest = record { within = let most = rest.within in omega (arith, most); below = under; from = over }
    where
      under : (k : ℕ) (p : Dot × Presence) → k < suc j → slice_get (pairs (e ∷ es)) k ≡ Some p → IsBelow p.0 d
      under zero p lt is = let same : pair_of e ≡ p = cc in subst (λ (p : Dot × Presence). IsBelow p.0 d) same low
      under (suc k) p lt is = rest.below k p (omega arith) is

      over : (k : ℕ) (p : Dot × Presence) → suc j ≤ k → slice_get (pairs (e ∷ es)) k ≡ Some p → IsFrom d p.0
      over zero p le is = absurd (omega arith)
      over (suc k) p le is = rest.from k p (omega arith) is

  pub place_from : (es : List Entry) (i : ℕ) → Rises es → (spot d es ≡ Ok i) ⊎ (spot d es ≡ Err i) → IsPlaceFrom d (pairs es) i
  place_from [] i h (inl e) = absurd (cc)
  place_from [] i h (inr e) = let is : 0 ≡ i = cc in subst (IsPlaceFrom d []) is none
  place_from (e ∷ es) i h at = go (dot_cmp d e.dot) refl at (λ j. place_from es j (and_yes _ _ h).1)
    where
      go : (o : Ordering) → dot_cmp d e.dot ≡ o → (by_order o (Err 0) (Ok 0) (one_later (spot d es)) ≡ Ok i) ⊎
          (by_order o (Err 0) (Ok 0) (one_later (spot d es)) ≡ Err i) →
          ((j : ℕ) → (spot d es ≡ Ok j) ⊎ (spot d es ≡ Err j) → IsPlaceFrom d (pairs es) j) → IsPlaceFrom d (pairs (e ∷ es)) i
      go Less o (inl x) again = absurd (cc)
      go Less o (inr x) again = let is : 0 ≡ i = cc in subst (IsPlaceFrom d (pairs (e ∷ es))) is
          (front e es (from_below d e.dot (below_less d e.dot o)) (and_yes _ _ h).0)
      go Equal o (inl x) again = let is : 0 ≡ i = cc in subst (IsPlaceFrom d (pairs (e ∷ es))) is
          (front e es (from_same d e.dot (dot_exact d e.dot o)) (and_yes _ _ h).0)
      go Equal o (inr x) again = absurd (cc)
      go Greater o at again =
          let rest = later (spot d es) i at in
          subst (IsPlaceFrom d (pairs (e ∷ es))) (sym rest.2) (behind e es rest.0
          (below_less e.dot d (dot_total.antisymm e.dot d ∙ ap ordering_reverse o)) (again rest.0 rest.1))

  pub placed : (es : List Entry) (i : ℕ) → Rises es → (spot d es ≡ Ok i) ⊎ (spot d es ≡ Err i) → IsPlaceFrom d (fin.entries (entries_of es)) i
  placed es i h at = subst (λ ps. IsPlaceFrom d ps i) (sym (entries-entries_of es h)) (place_from es i h at)
