-- Deliveries pass over blocks: none of their dots joins or leaves.
use Rattle.std.proofs.Common.{◌≡◌, ◌⊎◌, inl, inr, ℕ, zero, suc, ◌+◌, ◌*◌, ◌/◌, ◌<◌, ◌≤◌, Bool, true, false, ◌&&◌, not, cond, T, List, [], ◌∷◌, ◌++◌, length, filter, take, slice_get}
use Rattle.std.proofs.Common.{Some, None, is_some, Less, refl, sym, ap, subst, ◌∙◌, arith}
use Rattle.std.proofs.lemmas.Bool.{cases_lt}
use Rattle.std.proofs.lemmas.List.Elements.{filter-append}
use Rattle.std.specs.Cmp.{tied_itself}
use Rattle.std.specs.List.{AllByRecursion}
use Rattle.std.specs.Ordering.{is_eq}
use Rattle.std.specs.FinMap as fin
use Rattle.std.specs.FinMap.Entries.{find}
use Rattle.std.specs.FinSet as set
use Rattle.dots_core.specs.declared.dot.Dot.{Dot}
use Rattle.dots_core.specs.Contexts.{IsContext}
use Rattle.dots_core.specs.Dots.{Dots, IsBelow, IsFirstDot, IsFrom, dot, dot_cmp}
use Rattle.dots_core.proofs.Order.{dot_total, less}
use Rattle.entry_core.specs.Presences.{Entries, Presence}
use Rattle.block_core.proofs.PlacesFrom.{below_less}
use Rattle.block_core.specs.Blocks.{Block, IsIn, IsMaskOf}
use Rattle.entry_core.specs.Masks.{is_live}
use Rattle.block_core.specs.Deliveries.{AreAlike, AreBefore, HasNone, IsAlike, is_gone, is_new}
use Rattle.block_core.specs.Sets.{AreBlocks, IsWithin, RisingBlocks, block_key, is_before, joined, key, set_map}
use Rattle.block_core.proofs.MaskedEntries.{filter_none}
use Rattle.block_core.proofs.SetEdits.{get_at}
use Rattle.block_core.proofs.SetMaps.{all_at}

-- what was passed makes no difference

module _ (test : Dot → Bool) where
  abbrev kept : List (Dot × Presence) → List (Dot × Presence)
  kept ps = filter (λ (p : Dot × Presence). test p.0) ps

  pub passed : (bs : List Block) (i j : ℕ) → i ≤ j → HasNone test bs i j → kept (joined (take j bs)) ≡ kept (joined (take i bs))
  passed [] zero zero le none = refl
  passed [] zero (suc j) le none = refl
  passed [] (suc i) zero le none = refl
  passed [] (suc i) (suc j) le none = refl
  passed (b ∷ bs) zero zero le none = refl
  passed (b ∷ bs) zero (suc j) le none =
      filter-append (λ (p : Dot × Presence). test p.0) (fin.entries b.map) (joined (take j bs))
      ∙ ap (λ ps. ps ++ kept (joined (take j bs))) (none 0 b (omega arith) (omega arith) refl)
      ∙ passed bs zero j (omega arith) (λ k c from to at. none (suc k) c (omega arith) (omega (arith, to)) at)
  passed (b ∷ bs) (suc i) zero le none = absurd (omega (arith, le))
  passed (b ∷ bs) (suc i) (suc j) le none =
      filter-append (λ (p : Dot × Presence). test p.0) (fin.entries b.map) (joined (take j bs))
      ∙ ap (λ ps. kept (fin.entries b.map) ++ ps)
      (passed bs i j (omega (arith, le)) (λ k c from to at. none (suc k) c (omega (arith, from)) (omega (arith, to)) at))
      ∙ sym (filter-append (λ (p : Dot × Presence). test p.0) (fin.entries b.map) (joined (take i bs)))

  pub both_none : (bs : List Block) (i j l : ℕ) → HasNone test bs i j → HasNone test bs j l → HasNone test bs i l
  both_none bs i j l one two = λ k b from to at. go k b from to at (cases_lt k j)
    where
      go : (k : ℕ) (b : Block) → i ≤ k → k < l → slice_get bs k ≡ Some b → (k < j) ⊎ (j ≤ k) → kept (fin.entries b.map) ≡ []
      go k b from to at (inl low) = one k b from low at
      go k b from to at (inr high) = two k b high to at

-- blocks in their order

pub taken : (P : Block → Type 0) (bs : List Block) (r k : ℕ) (c : Block) → AllByRecursion P (take r bs) → k < r → slice_get bs k ≡ Some c → P c
taken P [] r k c h low at = absurd (cc)
taken P (b ∷ bs) zero k c h low at = absurd (omega (arith, low))
taken P (b ∷ bs) (suc r) zero c h low at = let same : b ≡ c = cc in subst P same h.0
taken P (b ∷ bs) (suc r) (suc k) c h low at = taken P bs r k c h.1 (omega (arith, low)) at

pub rising_from : (bs : List Block) (i k : ℕ) (a c : Block) → RisingBlocks bs → i ≤ k → slice_get bs i ≡ Some a → slice_get bs k ≡ Some c →
    (a ≡ c) ⊎ (dot_cmp (key a) (key c) ≡ Less)
rising_from [] i k a c up le one two = absurd (cc)
rising_from (b ∷ bs) zero zero a c up le one two = let same : a ≡ c = cc in inl same
rising_from (b ∷ bs) zero (suc k) a c up le one two =
    let same : b ≡ a = cc in
    inr (subst (λ (x : Block). dot_cmp (key x) (key c) ≡ Less) same (all_at (λ x. dot_cmp (key b) (key x) ≡ Less) bs k c up.0 two))
rising_from (b ∷ bs) (suc i) zero a c up le one two = absurd (omega (arith, le))
rising_from (b ∷ bs) (suc i) (suc k) a c up le one two = rising_from bs i k a c up.1 (omega (arith, le)) one two

is_before_less : (k : Dot) (c : Block) → is_before k c ≡ true → IsBelow (key c) k
is_before_less k c h = below_less (key c) k (less (dot_cmp (key c) k) (subst T (sym h) tt))

from_key : (a c : Block) (d : Dot) → (a ≡ c) ⊎ (dot_cmp (key a) (key c) ≡ Less) → IsIn c.name c.base d → IsFrom (dot a.name (a.base * 64)) d
from_key a c d (inl same) here =
    let base : d.clock / 64 ≡ a.base = here.base ∙ ap (λ (b : Block). b.base) (sym same) in
    inr (ap (λ (b : Block). b.name) same ∙ sym here.name, omega (arith, base))
from_key a c d (inr up) here = go (below_less (key a) (key c) up)
  where
    name : d.name ≡ c.name
    name = here.name

    base : d.clock / 64 ≡ c.base
    base = here.base

    go : IsBelow (key a) (key c) → IsFrom (dot a.name (a.base * 64)) d
    go (inl low) = inl (omega (arith, low, name))
    go (inr both) = let low = both.1 in inr (both.0 ∙ sym name, omega (arith, low, base))

below_key : (c : Block) (f d : Dot) → is_before (block_key f) c ≡ true → IsIn c.name c.base d → IsBelow d f
below_key c f d before here = go (is_before_less (block_key f) c before)
  where
    name : d.name ≡ c.name
    name = here.name

    base : d.clock / 64 ≡ c.base
    base = here.base

    go : IsBelow (key c) (block_key f) → IsBelow d f
    go (inl low) = inl (omega (arith, low, name))
    go (inr both) = let low = both.1 in inr (name ∙ both.0, omega (arith, low, base))

-- of blocks of which no dot was seen, none leaves

unseen_gone : (named : ℕ → Bool) (seen : Dots) (there : Entries) (d : Dot) → (named d.name ≡ true → set.contains seen d ≡ false) →
    is_gone named seen there d ≡ false
unseen_gone named seen there d h = go (named d.name) refl
  where
    go : (t : Bool) → named d.name ≡ t → (t && (set.contains seen d && not (is_some (fin.get there d)))) ≡ false
    go false at = refl
    go true at = ap (λ s. s && not (is_some (fin.get there d))) (h at)

module _ (named : ℕ → Bool) (seen : Dots) (bs : List Block) (at : ℕ) (a : Block) (are : AreBlocks bs) (here : slice_get bs at ≡ Some a) where
  pub unseen_all : IsFirstDot named seen (dot a.name (a.base * 64)) None → (there : Entries) → HasNone (is_gone named seen there) bs at (length bs)
  unseen_all none there = λ k c from to is.
      filter_none c.name c.base (is_gone named seen there) (λ d inside.
      unseen_gone named seen there d (λ is_named. none d (from_key a c d (rising_from bs at k a c are.rises from here is) inside) is_named))
      (fin.entries c.map) (all_at IsWithin bs k c are.within is)

  pub unseen_before : (f : Dot) (j : ℕ) → IsFirstDot named seen (dot a.name (a.base * 64)) (Some f) → AreBefore (block_key f) bs at j →
      (there : Entries) → HasNone (is_gone named seen there) bs at j
  unseen_before f j first before there = λ k c from to is.
      filter_none c.name c.base (is_gone named seen there) (λ d inside.
      unseen_gone named seen there d (λ is_named.
      first.3 d (from_key a c d (rising_from bs at k a c are.rises from here is) inside) (below_key c f d (before k c from to is) inside) is_named))
      (fin.entries c.map) (all_at IsWithin bs k c are.within is)

  -- of blocks up to the context clock, none joins
  pub seen_before : (name clock j : ℕ) → a.name ≡ name → 0 < a.base → IsContext seen name clock → AreBefore (dot name (clock / 64)) bs at j →
      HasNone (is_new named seen) bs at j
  seen_before name clock j of_name some context before = λ k c from to is.
      filter_none c.name c.base (is_new named seen) (λ d inside.
      seen_new d (seen_dot c d inside (rising_from bs at k a c are.rises from here is) (is_before_less (dot name (clock / 64)) c (before k c from to is))))
      (fin.entries c.map) (all_at IsWithin bs k c are.within is)
    where
      seen_new : (d : Dot) → set.contains seen d ≡ true → is_new named seen d ≡ false
      seen_new d held = ap (λ s. named d.name && not s) held ∙ and_false (named d.name)
        where
          and_false : (t : Bool) → (t && false) ≡ false
          and_false true = refl
          and_false false = refl

      at_clock : (d : Dot) → d.name ≡ name → 0 < d.clock → d.clock ≤ clock → set.contains seen d ≡ true
      at_clock d is pos most =
          let one : dot name d.clock ≡ d = (λ i. record { name = sym is i; clock = d.clock }) in
          subst (λ q. set.contains seen q ≡ true) one ((context.all d.clock most).1 pos)

      seen_dot : (c : Block) (d : Dot) → IsIn c.name c.base d → (a ≡ c) ⊎ (dot_cmp (key a) (key c) ≡ Less) →
          IsBelow (key c) (dot name (clock / 64)) → set.contains seen d ≡ true
      seen_dot c d inside (inl same) (inl low) =
          let one = ap (λ (b : Block). b.name) same in absurd (omega (arith, low, of_name, one))
      seen_dot c d inside (inl same) (inr both) =
          let base : d.clock / 64 ≡ a.base = inside.base ∙ ap (λ (b : Block). b.base) (sym same) in
          let less : a.base < clock / 64 = subst (λ (b : Block). b.base < clock / 64) (sym same) both.1 in
          at_clock d (inside.name ∙ both.0) (omega (arith, base, some)) (omega (arith, base, less))
      seen_dot c d inside (inr up) low = go (below_less (key a) (key c) up) low
        where
          go : IsBelow (key a) (key c) → IsBelow (key c) (dot name (clock / 64)) → set.contains seen d ≡ true
          go (inl one) (inl two) = absurd (omega (arith, one, two, of_name))
          go (inl one) (inr two) = let same = two.0 in absurd (omega (arith, one, same, of_name))
          go (inr one) (inl two) = let same = one.0 in absurd (omega (arith, two, same, of_name))
          go (inr one) (inr two) =
              let up = one.1 in
              let low = two.1 in
              let base : d.clock / 64 ≡ c.base = inside.base in
              at_clock d (inside.name ∙ two.0) (omega (arith, base, up)) (omega (arith, base, low))

-- of blocks that are alike, none leaves

found_more : (p : Dot × Presence) (ps qs : List (Dot × Presence)) → AllByRecursion (λ (q : Dot × Presence). is_some (find dot_cmp q.0 ps) ≡ true) qs →
    AllByRecursion (λ (q : Dot × Presence). is_some (find dot_cmp q.0 (p ∷ ps)) ≡ true) qs
found_more p ps [] h = tt
found_more p ps (q ∷ qs) h = (go (is_eq (dot_cmp q.0 p.0)), found_more p ps qs h.1)
  where
    go : (t : Bool) → is_some (cond t (Some p.1) (find dot_cmp q.0 ps)) ≡ true
    go true = refl
    go false = h.0

all_found : (ps : List (Dot × Presence)) → AllByRecursion (λ (q : Dot × Presence). is_some (find dot_cmp q.0 ps) ≡ true) ps
all_found [] = tt
all_found (p ∷ ps) = (
  ap (λ o. is_some (cond (is_eq o) (Some p.1) (find dot_cmp p.0 ps))) (tied_itself dot_total p.0),
  found_more p ps ps (all_found ps),
)

filter_never : (test : Dot → Bool) (ps : List (Dot × Presence)) → AllByRecursion (λ (p : Dot × Presence). test p.0 ≡ false) ps →
    filter (λ (p : Dot × Presence). test p.0) ps ≡ []
filter_never test [] h = refl
filter_never test (p ∷ ps) h =
    ap (λ t. cond t (p ∷ filter (λ (p : Dot × Presence). test p.0) ps) (filter (λ (p : Dot × Presence). test p.0) ps)) h.0 ∙ filter_never test ps h.1

module _ (named : ℕ → Bool) (seen : Dots) (there : List Block) where
  stays : (d : Dot) → is_some (fin.get (set_map there) d) ≡ true → is_gone named seen (set_map there) d ≡ false
  stays d held = ap (λ t. named d.name && (set.contains seen d && not t)) held ∙ go (named d.name) (set.contains seen d)
    where
      go : (s t : Bool) → (s && (t && false)) ≡ false
      go true true = refl
      go true false = refl
      go false t = refl

  alike_none : (c : Block) → IsWithin c → IsAlike there c → filter (λ (p : Dot × Presence). is_gone named seen (set_map there) p.0) (fin.entries c.map) ≡ []
  alike_none c within alike =
      filter_never (is_gone named seen (set_map there)) (fin.entries c.map)
      (go (fin.entries c.map) within (all_found (fin.entries c.map)))
    where
      go : (ps : List (Dot × Presence)) → AllByRecursion (λ (p : Dot × Presence). IsIn c.name c.base p.0) ps →
          AllByRecursion (λ (p : Dot × Presence). is_some (find dot_cmp p.0 (fin.entries c.map)) ≡ true) ps →
          AllByRecursion (λ (p : Dot × Presence). is_gone named seen (set_map there) p.0 ≡ false) ps
      go [] w f = tt
      go (p ∷ ps) w f =
          (stays p.0 (sym (alike p.0 w.0) ∙ ap is_some (fin.get-entries c.map p.0) ∙ f.0), go ps w.1 f.1)

  pub alike_pass : (bs : List Block) (i j : ℕ) → AreBlocks bs → AreAlike there bs i j → HasNone (is_gone named seen (set_map there)) bs i j
  alike_pass bs i j are alike = λ k c from to is. alike_none c (all_at IsWithin bs k c are.within is) (alike k c from to is)

pub alike_at : (there bs : List Block) (i j : ℕ) (ours theirs : Block) (m n : ℕ) → AreBlocks there → slice_get bs i ≡ Some ours →
    slice_get there j ≡ Some theirs → key theirs ≡ dot ours.name ours.base → IsMaskOf ours.name ours.base m ours.map →
    IsMaskOf theirs.name theirs.base n theirs.map → m ≡ n → AreAlike there bs i (i + 1)
alike_at there bs i j ours theirs m n are here at same one two masks = λ k b from to is d inside.
    let k_is : k ≡ i = omega (arith, from, to) in
    let both : Some b ≡ Some ours = sym is ∙ ap (slice_get bs) k_is ∙ here in
    let b_is : b ≡ ours = cc in
    ap (λ (c : Block). is_some (fin.get c.map d)) b_is
    ∙ told d (record { name = inside.name ∙ ap (λ (c : Block). c.name) b_is; base = inside.base ∙ ap (λ (c : Block). c.base) b_is })
  where
    told : (d : Dot) → IsIn ours.name ours.base d → is_some (fin.get ours.map d) ≡ is_some (fin.get (set_map there) d)
    told d inside =
        let within : IsIn theirs.name theirs.base d = record {
          name = inside.name ∙ sym (ap (λ (q : Dot). q.name) same);
          base = inside.base ∙ sym (ap (λ (q : Dot). q.clock) same);
        } in
        let of_dot : key theirs ≡ block_key d = same ∙ (λ t. record { name = sym inside.name t; clock = sym inside.base t }) in
        sym (one d inside) ∙ ap (λ mask. is_live mask d) masks ∙ two d within
        ∙ ap is_some (sym (get_at there j theirs d are.rises are.within at of_dot))

pub alike_both : (there bs : List Block) (i j l : ℕ) → AreAlike there bs i j → AreAlike there bs j l → AreAlike there bs i l
alike_both there bs i j l one two = λ k b from to at. go k b from to at (cases_lt k j)
  where
    go : (k : ℕ) (b : Block) → i ≤ k → k < l → slice_get bs k ≡ Some b → (k < j) ⊎ (j ≤ k) → IsAlike there b
    go k b from to at (inl low) = one k b from low at
    go k b from to at (inr high) = two k b high to at
