-- Blocks as one map: what is found in them, and what edits of one are for the whole.
use Rattle.std.proofs.Common.{◌≡◌, ◌≢◌, inl, inr, ℕ, zero, suc, ◌+◌, ◌/◌, ◌<◌, ◌≤◌, Bool, true, false, cond, T, List, [], ◌∷◌, ◌++◌, length, take, drop, filter, get_or, insert, remove, slice_get, slice_set, Option}
use Rattle.std.proofs.Common.{Some, None, Less, Equal, refl, sym, ap, subst, ◌∙◌, arith}
use Rattle.std.proofs.Math.Facts.{and_yes, yes_and}
use Rattle.std.proofs.lemmas.List.{append_assoc, append-nil, length-append, take_more}
use Rattle.std.specs.Cmp.{nat_cmp_is, tied_itself}
use Rattle.std.specs.List.{AllByRecursion}
use Rattle.std.specs.Ordering.{is_lt, nat_cmp, ordering_then}
use Rattle.std.specs.FinMap as fin
use Rattle.std.specs.FinMap.Entries.{find, below_all, is_sorted}
use Rattle.dots_core.specs.declared.dot.Dot.{Dot}
use Rattle.dots_core.specs.Dots.{IsBelow, dot, dot_cmp}
use Rattle.dots_core.proofs.Order.{dot_exact, dot_total, is_dot, is_dot-true, same_of_tied}
use Rattle.entry_core.specs.Presences.{Presence, Entry, entries_of_names}
use Rattle.entry_core.specs.EntryLists.{Rises, pairs}
use Rattle.entry_core.proofs.EntryLists.{entries-entries_of, entries_of-filter}
use Rattle.block_core.proofs.PlacesFrom.{below_less}
use Rattle.entry_core.specs.Masks.{is_live}
use Rattle.block_core.specs.Blocks.{Block, IsIn, AreIn, live_map}
use Rattle.entry_core.specs.Lists.{live_ones}
use Rattle.block_core.specs.Sets.{key, block_key, RisingBlocks, IsWithin, IsFilled, joined, set_map, AreBlocks, IsGap}
use Rattle.block_core.proofs.LiveMaps.{all_filter, all_insert, all_remove, rises_live}

-- the order of dots

less_below : (a b : Dot) → IsBelow a b → dot_cmp a b ≡ Less
less_below a b (inl name) =
    ap (λ o. ordering_then o (nat_cmp a.clock b.clock)) (sym (nat_cmp_is a.name b.name Less name))
less_below a b (inr both) =
    ap (λ o. ordering_then o (nat_cmp a.clock b.clock)) (sym (nat_cmp_is a.name b.name Equal both.0))
    ∙ sym (nat_cmp_is a.clock b.clock Less both.1)

-- dots are in the order of their blocks
pub in_order : (n m b c : ℕ) (d q : Dot) → IsIn n b d → IsIn m c q → dot_cmp (dot n b) (dot m c) ≡ Less → dot_cmp d q ≡ Less
in_order n m b c d q one two up = less_below d q (go (below_less (dot n b) (dot m c) up))
  where
    dn : d.name ≡ n
    dn = one.name

    qm : q.name ≡ m
    qm = two.name

    db : d.clock / 64 ≡ b
    db = one.base

    qc : q.clock / 64 ≡ c
    qc = two.base

    go : IsBelow (dot n b) (dot m c) → IsBelow d q
    go (inl name) = inl (omega (arith, name, dn, qm))
    go (inr both) =
        let same : d.name ≡ q.name = dn ∙ both.0 ∙ sym qm in
        let base = both.1 in inr (same, omega (arith, base, db, qc))

-- what is found in two lists

abbrev first_of : Option Presence → Option Presence → Option Presence
first_of None o = o
first_of (Some p) o = Some p

first_none : (o : Option Presence) → first_of o None ≡ o
first_none None = refl
first_none (Some p) = refl

find_append : (q : Dot) (xs ys : List (Dot × Presence)) → find dot_cmp q (xs ++ ys) ≡ first_of (find dot_cmp q xs) (find dot_cmp q ys)
find_append q [] ys = refl
find_append q (x ∷ xs) ys = go (is_dot q x.0) (find_append q xs ys)
  where
    go : (t : Bool) → find dot_cmp q (xs ++ ys) ≡ first_of (find dot_cmp q xs) (find dot_cmp q ys) →
        cond t (Some x.1) (find dot_cmp q (xs ++ ys)) ≡ first_of (cond t (Some x.1) (find dot_cmp q xs)) (find dot_cmp q ys)
    go true again = refl
    go false again = again

-- a dot of another block isn't found in this one
outside : (n b : ℕ) (q : Dot) (ps : List (Dot × Presence)) → AllByRecursion (λ (p : Dot × Presence). IsIn n b p.0) ps →
    dot n b ≢ block_key q → find dot_cmp q ps ≡ None
outside n b q [] h other = refl
outside n b q (p ∷ ps) h other = go (is_dot q p.0) refl (outside n b q ps h.1 other)
  where
    same : q ≡ p.0 → dot n b ≡ block_key q
    same e =
        ap (λ m. dot m b) (sym (h.0).name) ∙ ap (dot (p.0).name) (sym (h.0).base) ∙ ap block_key (sym e)

    go : (t : Bool) → is_dot q p.0 ≡ t → find dot_cmp q ps ≡ None → cond t (Some p.1) (find dot_cmp q ps) ≡ None
    go true at rest = absurd (other (same (is_dot-true q p.0 at)))
    go false at rest = rest

module _ (q : Dot) where
  -- what one block has of the dot, and the others
  pub found_first : (b : Block) (bs : List Block) → find dot_cmp q (joined (b ∷ bs)) ≡ first_of (fin.get b.map q) (find dot_cmp q (joined bs))
  found_first b bs =
      find_append q (fin.entries b.map) (joined bs) ∙ ap (λ o. first_of o (find dot_cmp q (joined bs))) (sym (fin.get-entries b.map q))

  get_outside : (b : Block) → IsWithin b → key b ≢ block_key q → fin.get b.map q ≡ None
  get_outside b h other = fin.get-entries b.map q ∙ outside b.name b.base q (fin.entries b.map) h other

  pub none_others : (bs : List Block) → AllByRecursion IsWithin bs → AllByRecursion (λ b. key b ≢ block_key q) bs →
      find dot_cmp q (joined bs) ≡ None
  none_others [] h others = refl
  none_others (b ∷ bs) h others =
      found_first b bs ∙ ap (λ o. first_of o (find dot_cmp q (joined bs))) (get_outside b h.0 others.0) ∙ none_others bs h.1 others.1

  -- keys that are below, or above, one are others
  less_other : (a b : Dot) → dot_cmp a b ≡ Less → a ≢ b
  less_other a b up same =
      let equal : dot_cmp a b ≡ Equal = ap (dot_cmp a) (sym same) ∙ tied_itself dot_total a in absurd (cc)

  others_above : (k : Dot) (bs : List Block) → k ≡ block_key q → AllByRecursion (λ b. dot_cmp k (key b) ≡ Less) bs →
      AllByRecursion (λ b. key b ≢ block_key q) bs
  others_above k [] is h = tt
  others_above k (b ∷ bs) is h = (λ same. less_other k (key b) h.0 (is ∙ sym same), others_above k bs is h.1)

  others_below : (bs : List Block) → AllByRecursion (λ b. dot_cmp (key b) (block_key q) ≡ Less) bs →
      AllByRecursion (λ b. key b ≢ block_key q) bs
  others_below [] h = tt
  others_below (b ∷ bs) h = (λ same. less_other (key b) (block_key q) h.0 same, others_below bs h.1)

  pub find_at : (bs : List Block) (i : ℕ) (b : Block) → RisingBlocks bs → AllByRecursion IsWithin bs → slice_get bs i ≡ Some b →
      key b ≡ block_key q → find dot_cmp q (joined bs) ≡ fin.get b.map q
  find_at [] i b up h at is = absurd (cc)
  find_at (c ∷ bs) zero b up h at is =
      let same : c ≡ b = cc in
      let here : key c ≡ block_key q = ap key same ∙ is in
      found_first c bs
      ∙ ap (first_of (fin.get c.map q)) (none_others bs h.1 (others_above (key c) bs here up.0))
      ∙ first_none (fin.get c.map q) ∙ ap (λ (x : Block). fin.get x.map q) same
  find_at (c ∷ bs) (suc i) b up h at is =
      let low = above_at bs i up.0 at in
      found_first c bs
      ∙ ap (λ o. first_of o (find dot_cmp q (joined bs)))
      (get_outside c h.0 (λ same. less_other (key c) (key b) low (same ∙ sym is)))
      ∙ find_at bs i b up.1 h.1 at is
    where
      above_at : (bs : List Block) (i : ℕ) → AllByRecursion (λ x. dot_cmp (key c) (key x) ≡ Less) bs → slice_get bs i ≡ Some b →
          dot_cmp (key c) (key b) ≡ Less
      above_at [] i low at = absurd (cc)
      above_at (x ∷ bs) zero low at = let same : x ≡ b = cc in ap (λ (y : Block). dot_cmp (key c) (key y)) (sym same) ∙ low.0
      above_at (x ∷ bs) (suc i) low at = above_at bs i low.1 at

  both_parts : {X : Type 0} (P : X → Type 0) (i : ℕ) (xs : List X) → AllByRecursion P (take i xs) → AllByRecursion P (drop i xs) →
      AllByRecursion P xs
  both_parts P zero xs one two = two
  both_parts P (suc i) [] one two = tt
  both_parts P (suc i) (x ∷ xs) one two = (one.0, both_parts P i xs one.1 two)

  pub find_gap : (bs : List Block) (i : ℕ) → AllByRecursion IsWithin bs → IsGap (block_key q) bs i → find dot_cmp q (joined bs) ≡ None
  find_gap bs i h gap =
      none_others bs h (both_parts (λ b. key b ≢ block_key q) i bs (others_below (take i bs) gap.before)
      (others_above (block_key q) (drop i bs) refl gap.behind))

  -- a dot of another block doesn't see an edit

  pub find_set : (bs : List Block) (i : ℕ) (b c : Block) → slice_get bs i ≡ Some b → AllByRecursion IsWithin bs → IsWithin c →
      key b ≢ block_key q → key c ≢ block_key q → find dot_cmp q (joined (slice_set bs i c)) ≡ find dot_cmp q (joined bs)
  find_set [] i b c at h within other apart = refl
  find_set (x ∷ bs) zero b c at h within other apart =
      let same : b ≡ x = cc in
      found_first c bs ∙ ap (λ o. first_of o (find dot_cmp q (joined bs))) (get_outside c within apart)
      ∙ sym (found_first x bs ∙ ap (λ o. first_of o (find dot_cmp q (joined bs)))
      (get_outside x h.0 (subst (λ (y : Block). key y ≢ block_key q) same other)))
  find_set (x ∷ bs) (suc i) b c at h within other apart =
      found_first x (slice_set bs i c) ∙ ap (first_of (fin.get x.map q)) (find_set bs i b c at h.1 within other apart) ∙ sym (found_first x bs)

  pub find_insert : (bs : List Block) (i : ℕ) (c : Block) → IsWithin c → key c ≢ block_key q →
      find dot_cmp q (joined (insert bs i c)) ≡ find dot_cmp q (joined bs)
  find_insert bs zero c within apart =
      found_first c bs ∙ ap (λ o. first_of o (find dot_cmp q (joined bs))) (get_outside c within apart)
  find_insert [] (suc i) c within apart =
      found_first c [] ∙ ap (λ o. first_of o None) (get_outside c within apart)
  find_insert (x ∷ bs) (suc i) c within apart =
      found_first x (insert bs i c) ∙ ap (first_of (fin.get x.map q)) (find_insert bs i c within apart) ∙ sym (found_first x bs)

-- an empty block makes no difference
pub joined_without : (bs : List Block) (i : ℕ) (b : Block) → slice_get bs i ≡ Some b → fin.len b.map ≡ 0 → joined (remove bs i) ≡ joined bs
joined_without [] i b at none = absurd (cc)
joined_without (x ∷ bs) zero b at none =
    let same : x ≡ b = cc in
    let empty : fin.entries x.map ≡ [] = nothing_in (fin.entries x.map)
    (sym (fin.len-entries x.map) ∙ ap (λ (y : Block). fin.len y.map) same ∙ none) in
    ap (λ ps. ps ++ joined bs) (sym empty)
  where
    nothing_in : (ps : List (Dot × Presence)) → length ps ≡ 0 → ps ≡ []
    nothing_in [] e = refl
    nothing_in (p ∷ ps) e = absurd (cc)
joined_without (x ∷ bs) (suc i) b at none = ap (λ ps. fin.entries x.map ++ ps) (joined_without bs i b at none)

-- the whole rises

module _ (d : Dot) where
  below_append : (xs ys : List (Dot × Presence)) → T (below_all dot_cmp d xs) → T (below_all dot_cmp d ys) → T (below_all dot_cmp d (xs ++ ys))
  below_append [] ys one two = two
  below_append (x ∷ xs) ys one two =
      let parts = and_yes (is_lt (dot_cmp d x.0)) (below_all dot_cmp d xs) one in
      yes_and (is_lt (dot_cmp d x.0)) (below_all dot_cmp d (xs ++ ys)) parts.0 (below_append xs ys parts.1 two)

  below_in : (n b : ℕ) (c : Block) (ps : List (Dot × Presence)) → IsIn n b d → dot_cmp (dot n b) (key c) ≡ Less →
      AllByRecursion (λ (p : Dot × Presence). IsIn c.name c.base p.0) ps → T (below_all dot_cmp d ps)
  below_in n b c [] here up h = tt
  below_in n b c (p ∷ ps) here up h =
      let low = in_order n c.name b c.base d p.0 here h.0 up in
      yes_and (is_lt (dot_cmp d p.0)) (below_all dot_cmp d ps) (subst (λ o. T (is_lt o)) (sym low) tt) (below_in n b c ps here up h.1)

  below_joined : (n b : ℕ) (bs : List Block) → IsIn n b d → AllByRecursion (λ c. dot_cmp (dot n b) (key c) ≡ Less) bs →
      AllByRecursion IsWithin bs → T (below_all dot_cmp d (joined bs))
  below_joined n b [] here up h = tt
  below_joined n b (c ∷ bs) here up h =
      below_append (fin.entries c.map) (joined bs) (below_in n b c (fin.entries c.map) here up.0 h.0) (below_joined n b bs here up.1 h.1)

sorted_append : (n b : ℕ) (ps : List (Dot × Presence)) (bs : List Block) → T (is_sorted dot_cmp ps) →
    AllByRecursion (λ (p : Dot × Presence). IsIn n b p.0) ps → AllByRecursion (λ c. dot_cmp (dot n b) (key c) ≡ Less) bs →
    AllByRecursion IsWithin bs → T (is_sorted dot_cmp (joined bs)) → T (is_sorted dot_cmp (ps ++ joined bs))
sorted_append n b [] bs sorted h up within rest = rest
sorted_append n b (p ∷ ps) bs sorted h up within rest =
    let parts = and_yes (below_all dot_cmp p.0 ps) (is_sorted dot_cmp ps) sorted in
    yes_and (below_all dot_cmp p.0 (ps ++ joined bs)) (is_sorted dot_cmp (ps ++ joined bs))
    (below_append p.0 ps (joined bs) parts.0 (below_joined p.0 n b bs h.0 up within))
    (sorted_append n b ps bs parts.1 h.1 up within rest)

pub sorted_joined : (bs : List Block) → RisingBlocks bs → AllByRecursion IsWithin bs → T (is_sorted dot_cmp (joined bs))
sorted_joined [] up h = tt
sorted_joined (b ∷ bs) up h =
    sorted_append b.name b.base (fin.entries b.map) bs (fin.entries_sorted b.map) h.0 up.0 h.1 (sorted_joined bs up.1 h.1)

pub get_set : (bs : List Block) (q : Dot) → AreBlocks bs → fin.get (set_map bs) q ≡ find dot_cmp q (joined bs)
get_set bs q are = fin.get-from_sorted dot_cmp (joined bs) q (sorted_joined bs are.rises are.within)

pub entries_set : (bs : List Block) → AreBlocks bs → fin.entries (set_map bs) ≡ joined bs
entries_set bs are = fin.entries-from_sorted dot_cmp (joined bs) (sorted_joined bs are.rises are.within)

-- the dots of a block's live entries are of the block
pub within_live : (n b live : ℕ) (es : List Entry) → Rises es → AreIn n b es →
    AllByRecursion (λ (p : Dot × Presence). IsIn n b p.0) (fin.entries (live_map live es))
within_live n b live es up h =
    subst (AllByRecursion (λ (p : Dot × Presence). IsIn n b p.0))
    (sym (entries-entries_of (live_ones live es) (rises_live live es up)) ∙ ap fin.entries (entries_of-filter (is_live live) es up))
    (in_pairs (live_ones live es) (all_filter (λ (x : Entry). IsIn n b x.dot) (λ (x : Entry). is_live live x.dot) es h))
  where
    in_pairs : (es : List Entry) → AreIn n b es → AllByRecursion (λ (p : Dot × Presence). IsIn n b p.0) (pairs es)
    in_pairs [] h = tt
    in_pairs (e ∷ es) h = (h.0, in_pairs es h.1)

-- edits of a block

module _ {X : Type 0} (P : X → Type 0) where
  pub all_set : (xs : List X) (i : ℕ) (y : X) → AllByRecursion P xs → P y → AllByRecursion P (slice_set xs i y)
  all_set [] i y h here = tt
  all_set (x ∷ xs) zero y h here = (here, h.1)
  all_set (x ∷ xs) (suc i) y h here = (h.0, all_set xs i y h.1 here)

  pub all_at : (xs : List X) (i : ℕ) (y : X) → AllByRecursion P xs → slice_get xs i ≡ Some y → P y
  all_at [] i y h at = absurd (cc)
  all_at (x ∷ xs) zero y h at = let same : x ≡ y = cc in subst P same h.0
  all_at (x ∷ xs) (suc i) y h at = all_at xs i y h.1 at

pub rising_set : (bs : List Block) (i : ℕ) (b c : Block) → slice_get bs i ≡ Some b → key c ≡ key b → RisingBlocks bs → RisingBlocks (slice_set bs i c)
rising_set [] i b c at is up = tt
rising_set (x ∷ bs) zero b c at is up =
    let same : b ≡ x = cc in
    (subst (λ k. AllByRecursion (λ y. dot_cmp k (key y) ≡ Less) bs) (sym (is ∙ ap key same)) up.0, up.1)
rising_set (x ∷ bs) (suc i) b c at is up = (
  all_set (λ y. dot_cmp (key x) (key y) ≡ Less) bs i c up.0
      (ap (dot_cmp (key x)) is ∙ all_at (λ y. dot_cmp (key x) (key y) ≡ Less) bs i b up.0 at),
  rising_set bs i b c at is up.1,
)

pub rising_remove : (bs : List Block) (i : ℕ) → RisingBlocks bs → RisingBlocks (remove bs i)
rising_remove [] zero up = tt
rising_remove [] (suc i) up = tt
rising_remove (x ∷ bs) zero up = up.1
rising_remove (x ∷ bs) (suc i) up =
    (all_remove (λ y. dot_cmp (key x) (key y) ≡ Less) bs i up.0, rising_remove bs i up.1)

pub rising_insert : (bs : List Block) (i : ℕ) (c : Block) → RisingBlocks bs → IsGap (key c) bs i → RisingBlocks (insert bs i c)
rising_insert bs i c up gap = go bs i up gap.before gap.behind
  where
    through : (x : Block) (bs : List Block) → dot_cmp (key x) (key c) ≡ Less → AllByRecursion (λ y. dot_cmp (key c) (key y) ≡ Less) bs →
        AllByRecursion (λ y. dot_cmp (key x) (key y) ≡ Less) bs
    through x [] low h = tt
    through x (y ∷ bs) low h = (dot_total.trans (key x) (key c) (key y) low h.0, through x bs low h.1)

    go : (bs : List Block) (i : ℕ) → RisingBlocks bs → AllByRecursion (λ b. dot_cmp (key b) (key c) ≡ Less) (take i bs) →
        AllByRecursion (λ b. dot_cmp (key c) (key b) ≡ Less) (drop i bs) → RisingBlocks (insert bs i c)
    go bs zero up before behind = (behind, up)
    go [] (suc i) up before behind = (tt, tt)
    go (x ∷ bs) (suc i) up before behind =
        (all_insert (λ y. dot_cmp (key x) (key y) ≡ Less) bs i c up.0 before.0, go bs i up.1 before.1 behind)

-- a part of the blocks

module _ (p : Block → Bool) where
  all_some : (P : Block → Type 0) (bs : List Block) → AllByRecursion P bs → AllByRecursion P (filter p bs)
  all_some P bs h = all_filter P p bs h

  rising_filter : (bs : List Block) → RisingBlocks bs → RisingBlocks (filter p bs)
  rising_filter [] up = tt
  rising_filter (b ∷ bs) up =
      elim (p b) as (λ t. RisingBlocks (cond t (b ∷ filter p bs) (filter p bs))) [
        | true ↦ (all_some (λ c. dot_cmp (key b) (key c) ≡ Less) bs up.0, rising_filter bs up.1)
        | false ↦ rising_filter bs up.1
      ]

  pub are_filter : (bs : List Block) → AreBlocks bs → AreBlocks (filter p bs)
  are_filter bs are = record {
    rises = rising_filter bs are.rises;
    within = all_some IsWithin bs are.within;
    filled = all_some IsFilled bs are.filled;
  }

  pub fewer : (bs : List Block) → length (joined (filter p bs)) ≤ length (joined bs)
  fewer [] = omega arith
  fewer (b ∷ bs) =
      let rest = fewer bs in
      let one = length-append (fin.entries b.map) (joined (filter p bs)) in
      let all = length-append (fin.entries b.map) (joined bs) in
      elim (p b) as (λ t. length (joined (cond t (b ∷ filter p bs) (filter p bs))) ≤ length (fin.entries b.map ++ joined bs)) [
        | true ↦ omega (arith, rest, one, all)
        | false ↦ omega (arith, rest, all)
      ]

pub len_set : (bs : List Block) → AreBlocks bs → fin.len (set_map bs) ≡ length (joined bs)
len_set bs are = fin.len-entries (set_map bs) ∙ ap length (entries_set bs are)

in_found : (n b : ℕ) (q : Dot) (v : Presence) (ps : List (Dot × Presence)) → AllByRecursion (λ (p : Dot × Presence). IsIn n b p.0) ps →
    find dot_cmp q ps ≡ Some v → IsIn n b q
in_found n b q v [] h at = absurd (cc)
in_found n b q v (p ∷ ps) h at = go (is_dot q p.0) refl (in_found n b q v ps h.1) at
  where
    go : (t : Bool) → is_dot q p.0 ≡ t → (find dot_cmp q ps ≡ Some v → IsIn n b q) → cond t (Some p.1) (find dot_cmp q ps) ≡ Some v → IsIn n b q
    go true is again at = subst (IsIn n b) (sym (is_dot-true q p.0 is)) h.0
    go false is again at = again at

-- what a block has of a dot is of its name
pub get_in : (b : Block) (q : Dot) (v : Presence) → IsWithin b → fin.get b.map q ≡ Some v → IsIn b.name b.base q
get_in b q v h at = in_found b.name b.base q v (fin.entries b.map) h (sym (fin.get-entries b.map q) ∙ at)

module _ (named : ℕ → Bool) (q : Dot) where
  abbrev nothing : Option Presence
  nothing = None

  kept_name : (b : Block) (o rest : Option Presence) → ((v : Presence) → o ≡ Some v → q.name ≡ b.name) → (t : Bool) → named b.name ≡ t →
      (r : Bool) → named q.name ≡ r →
      cond t (first_of o (cond r rest nothing)) (cond r rest nothing) ≡ cond r (first_of o rest) nothing
  kept_name b None rest h true e true f = refl
  kept_name b None rest h true e false f = refl
  kept_name b None rest h false e true f = refl
  kept_name b None rest h false e false f = refl
  kept_name b (Some v) rest h true e true f = refl
  kept_name b (Some v) rest h true e false f = let same = ap named (h v refl) in absurd (cc)
  kept_name b (Some v) rest h false e true f = let same = ap named (h v refl) in absurd (cc)
  kept_name b (Some v) rest h false e false f = refl

  find_named : (bs : List Block) → AllByRecursion IsWithin bs →
      find dot_cmp q (joined (filter (λ (b : Block). named b.name) bs)) ≡ cond (named q.name) (find dot_cmp q (joined bs)) None
  find_named [] h = elim (named q.name) as (λ t. nothing ≡ cond t nothing nothing) [ true ↦ refl | false ↦ refl ]
  find_named (b ∷ bs) h =
      split (named b.name)
      ∙ ap (λ o. cond (named b.name) (first_of (fin.get b.map q) o) o) (find_named bs h.1)
      ∙ kept_name b (fin.get b.map q) (find dot_cmp q (joined bs)) (λ v at. (get_in b q v h.0 at).name) (named b.name) refl (named q.name) refl
      ∙ ap (λ o. cond (named q.name) o nothing) (sym (found_first q b bs))
    where
      split : (t : Bool) → find dot_cmp q (joined (cond t (b ∷ filter (λ (b : Block). named b.name) bs) (filter (λ (b : Block). named b.name) bs)))
          ≡ cond t (first_of (fin.get b.map q) (find dot_cmp q (joined (filter (λ (b : Block). named b.name) bs))))
          (find dot_cmp q (joined (filter (λ (b : Block). named b.name) bs)))
      split true = found_first q b (filter (λ (b : Block). named b.name) bs)
      split false = refl

pub named_map : (named : ℕ → Bool) (bs : List Block) → AreBlocks bs →
    set_map (filter (λ (b : Block). named b.name) bs) ≡ entries_of_names named (set_map bs)
named_map named bs are =
    fin.same_map dot_total dot_exact _ _ (λ q.
    get_set (filter (λ (b : Block). named b.name) bs) q (are_filter (λ (b : Block). named b.name) bs are)
    ∙ find_named named q bs are.within
    ∙ ap (λ o. cond (named q.name) o None) (sym (get_set bs q are))
    ∙ sym (fin.get-retain_keys (set_map bs) (λ d. named d.name) q (same_of_tied (λ d. named d.name) q)))

-- one block more
pub joined_more : (bs : List Block) (i : ℕ) (b : Block) → i < length bs → b ≡ get_or bs i b → joined (take (i + 1) bs) ≡ joined (take i bs) ++ fin.entries b.map
joined_more bs i b within read =
    ap joined (take_more bs i b within ∙ ap (λ c. take i bs ++ c ∷ []) (sym read)) ∙ joined_append (take i bs) (b ∷ [])
    ∙ ap (λ ps. joined (take i bs) ++ ps) (append-nil (fin.entries b.map))
  where
    joined_append : (xs ys : List Block) → joined (xs ++ ys) ≡ joined xs ++ joined ys
    joined_append [] ys = refl
    joined_append (x ∷ xs) ys =
        ap (λ ps. fin.entries x.map ++ ps) (joined_append xs ys) ∙ sym (append_assoc (fin.entries x.map) (joined xs) (joined ys))

pub joined_within : (bs : List Block) (i : ℕ) → length (joined (take i bs)) ≤ length (joined bs)
joined_within [] zero = omega arith
joined_within [] (suc i) = omega arith
joined_within (b ∷ bs) zero = omega arith
joined_within (b ∷ bs) (suc i) =
    let rest = joined_within bs i in
    let one = length-append (fin.entries b.map) (joined (take i bs)) in
    let all = length-append (fin.entries b.map) (joined bs) in
    omega (arith, rest, one, all)
