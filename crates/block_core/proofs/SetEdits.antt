-- Edits of one block, as edits of the whole map.
use Rattle.std.proofs.Common.{◌≡◌, ◌≢◌, ◌⊎◌, inl, inr, ℕ, zero, suc, ◌+◌, ◌<◌, ◌≤◌, Bool, true, false, T, List, [], ◌∷◌, length, take, drop, get_or, insert, remove, slice_get, slice_set, Option}
use Rattle.std.proofs.Common.{Some, None, is_some, Ordering, Less, Equal, Greater, refl, sym, ap, subst, ◌∙◌, arith, take_all}
use Rattle.std.specs.List.{AllByRecursion}
use Rattle.std.specs.Ordering.{is_lt}
use Rattle.std.specs.Option.{option_map}
use Rattle.std.specs.FinMap as fin
use Rattle.std.specs.FinMap.Entries.{find}
use Rattle.dots_core.specs.declared.dot.Dot.{Dot}
use Rattle.dots_core.specs.Dots.{dot_cmp}
use Rattle.dots_core.proofs.Order.{dot_cases, dot_exact, dot_total, is_dot, is_dot_other, less}
use Rattle.entry_core.specs.Presences.{Presence, Entries, Entry, entry_of}
use Rattle.entry_core.proofs.EntryLists.{turned}
use Rattle.block_core.specs.Blocks.{Block}
use Rattle.block_core.specs.Sets.{key, block_key, RisingBlocks, IsWithin, joined, set_map, IsGap, is_before}
use Rattle.block_core.proofs.LiveMaps.{all_insert, len_removed}
use Rattle.block_core.proofs.SetMaps.{all_set, find_at, find_gap, find_insert, find_set, rising_insert, rising_set, sorted_joined}

-- reading lists

module _ {X : Type 0} where
  pub read_is : (xs : List X) (i : ℕ) (p x : X) → slice_get xs i ≡ Some p → x ≡ get_or xs i x → x ≡ p
  read_is [] i p x at read = absurd (cc)
  read_is (y ∷ xs) zero p x at read = let same : y ≡ p = cc in read ∙ same
  read_is (y ∷ xs) (suc i) p x at read = read_is xs i p x at read

  pub at_read : (xs : List X) (i : ℕ) (x : X) → i < length xs → x ≡ get_or xs i x → slice_get xs i ≡ Some x
  at_read [] i x within read = absurd (omega (arith, within))
  at_read (y ∷ xs) zero x within read = ap Some (sym read)
  at_read (y ∷ xs) (suc i) x within read = at_read xs i x (omega (arith, within)) read

  pub get_here : (xs : List X) (i : ℕ) (x : X) → slice_get xs i ≡ Some x → i < length xs
  get_here [] i x at = absurd (cc)
  get_here (y ∷ xs) zero x at = omega arith
  get_here (y ∷ xs) (suc i) x at = let more = get_here xs i x at in omega (arith, more)

  pub get_read : (xs : List X) (i : ℕ) (x : X) → slice_get xs i ≡ Some x → get_or xs i x ≡ x
  get_read [] i x at = absurd (cc)
  get_read (y ∷ xs) zero x at = cc
  get_read (y ∷ xs) (suc i) x at = get_read xs i x at

  pub set_read : (xs : List X) (i : ℕ) (x : X) → x ≡ get_or xs i x → slice_set xs i x ≡ xs
  set_read [] i x read = refl
  set_read (y ∷ xs) zero x read = ap (λ z. z ∷ xs) read
  set_read (y ∷ xs) (suc i) x read = ap (λ ys. y ∷ ys) (set_read xs i x read)

  pub get_set_at : (xs : List X) (i : ℕ) (x y : X) → slice_get xs i ≡ Some x → slice_get (slice_set xs i y) i ≡ Some y
  get_set_at [] i x y at = absurd (cc)
  get_set_at (z ∷ xs) zero x y at = refl
  get_set_at (z ∷ xs) (suc i) x y at = get_set_at xs i x y at

  pub get_insert_at : (xs : List X) (i : ℕ) (y : X) → i ≤ length xs → slice_get (insert xs i y) i ≡ Some y
  get_insert_at xs zero y within = refl
  get_insert_at [] (suc i) y within = absurd (omega (arith, within))
  get_insert_at (x ∷ xs) (suc i) y within = get_insert_at xs i y (omega (arith, within))

  pub remove_set : (xs : List X) (i : ℕ) (y : X) → remove (slice_set xs i y) i ≡ remove xs i
  remove_set [] zero y = refl
  remove_set [] (suc i) y = refl
  remove_set (x ∷ xs) zero y = refl
  remove_set (x ∷ xs) (suc i) y = ap (λ ys. x ∷ ys) (remove_set xs i y)

  pub all_with : (P : X → Type 0) (xs : List X) (i : ℕ) (x : X) → AllByRecursion P (remove xs i) → slice_get xs i ≡ Some x → P x → AllByRecursion P xs
  all_with P [] i x h at here = tt
  all_with P (y ∷ xs) zero x h at here = let same : x ≡ y = cc in (subst P same here, h)
  all_with P (y ∷ xs) (suc i) x h at here = (h.0, all_with P xs i x h.1 at here)

-- what the map has, by the blocks

pub get_of : (bs : List Block) (q : Dot) → RisingBlocks bs → AllByRecursion IsWithin bs → fin.get (set_map bs) q ≡ find dot_cmp q (joined bs)
get_of bs q up h = fin.get-from_sorted dot_cmp (joined bs) q (sorted_joined bs up h)

pub get_at : (bs : List Block) (i : ℕ) (b : Block) (q : Dot) → RisingBlocks bs → AllByRecursion IsWithin bs → slice_get bs i ≡ Some b →
    key b ≡ block_key q → fin.get (set_map bs) q ≡ fin.get b.map q
get_at bs i b q up h at is = get_of bs q up h ∙ find_at q bs i b up h at is

pub get_gap : (bs : List Block) (i : ℕ) (q : Dot) → RisingBlocks bs → AllByRecursion IsWithin bs → IsGap (block_key q) bs i →
    fin.get (set_map bs) q ≡ None
get_gap bs i q up h gap = get_of bs q up h ∙ find_gap q bs i h gap

-- an edit of one dot

module _ (d : Dot) (f : Entries → Entries) (r : Bool → Option Presence → Option Presence)
    (law : (m : Entries) (q : Dot) → fin.get (f m) q ≡ r (is_dot q d) (fin.get m q)) (rest : (o : Option Presence) → r false o ≡ o) where
  unchanged : (m : Entries) (q : Dot) → block_key d ≢ block_key q → fin.get (f m) q ≡ fin.get m q
  unchanged m q other =
      law m q ∙ ap (λ t. r t (fin.get m q)) (is_dot_other q d (λ same. other (ap block_key (sym same)))) ∙ rest (fin.get m q)

  pub edited_at : (bs : List Block) (i : ℕ) (b c : Block) → RisingBlocks bs → AllByRecursion IsWithin bs → slice_get bs i ≡ Some b →
      key b ≡ block_key d → key c ≡ key b → IsWithin c → c.map ≡ f b.map → set_map (slice_set bs i c) ≡ f (set_map bs)
  edited_at bs i b c up h at is kept within map =
      fin.same_map dot_total dot_exact _ _ (λ q. get_of (slice_set bs i c) q after inside ∙ go q (dot_cases (block_key d) (block_key q)))
    where
      after : RisingBlocks (slice_set bs i c)
      after = rising_set bs i b c at kept up

      inside : AllByRecursion IsWithin (slice_set bs i c)
      inside = all_set IsWithin bs i c h within

      go : (q : Dot) → (block_key d ≡ block_key q) ⊎ (block_key d ≢ block_key q) →
          find dot_cmp q (joined (slice_set bs i c)) ≡ fin.get (f (set_map bs)) q
      go q (inl same) =
          find_at q (slice_set bs i c) i c after inside (get_set_at bs i b c at) (kept ∙ is ∙ same)
          ∙ ap (λ m. fin.get m q) map ∙ law b.map q
          ∙ ap (r (is_dot q d)) (sym (get_at bs i b q up h at (is ∙ same))) ∙ sym (law (set_map bs) q)
      go q (inr other) =
          find_set q bs i b c at h within (λ same. other (sym is ∙ same)) (λ same. other (sym (kept ∙ is) ∙ same))
          ∙ sym (get_of bs q up h) ∙ sym (unchanged (set_map bs) q other)

  pub edited_new : (bs : List Block) (i : ℕ) (c : Block) → RisingBlocks bs → AllByRecursion IsWithin bs → IsGap (block_key d) bs i →
      key c ≡ block_key d → IsWithin c → c.map ≡ f fin.empty → set_map (insert bs i c) ≡ f (set_map bs)
  edited_new bs i c up h gap is within map =
      fin.same_map dot_total dot_exact _ _ (λ q. get_of (insert bs i c) q after inside ∙ go q (dot_cases (block_key d) (block_key q)))
    where
      after : RisingBlocks (insert bs i c)
      after = rising_insert bs i c up (subst (λ k. IsGap k bs i) (sym is) gap)

      inside : AllByRecursion IsWithin (insert bs i c)
      inside = all_insert IsWithin bs i c h within

      go : (q : Dot) → (block_key d ≡ block_key q) ⊎ (block_key d ≢ block_key q) →
          find dot_cmp q (joined (insert bs i c)) ≡ fin.get (f (set_map bs)) q
      go q (inl same) =
          find_at q (insert bs i c) i c after inside (get_insert_at bs i c gap.inside) (is ∙ same)
          ∙ ap (λ m. fin.get m q) map ∙ law fin.empty q
          ∙ ap (r (is_dot q d)) (fin.get-empty dot_cmp q ∙ sym (get_gap bs i q up h (subst (λ k. IsGap k bs i) same gap)))
          ∙ sym (law (set_map bs) q)
      go q (inr other) =
          find_insert q bs i c within (λ same. other (sym is ∙ same)) ∙ sym (get_of bs q up h) ∙ sym (unchanged (set_map bs) q other)

-- where a search ends

rising_drop : (i : ℕ) (bs : List Block) → RisingBlocks bs → RisingBlocks (drop i bs)
rising_drop zero bs up = up
rising_drop (suc i) [] up = tt
rising_drop (suc i) (b ∷ bs) up = rising_drop i bs up.1

all_above : (k : Dot) (b : Block) (bs : List Block) → dot_cmp k (key b) ≡ Less → AllByRecursion (λ c. dot_cmp (key b) (key c) ≡ Less) bs →
    AllByRecursion (λ c. dot_cmp k (key c) ≡ Less) bs
all_above k b [] low h = tt
all_above k b (c ∷ bs) low h = (dot_total.trans k (key b) (key c) low h.0, all_above k b bs low h.1)

above : (k : Dot) (bs : List Block) → RisingBlocks bs → ((b : Block) → slice_get bs 0 ≡ Some b → dot_cmp k (key b) ≡ Less) →
    AllByRecursion (λ c. dot_cmp k (key c) ≡ Less) bs
above k [] up first = tt
above k (b ∷ bs) up first = (first b refl, all_above k b bs (first b refl) up.0)

get_drop : {X : Type 0} (i : ℕ) (xs : List X) (x : X) → slice_get (drop i xs) 0 ≡ Some x → slice_get xs i ≡ Some x
get_drop zero xs x at = at
get_drop (suc i) [] x at = at
get_drop (suc i) (y ∷ xs) x at = get_drop i xs x at

not_before : (k a : Dot) (o : Ordering) → dot_cmp a k ≡ o → is_lt o ≡ false → a ≢ k → dot_cmp k a ≡ Less
not_before k a Less at low other = absurd (cc)
not_before k a Equal at low other = absurd (other (dot_exact a k at))
not_before k a Greater at low other = turned a k Greater at

pub gap_at : (k : Dot) (bs : List Block) (i : ℕ) → RisingBlocks bs → i ≤ length bs →
    AllByRecursion (λ b. dot_cmp (key b) k ≡ Less) (take i bs) →
    ((b : Block) → slice_get bs i ≡ Some b → is_before k b ≡ false) → ((b : Block) → slice_get bs i ≡ Some b → key b ≢ k) → IsGap k bs i
gap_at k bs i up within before low other = record {
  inside = within;
  before = before;
  behind =
      above k (drop i bs) (rising_drop i bs up)
      (λ b at. not_before k (key b) (dot_cmp (key b) k) refl (low b (get_drop i bs b at)) (other b (get_drop i bs b at)));
}

-- the blocks before one rise to it

pub before_partition : (k : Dot) (bs : List Block) → RisingBlocks bs → (i j : ℕ) (x : Block) → i ≤ j → j < length bs →
    is_before k (get_or bs j x) ≡ true → is_before k (get_or bs i x) ≡ true
before_partition k [] up i j x le within is = absurd (omega (arith, within))
before_partition k (b ∷ bs) up zero zero x le within is = is
before_partition k (b ∷ bs) up zero (suc j) x le within is =
    let low = less_at bs j up.0 (omega (arith, within)) in
    ap is_lt (dot_total.trans (key b) (key (get_or bs j x)) k low (less (dot_cmp (key (get_or bs j x)) k) (subst T (sym is) tt)))
  where
    less_at : (bs : List Block) (j : ℕ) → AllByRecursion (λ c. dot_cmp (key b) (key c) ≡ Less) bs → j < length bs →
        dot_cmp (key b) (key (get_or bs j x)) ≡ Less
    less_at [] j h within = absurd (omega (arith, within))
    less_at (c ∷ bs) zero h within = h.0
    less_at (c ∷ bs) (suc j) h within = less_at bs j h.1 (omega (arith, within))
before_partition k (b ∷ bs) up (suc i) zero x le within is = absurd (omega (arith, le))
before_partition k (b ∷ bs) up (suc i) (suc j) x le within is = before_partition k bs up.1 i j x (omega (arith, le)) (omega (arith, within)) is

pub all_before : (k : Dot) (bs : List Block) (i : ℕ) → i ≤ length bs → ((j : ℕ) (x : Block) → j < i → is_before k (get_or bs j x) ≡ true) →
    AllByRecursion (λ b. dot_cmp (key b) k ≡ Less) (take i bs)
all_before k bs zero within low = tt
all_before k [] (suc i) within low = absurd (omega (arith, within))
all_before k (b ∷ bs) (suc i) within low = (
  less (dot_cmp (key b) k) (subst T (sym (low 0 b (omega arith))) tt),
  all_before k bs i (omega (arith, within)) (λ j x h. low (suc j) x (omega (arith, h))),
)

-- what an entry that was taken out says of the map

pub held_of : (m : Entries) (d : Dot) (e : Entry) → option_map (entry_of d) (fin.get m d) ≡ Some e → fin.len (fin.remove m d) + 1 ≡ fin.len m
held_of m d e is = go (fin.get m d) refl is
  where
    go : (o : Option Presence) → fin.get m d ≡ o → option_map (entry_of d) o ≡ Some e → fin.len (fin.remove m d) + 1 ≡ fin.len m
    go None at is = absurd (cc)
    go (Some p) at is = len_removed m d p at

pub missing_of : (m : Entries) (d : Dot) → option_map (entry_of d) (fin.get m d) ≡ None → fin.get m d ≡ None
missing_of m d is = go (fin.get m d) is
  where
    go : (o : Option Presence) → option_map (entry_of d) o ≡ None → o ≡ None
    go None is = refl
    go (Some p) is = absurd (cc)

-- behind the last block

last_below : (k : Dot) (bs : List Block) (i : ℕ) (l : Block) → RisingBlocks bs → suc i ≡ length bs → slice_get bs i ≡ Some l →
    dot_cmp (key l) k ≡ Less → AllByRecursion (λ b. dot_cmp (key b) k ≡ Less) bs
last_below k [] i l up end at low = tt
last_below k (b ∷ []) zero l up end at low = let same : b ≡ l = cc in (ap (λ (c : Block). dot_cmp (key c) k) same ∙ low, tt)
last_below k (b ∷ c ∷ bs) zero l up end at low = absurd (omega (arith, end))
last_below k (b ∷ []) (suc i) l up end at low = absurd (cc)
last_below k (b ∷ c ∷ bs) (suc i) l up end at low =
    let rest = last_below k (c ∷ bs) i l up.1 (omega (arith, end)) at low in
    (dot_total.trans (key b) (key c) k up.0.0 rest.0, rest)

pub gap_end : (k : Dot) (bs : List Block) (i : ℕ) (l : Block) → RisingBlocks bs → suc i ≡ length bs → slice_get bs i ≡ Some l →
    is_before k l ≡ true → IsGap k bs (length bs)
gap_end k bs i l up end at low = record {
  inside = omega arith;
  before =
      subst (AllByRecursion (λ b. dot_cmp (key b) k ≡ Less)) (sym (take_all (length bs) bs (omega arith)))
      (last_below k bs i l up end at (less (dot_cmp (key l) k) (subst T (sym low) tt)));
  behind = subst (AllByRecursion (λ b. dot_cmp k (key b) ≡ Less)) (sym (drop_all bs)) tt;
}
  where
    drop_all : (bs : List Block) → drop (length bs) bs ≡ []
    drop_all [] = refl
    drop_all (b ∷ bs) = drop_all bs

pub held_is : (m : Entries) (d : Dot) → is_some (fin.get m d) ≡ true → fin.len (fin.remove m d) + 1 ≡ fin.len m
held_is m d is = go (fin.get m d) refl is
  where
    go : (o : Option Presence) → fin.get m d ≡ o → is_some o ≡ true → fin.len (fin.remove m d) + 1 ≡ fin.len m
    go None at is = absurd (cc)
    go (Some p) at is = len_removed m d p at

pub missing_is : (m : Entries) (d : Dot) → is_some (fin.get m d) ≡ false → fin.get m d ≡ None
missing_is m d is = go (fin.get m d) is
  where
    go : (o : Option Presence) → is_some o ≡ false → o ≡ None
    go None is = refl
    go (Some p) is = absurd (cc)
