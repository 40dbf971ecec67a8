-- The live ones of the entries of a block: what edits of the mask and of the list are for the map.
use Rattle.std.proofs.Common.{◌≡◌, ◌≢◌, ◌⊎◌, inl, inr, ◌==◌, ℕ, zero, suc, ◌+◌, ◌-◌, ◌/◌, ◌%◌, ◌<◌, ◌≤◌, Bool, true, false, cond, T, List, [], ◌∷◌, length, filter, insert, remove, slice_get, slice_set, Option}
use Rattle.std.proofs.Common.{Some, None, is_some, Result, Ok, Err, Ordering, Less, Equal, Greater, refl, sym, ap, subst, ◌∙◌, arith}
use Rattle.std.proofs.Math.Facts.{and_yes}
use Rattle.std.proofs.lemmas.List.Edits.{length-insert}
use Rattle.std.specs.List.{AllByRecursion}
use Rattle.std.proofs.lemmas.Nat.Bits.{bit_at-zero}
use Rattle.std.specs.Result.{IsErr, OnOk}
use Rattle.std.specs.Option.{option_map}
use Rattle.std.specs.Ordering.{is_lt}
use Rattle.std.specs.FinMap as fin
use Rattle.std.specs.FinMap.Entries.{by_order, find, below_all, is_sorted}
use Rattle.dots_core.specs.declared.dot.Dot.{Dot}
use Rattle.dots_core.specs.Dots.{IsBelow, dot_cmp}
use Rattle.dots_core.proofs.Order.{dot_total, dot_exact, same_of_tied, is_dot, is_dot-true, is_dot_same, less}
use Rattle.entry_core.specs.Presences.{Presence, Entry, Entries, presence_of, entry_of}
use Rattle.entry_core.specs.EntryLists.{Rises, entries_of, one_later, pairs, spot}
use Rattle.entry_core.proofs.EntryLists.{get-entries_of, len-entries_of, found_at, missing_at, at_less, at_greater, later_ok, Rises-filter, Rises-insert, Rises-remove, entries_of-insert, entries_of-filter, entries_of-remove, present}
use Rattle.block_core.proofs.PlacesFrom.{below_less}
use Rattle.entry_core.specs.Masks.{has_bit, is_live, IsElsewhere, IsWith, IsWithout}
use Rattle.block_core.specs.Blocks.{IsIn, AreIn, AreNear, IsMaskOf, IsPutIn, live_map}
use Rattle.entry_core.specs.Lists.{live_ones}

-- elements of an edited list

module _ {X : Type 0} (P : X → Type 0) where
  pub all_insert : (xs : List X) (i : ℕ) (y : X) → AllByRecursion P xs → P y → AllByRecursion P (insert xs i y)
  all_insert [] zero y h here = (here, tt)
  all_insert [] (suc i) y h here = (here, tt)
  all_insert (x ∷ xs) zero y h here = (here, h)
  all_insert (x ∷ xs) (suc i) y h here = (h.0, all_insert xs i y h.1 here)

  pub all_remove : (xs : List X) (i : ℕ) → AllByRecursion P xs → AllByRecursion P (remove xs i)
  all_remove [] zero h = tt
  all_remove [] (suc i) h = tt
  all_remove (x ∷ xs) zero h = h.1
  all_remove (x ∷ xs) (suc i) h = (h.0, all_remove xs i h.1)

  pub all_filter : (p : X → Bool) (xs : List X) → AllByRecursion P xs → AllByRecursion P (filter p xs)
  all_filter p [] h = tt
  all_filter p (x ∷ xs) h =
      elim (p x) as (λ b. AllByRecursion P (cond b (x ∷ filter p xs) (filter p xs))) [
        | true ↦ (h.0, all_filter p xs h.1)
        | false ↦ all_filter p xs h.1
      ]

pub on_ok : {X E P Q : Type 0} (r : Result X E) → (P → Q) → OnOk r P → OnOk r Q
on_ok (Ok x) f h = f h
on_ok (Err e) f h = h

-- a dot that the map doesn't have isn't found
new-is : (es : List Entry) (d : Dot) → Rises es → fin.get (entries_of es) d ≡ None → IsErr (spot d es)
new-is es d h none = go (spot d es) refl
  where
    go : (r : Result ℕ ℕ) → spot d es ≡ r → IsErr r
    go (Ok i) at = absurd (present d es h i at none)
    go (Err i) at = refl

-- a block's dots

pub same_dot : (n b : ℕ) (d q : Dot) → IsIn n b d → IsIn n b q → d.clock % 64 ≡ q.clock % 64 → is_dot q d ≡ false → ⊥
same_dot n b d q h k same other =
    let clock : q.clock ≡ d.clock = (let one = h.base in let two = k.base in omega (arith, one, two, same)) in
    let name : q.name ≡ d.name = k.name ∙ sym h.name in
    let one : q ≡ d = ap (λ (m : ℕ). record { name = m; clock = q.clock }) name ∙ ap (λ (m : ℕ). record { name = d.name; clock = m }) clock in
    absurd (true_is (is_dot q d) (ap (λ x. is_dot x d) one ∙ itself d) other)
  where
    itself : (d : Dot) → is_dot d d ≡ true
    itself d = is_dot_same d

    true_is : (t : Bool) → t ≡ true → t ≡ false → ⊥
    true_is true e f = absurd (cc)
    true_is false e f = absurd (cc)

-- what is found is of the block
pub found_in : (n b : ℕ) (es : List Entry) (q : Dot) (p : Presence) → AreIn n b es → find dot_cmp q (pairs es) ≡ Some p → IsIn n b q
found_in n b [] q p h e = absurd (cc)
found_in n b (x ∷ es) q p h e = go (is_dot q x.dot) refl (found_in n b es q p h.1) e
  where
    go : (t : Bool) → is_dot q x.dot ≡ t → (find dot_cmp q (pairs es) ≡ Some p → IsIn n b q) →
        cond t (Some (presence_of x)) (find dot_cmp q (pairs es)) ≡ Some p → IsIn n b q
    go true at again e = subst (IsIn n b) (sym (is_dot-true q x.dot at)) h.0
    go false at again e = again e

abbrev nothing : Option Presence
nothing = None

cond_none : (b : Bool) → cond b nothing nothing ≡ nothing
cond_none true = refl
cond_none false = refl

-- the map of the live ones

module _ (live : ℕ) (es : List Entry) (q : Dot) (up : Rises es) where
  pub get_live : fin.get (live_map live es) q ≡ cond (is_live live q) (find dot_cmp q (pairs es)) None
  get_live =
      fin.get-retain_keys (entries_of es) (is_live live) q (same_of_tied (is_live live) q)
      ∙ ap (λ o. cond (is_live live q) o None) (get-entries_of es q up)

  pub get_dead : is_live live q ≡ false → fin.get (live_map live es) q ≡ None
  get_dead dead = get_live ∙ ap (λ b. cond b (find dot_cmp q (pairs es)) None) dead

  pub got : (i : ℕ) → spot q es ≡ Ok i → is_live live q ≡ true → option_map (entry_of q) (fin.get (live_map live es) q) ≡ slice_get es i
  got i at on =
      ap (option_map (entry_of q)) (get_live ∙ ap (λ b. cond b (find dot_cmp q (pairs es)) None) on) ∙ (found_at q es i at).1

  pub missed : (i : ℕ) → spot q es ≡ Err i → fin.get (live_map live es) q ≡ None
  missed i at = get_live ∙ ap (λ o. cond (is_live live q) o None) (missing_at q es i up at).1 ∙ cond_none (is_live live q)

-- what is found once an entry left the list
find_removed : (d q : Dot) (es : List Entry) (i : ℕ) → Rises es → spot d es ≡ Ok i →
    find dot_cmp q (pairs (remove es i)) ≡ cond (is_dot q d) None (find dot_cmp q (pairs es))
find_removed d q es i up here =
    sym (get-entries_of (remove es i) q (Rises-remove es i up))
    ∙ ap (λ m. fin.get m q) (entries_of-remove d es i here up)
    ∙ fin.get-remove dot_total (entries_of es) d q
    ∙ ap (cond (is_dot q d) None) (get-entries_of es q up)

-- edits at a dot of the block: elsewhere nothing changes
module _ (d : Dot) (live after : ℕ) (es : List Entry) (near : AreNear d es) (others : IsElsewhere after live d.clock) where
  elsewhere : (q : Dot) → is_dot q d ≡ false →
      cond (is_live after q) (find dot_cmp q (pairs es)) None ≡ cond (is_live live q) (find dot_cmp q (pairs es)) None
  elsewhere q other = go (find dot_cmp q (pairs es)) refl
    where
      go : (o : Option Presence) → find dot_cmp q (pairs es) ≡ o → cond (is_live after q) o None ≡ cond (is_live live q) o None
      go None at = cond_none (is_live after q) ∙ sym (cond_none (is_live live q))
      go (Some p) at =
          let here : IsIn d.name (d.clock / 64) q = found_in d.name (d.clock / 64) es q p near at in
          let apart : q.clock % 64 ≢ d.clock % 64 = λ same.
          same_dot d.name (d.clock / 64) d q (record { name = refl; base = refl }) here (sym same) other in
          ap (λ b. cond b (Some p) None) (others (q.clock % 64) (omega arith) apart)

  module _ (up : Rises es) (cleared : is_live after d ≡ false) where
    without_at : (q : Dot) (t : Bool) → is_dot q d ≡ t →
        cond (is_live after q) (find dot_cmp q (pairs es)) None ≡ cond t None (cond (is_live live q) (find dot_cmp q (pairs es)) None)
    without_at q true at =
        ap (λ b. cond b (find dot_cmp q (pairs es)) None) (ap (is_live after) (is_dot-true q d at) ∙ cleared)
    without_at q false at = elsewhere q at

    -- the entry stays in the list
    pub removed_live : live_map after es ≡ fin.remove (live_map live es) d
    removed_live =
        fin.same_map dot_total dot_exact _ _ (λ q.
        get_live after es q up ∙ without_at q (is_dot q d) refl
        ∙ ap (cond (is_dot q d) None) (sym (get_live live es q up)) ∙ sym (fin.get-remove dot_total (live_map live es) d q))

    gone_at : (q : Dot) (t : Bool) → is_dot q d ≡ t →
        cond (is_live after q) (cond t None (find dot_cmp q (pairs es))) None ≡
        cond t None (cond (is_live live q) (find dot_cmp q (pairs es)) None)
    gone_at q true at = cond_none (is_live after q)
    gone_at q false at = elsewhere q at

    -- the entry leaves the list
    pub removed_out : (i : ℕ) → spot d es ≡ Ok i → live_map after (remove es i) ≡ fin.remove (live_map live es) d
    removed_out i here =
        fin.same_map dot_total dot_exact _ _ (λ q.
        get_live after (remove es i) q (Rises-remove es i up)
        ∙ ap (λ o. cond (is_live after q) o None) (find_removed d q es i up here)
        ∙ gone_at q (is_dot q d) refl
        ∙ ap (cond (is_dot q d) None) (sym (get_live live es q up)) ∙ sym (fin.get-remove dot_total (live_map live es) d q))

-- an entry comes
module _ (e : Entry) (live after : ℕ) (es : List Entry) (near : AreNear e.dot es) (with : IsWith after live e.dot.clock) where
  come_at : (q : Dot) (t : Bool) → is_dot q e.dot ≡ t →
      cond (is_live after q) (cond t (Some (presence_of e)) (find dot_cmp q (pairs es))) None ≡
      cond t (Some (presence_of e)) (cond (is_live live q) (find dot_cmp q (pairs es)) None)
  come_at q true at =
      ap (λ b. cond b (Some (presence_of e)) None) (ap (is_live after) (is_dot-true q e.dot at) ∙ with.here)
  come_at q false at = elsewhere e.dot live after es near with.others q at

  pub inserted : (i : ℕ) → spot e.dot es ≡ Err i → Rises es →
      live_map after (insert es i e) ≡ fin.insert (live_map live es) e.dot (presence_of e)
  inserted i at up =
      fin.same_map dot_total dot_exact _ _ (λ q.
      get_live after (insert es i e) q (Rises-insert e es i at up)
      ∙ ap (λ o. cond (is_live after q) o None)
      (sym (get-entries_of (insert es i e) q (Rises-insert e es i at up))
      ∙ ap (λ m. fin.get m q) (entries_of-insert e es i at up)
      ∙ fin.get-insert dot_total (entries_of es) e.dot (presence_of e) q
      ∙ ap (cond (is_dot q e.dot) (Some (presence_of e))) (get-entries_of es q up))
      ∙ come_at q (is_dot q e.dot) refl
      ∙ ap (cond (is_dot q e.dot) (Some (presence_of e))) (sym (get_live live es q up))
      ∙ sym (fin.get-insert dot_total (live_map live es) e.dot (presence_of e) q))

-- those that aren't live make no difference

twice : (b : Bool) (o : Option Presence) → cond b (cond b o None) None ≡ cond b o None
twice true o = refl
twice false o = refl

some_at : (es : List Entry) (i : ℕ) → i < length es → slice_get es i ≡ None → ⊥
some_at [] i within e = absurd (omega (arith, within))
some_at (x ∷ es) zero within e = absurd (cc)
some_at (x ∷ es) (suc i) within e = some_at es i (omega (arith, within)) e

module _ (live : ℕ) (es : List Entry) (up : Rises es) where
  pub rises_live : Rises (live_ones live es)
  rises_live = Rises-filter (is_live live) es up

  pub only_live : live_map live (live_ones live es) ≡ live_map live es
  only_live =
      fin.same_map dot_total dot_exact _ _ (λ q.
      get_live live (live_ones live es) q rises_live
      ∙ ap (λ o. cond (is_live live q) o None)
      (sym (get-entries_of (live_ones live es) q rises_live)
      ∙ ap (λ m. fin.get m q) (entries_of-filter (is_live live) es up)
      ∙ get_live live es q up)
      ∙ twice (is_live live q) (find dot_cmp q (pairs es)) ∙ sym (get_live live es q up))

  dead_at : (d q : Dot) (t : Bool) → is_live live d ≡ false → is_dot q d ≡ t →
      cond (is_live live q) (cond t None (find dot_cmp q (pairs es))) None ≡ cond (is_live live q) (find dot_cmp q (pairs es)) None
  dead_at d q true dead at =
      let off : is_live live q ≡ false = ap (is_live live) (is_dot-true q d at) ∙ dead in
      cond_none (is_live live q) ∙ sym (ap (λ b. cond b (find dot_cmp q (pairs es)) None) off)
  dead_at d q false dead at = refl

  pub dropped : (d : Dot) (i : ℕ) → spot d es ≡ Ok i → is_live live d ≡ false → live_map live (remove es i) ≡ live_map live es
  dropped d i here dead =
      fin.same_map dot_total dot_exact _ _ (λ q.
      get_live live (remove es i) q (Rises-remove es i up)
      ∙ ap (λ o. cond (is_live live q) o None) (find_removed d q es i up here)
      ∙ dead_at d q (is_dot q d) dead refl ∙ sym (get_live live es q up))

  -- a dot that stands in the list and isn't in the map isn't live
  pub is_dead : (d : Dot) (i : ℕ) → spot d es ≡ Ok i → fin.get (live_map live es) d ≡ None → is_live live d ≡ false
  is_dead d i here none = go (is_live live d) refl
    where
      go : (b : Bool) → is_live live d ≡ b → b ≡ false
      go false at = refl
      go true at =
          absurd (some_at es i (found_at d es i here).0 (sym (got live es d up i here at) ∙ ap (option_map (entry_of d)) none))

  -- a dot that isn't in the map isn't among the live ones
  pub is_new : (d : Dot) → fin.get (live_map live es) d ≡ None → IsErr (spot d (live_ones live es))
  is_new d none =
      new-is (live_ones live es) d rises_live
      (ap (λ m. fin.get m d) (entries_of-filter (is_live live) es up) ∙ none)

-- a block has at most 64 entries

later : (n b : ℕ) (d q : Dot) → IsIn n b d → IsIn n b q → dot_cmp d q ≡ Less → d.clock % 64 < q.clock % 64
later n b d q h k less = go (below_less d q less)
  where
    one : d.clock / 64 ≡ b
    one = h.base

    two : q.clock / 64 ≡ b
    two = k.base

    same : d.name ≡ q.name
    same = h.name ∙ sym k.name

    go : IsBelow d q → d.clock % 64 < q.clock % 64
    go (inl up) = absurd (omega (arith, up, same))
    go (inr up) = let more = up.1 in omega (arith, more, one, two)

-- the clocks of all are from here on
abbrev AreFrom : ℕ → List Entry → Type 0
AreFrom c es = AllByRecursion (λ e. c ≤ e.dot.clock % 64) es

from_next : (n b : ℕ) (e : Entry) (es : List Entry) → IsIn n b e.dot → AreIn n b es → T (below_all dot_cmp e.dot (pairs es)) →
    AreFrom (suc (e.dot.clock % 64)) es
from_next n b e [] here h below = tt
from_next n b e (x ∷ es) here h below =
    let parts = and_yes (is_lt (dot_cmp e.dot x.dot)) (below_all dot_cmp e.dot (pairs es)) below in
    let up = later n b e.dot x.dot here h.0 (less (dot_cmp e.dot x.dot) parts.0) in
    (omega (arith, up), from_next n b e es here h.1 parts.1)

few_from : (n b c : ℕ) (es : List Entry) → c ≤ 64 → AreIn n b es → Rises es → AreFrom c es → length es + c ≤ 64
few_from n b c [] within h up from = omega (arith, within)
few_from n b c (e ∷ es) within h up from =
    let parts = and_yes (below_all dot_cmp e.dot (pairs es)) (is_sorted dot_cmp (pairs es)) up in
    let next = suc (e.dot.clock % 64) in
    let low : e.dot.clock % 64 < 64 = omega arith in
    let here = from.0 in
    let rest = few_from n b (suc (e.dot.clock % 64)) es (omega (arith, low)) h.1 parts.1 (from_next n b e es h.0 h.1 parts.0) in
    omega (arith, rest, here)

from_zero : (es : List Entry) → AreFrom 0 es
from_zero [] = tt
from_zero (e ∷ es) = (omega arith, from_zero es)

pub few : (n b : ℕ) (es : List Entry) → AreIn n b es → Rises es → length es ≤ 64
few n b es h up = let all = few_from n b 0 es (omega arith) h up (from_zero es) in omega (arith, all)

-- one that is missing finds room
pub few_without : (e : Entry) (es : List Entry) (i : ℕ) → AreNear e.dot es → Rises es → spot e.dot es ≡ Err i → length es < 64
few_without e es i h up at =
    let within = (missing_at e.dot es i up at).0 in
    let all = few e.dot.name (e.dot.clock / 64) (insert es i e)
    (all_insert (λ (x : Entry). IsIn e.dot.name (e.dot.clock / 64) x.dot) es i e h (record { name = refl; base = refl }))
    (Rises-insert e es i at up) in
    let long = length-insert es i e within in
    omega (arith, all, long)

-- an entry is put in

abbrev IsNear : Entry → Entry → Type 0
IsNear e x = IsIn e.dot.name (e.dot.clock / 64) x.dot

pub put_list : (live : ℕ) (e : Entry) (es : List Entry) (i : ℕ) → Rises es → AreNear e.dot es → spot e.dot es ≡ Err i →
    IsPutIn live e es (insert es i e)
put_list live e es i up near at = record {
  rises = Rises-insert e es i at up;
  near = all_insert (IsNear e) es i e near (record { name = refl; base = refl });
  map = λ after with. inserted e live after es near with i at up;
}

-- behind the live ones
pub put_live : (live : ℕ) (e : Entry) (es : List Entry) (i : ℕ) → Rises es → AreNear e.dot es → spot e.dot (live_ones live es) ≡ Err i →
    IsPutIn live e es (insert (live_ones live es) i e)
put_live live e es i up near at =
    let more = put_list live e (live_ones live es) i (rises_live live es up)
    (all_filter (IsNear e) (λ (x : Entry). is_live live x.dot) es near) at in record {
      rises = more.rises;
      near = more.near;
      map = λ after with. more.map after with ∙ ap (λ m. fin.insert m e.dot (presence_of e)) (only_live live es up);
    }

-- in place of one that isn't live
pub put_dropped : (live : ℕ) (e : Entry) (es new : List Entry) (i : ℕ) → Rises es → spot e.dot es ≡ Ok i →
    fin.get (live_map live es) e.dot ≡ None → IsPutIn live e (remove es i) new → IsPutIn live e es new
put_dropped live e es new i up here none put = record {
  rises = put.rises;
  near = put.near;
  map = λ after with.
      put.map after with
      ∙ ap (λ m. fin.insert m e.dot (presence_of e)) (dropped live es up e.dot i here (is_dead live es up e.dot i here none));
}

pub near_removed : (e : Entry) (es : List Entry) (i : ℕ) → AreNear e.dot es → AreNear e.dot (remove es i)
near_removed e es i near = all_remove (IsNear e) es i near

-- where an entry was, it would stand
pub spot_removed : (d : Dot) (es : List Entry) (i : ℕ) → Rises es → spot d es ≡ Ok i → spot d (remove es i) ≡ Err i
spot_removed d [] i up at = absurd (cc)
spot_removed d (x ∷ es) i up at = go (dot_cmp d x.dot) refl (λ j. spot_removed d es j (and_yes _ _ up).1) at
  where
    first : (es : List Entry) → T (below_all dot_cmp d (pairs es)) → spot d es ≡ Err 0
    first [] h = refl
    first (y ∷ es) h = at_less d y es (less (dot_cmp d y.dot) (and_yes (is_lt (dot_cmp d y.dot)) (below_all dot_cmp d (pairs es)) h).0)

    go : (o : Ordering) → dot_cmp d x.dot ≡ o → ((j : ℕ) → spot d es ≡ Ok j → spot d (remove es j) ≡ Err j) →
        by_order o (Err 0) (Ok 0) (one_later (spot d es)) ≡ Ok i → spot d (remove (x ∷ es) i) ≡ Err i
    go Less o again at = absurd (cc)
    go Equal o again at =
        let zeroth : 0 ≡ i = cc in
        let same : x.dot ≡ d = sym (dot_exact d x.dot o) in
        subst (λ k. spot d (remove (x ∷ es) k) ≡ Err k) zeroth
        (first es (subst (λ k. T (below_all dot_cmp k (pairs es))) same
        (and_yes (below_all dot_cmp x.dot (pairs es)) (is_sorted dot_cmp (pairs es)) up).0))
    go Greater o again at =
        let rest = later_ok (spot d es) i at in
        subst (λ k. spot d (remove (x ∷ es) k) ≡ Err k) (sym rest.2)
        (at_greater d x (remove es rest.0) o ∙ ap one_later (again rest.0 rest.1))

pub none_live : (live : ℕ) → live_map live [] ≡ fin.empty
none_live live = fin.same_map dot_total dot_exact _ _ (λ q. get_live live [] q tt ∙ cond_none (is_live live q) ∙ sym (fin.get-empty dot_cmp q))

pub near_of : (n b : ℕ) (d : Dot) (es : List Entry) → IsIn n b d → AreIn n b es → AreNear d es
near_of n b d es here within =
    subst (λ m. AreIn m (d.clock / 64) es) (sym here.name) (subst (λ m. AreIn n m es) (sym here.base) within)

-- an entry left the list, or stays in it

pub rest_sound : (n b : ℕ) (es new : List Entry) (i : ℕ) → Rises es → AreIn n b es → (new ≡ remove es i) ⊎ (new ≡ es) →
    Rises new × AreIn n b new
rest_sound n b es new i up within (inl gone) =
    (subst Rises (sym gone) (Rises-remove es i up), subst (AreIn n b) (sym gone) (all_remove (λ (x : Entry). IsIn n b x.dot) es i within))
rest_sound n b es new i up within (inr stays) = (subst Rises (sym stays) up, subst (AreIn n b) (sym stays) within)

pub rest_live : (d : Dot) (live after : ℕ) (es new : List Entry) (i : ℕ) → AreNear d es → IsWithout after live d.clock → Rises es →
    spot d es ≡ Ok i → (new ≡ remove es i) ⊎ (new ≡ es) → live_map after new ≡ fin.remove (live_map live es) d
rest_live d live after es new i near without up here (inl gone) =
    ap (live_map after) gone ∙ removed_out d live after es near without.others up without.here i here
rest_live d live after es new i near without up here (inr stays) =
    ap (live_map after) stays ∙ removed_live d live after es near without.others up without.here

-- how many are live

pub len_live : (live : ℕ) (es : List Entry) → Rises es → fin.len (live_map live es) ≡ length (live_ones live es)
len_live live es up =
    ap fin.len (sym (entries_of-filter (is_live live) es up)) ∙ len-entries_of (live_ones live es) (rises_live live es up)

pub few_live : (n b live : ℕ) (es : List Entry) → AreIn n b es → Rises es → fin.len (live_map live es) ≤ 64
few_live n b live es within up =
    let most = few n b (live_ones live es) (all_filter (λ (x : Entry). IsIn n b x.dot) (λ (x : Entry). is_live live x.dot) es within)
    (rises_live live es up) in
    let len = len_live live es up in
    omega (arith, most, len)

pub len_inserted : (m : Entries) (d : Dot) (p : Presence) → fin.get m d ≡ None → fin.len (fin.insert m d p) ≡ fin.len m + 1
len_inserted m d p none = fin.len-insert dot_total m d p ∙ ap (λ b. cond b (fin.len m) (fin.len m + 1)) (ap is_some none)

pub len_removed : (m : Entries) (d : Dot) (p : Presence) → fin.get m d ≡ Some p → fin.len (fin.remove m d) + 1 ≡ fin.len m
len_removed m d p here = go (fin.len m) refl
  where
    go : (n : ℕ) → fin.len m ≡ n → fin.len (fin.remove m d) + 1 ≡ fin.len m
    go zero e =
        let none : Some p ≡ nothing = sym here ∙ ap (λ k. fin.get k d) (fin.empty_of_len m e) ∙ fin.get-empty dot_cmp d in absurd (cc)
    go (suc k) e =
        let less : fin.len (fin.remove m d) ≡ fin.len m - 1 =
        fin.len-remove dot_total m d ∙ ap (λ b. cond b (fin.len m - 1) (fin.len m)) (ap is_some here) in
        omega (arith, less, e)

-- a live entry is counted
pub len_gone : (live : ℕ) (es : List Entry) (d : Dot) (i : ℕ) → Rises es → spot d es ≡ Ok i → is_live live d ≡ true →
    fin.len (fin.remove (live_map live es) d) + 1 ≡ fin.len (live_map live es)
len_gone live es d i up here on = go (fin.get (live_map live es) d) refl
  where
    go : (o : Option Presence) → fin.get (live_map live es) d ≡ o → fin.len (fin.remove (live_map live es) d) + 1 ≡ fin.len (live_map live es)
    go (Some p) at = len_removed (live_map live es) d p at
    go None at =
        absurd (some_at es i (found_at d es i here).0 (sym (got live es d up i here on) ∙ ap (option_map (entry_of d)) at))

pub held_at : (live : ℕ) (es : List Entry) (d : Dot) (i : ℕ) → Rises es → spot d es ≡ Ok i → is_live live d ≡ true →
    true ≡ is_some (fin.get (live_map live es) d)
held_at live es d i up here on = go (fin.get (live_map live es) d) refl
  where
    go : (o : Option Presence) → fin.get (live_map live es) d ≡ o → true ≡ is_some o
    go (Some p) at = refl
    go None at =
        absurd (some_at es i (found_at d es i here).0 (sym (got live es d up i here on) ∙ ap (option_map (entry_of d)) at))

pub one_live : (with : ℕ) (e : Entry) → IsWith with 0 e.dot.clock → live_map with (e ∷ []) ≡ fin.insert fin.empty e.dot (presence_of e)
one_live with e is = (put_list 0 e [] 0 tt tt refl).map with is ∙ ap (λ m. fin.insert m e.dot (presence_of e)) (none_live 0)

pub len_one : (with : ℕ) (e : Entry) → IsWith with 0 e.dot.clock → fin.len (live_map with (e ∷ [])) ≡ 1
len_one with e is =
    let more = len_inserted fin.empty e.dot (presence_of e) (fin.get-empty dot_cmp e.dot) in
    let none = fin.len-empty dot_cmp Presence in
    let all = ap fin.len (one_live with e is) in
    omega (arith, more, none, all)

pub in_of_near : (n b : ℕ) (d : Dot) (es : List Entry) → IsIn n b d → AreNear d es → AreIn n b es
in_of_near n b d es here near = subst (λ m. AreIn m b es) here.name (subst (λ m. AreIn d.name m es) here.base near)

-- the mask and the map tell the same

mask_edited : (n b : ℕ) (d : Dot) (live after : ℕ) (m : Entries) (f : Entries → Entries) (r : Bool → Option Presence → Option Presence) →
    ((m : Entries) (q : Dot) → fin.get (f m) q ≡ r (is_dot q d) (fin.get m q)) → ((o : Option Presence) → r false o ≡ o) →
    IsIn n b d → IsElsewhere after live d.clock → is_live after d ≡ is_some (fin.get (f m) d) → IsMaskOf n b live m → IsMaskOf n b after (f m)
mask_edited n b d live after m f r law rest here others own told q in_it = go (is_dot q d) refl
  where
    go : (t : Bool) → is_dot q d ≡ t → is_live after q ≡ is_some (fin.get (f m) q)
    go true at = ap (is_live after) (is_dot-true q d at) ∙ own ∙ ap (λ k. is_some (fin.get (f m) k)) (sym (is_dot-true q d at))
    go false at =
        let apart : q.clock % 64 ≢ d.clock % 64 = λ same. same_dot n b d q here in_it (sym same) at in
        others (q.clock % 64) (omega arith) apart ∙ told q in_it
        ∙ ap is_some (sym (law m q ∙ ap (λ t. r t (fin.get m q)) at ∙ rest (fin.get m q)))

pub mask_removed : (n b : ℕ) (d : Dot) (live after : ℕ) (m : Entries) → IsIn n b d → IsWithout after live d.clock → IsMaskOf n b live m →
    IsMaskOf n b after (fin.remove m d)
mask_removed n b d live after m here without told =
    mask_edited n b d live after m (λ m. fin.remove m d) (λ t o. cond t None o) (λ m q. fin.get-remove dot_total m d q) (λ o. refl) here
    without.others
    (without.here ∙ sym (ap is_some (fin.get-remove dot_total m d d ∙ ap (λ t. cond t None (fin.get m d)) (is_dot_same d)))) told

pub mask_inserted : (n b : ℕ) (d : Dot) (p : Presence) (live after : ℕ) (m : Entries) → IsIn n b d → IsWith after live d.clock →
    IsMaskOf n b live m → IsMaskOf n b after (fin.insert m d p)
mask_inserted n b d p live after m here with told =
    mask_edited n b d live after m (λ m. fin.insert m d p) (λ t o. cond t (Some p) o) (λ m q. fin.get-insert dot_total m d p q) (λ o. refl) here
    with.others
    (with.here ∙ sym (ap is_some (fin.get-insert dot_total m d p d ∙ ap (λ t. cond t (Some p) (fin.get m d)) (is_dot_same d)))) told

pub bit_none : (k : ℕ) → has_bit 0 k ≡ false
bit_none k = ap (λ b. b == 1) (bit_at-zero k)

pub mask_one : (n b : ℕ) (with : ℕ) (d : Dot) (p : Presence) → IsIn n b d → IsWith with 0 d.clock → IsMaskOf n b with (fin.insert fin.empty d p)
mask_one n b with d p here is =
    mask_inserted n b d p 0 with fin.empty here is (λ q in_it. bit_none (q.clock % 64) ∙ sym (ap is_some (fin.get-empty dot_cmp q)))

-- an entry is put in the place of one that isn't live

set_removed : (e : Entry) (es : List Entry) (i : ℕ) → i < length es → slice_set es i e ≡ insert (remove es i) i e
set_removed e [] i within = absurd (omega (arith, within))
set_removed e (x ∷ es) zero within = refl
set_removed e (x ∷ es) (suc i) within = ap (λ xs. x ∷ xs) (set_removed e es i (omega (arith, within)))

pub put_over : (live : ℕ) (e : Entry) (es : List Entry) (i : ℕ) → Rises es → AreNear e.dot es → spot e.dot es ≡ Ok i →
    fin.get (live_map live es) e.dot ≡ None → IsPutIn live e es (slice_set es i e)
put_over live e es i up near at none =
    put_dropped live e es (slice_set es i e) i up at none
    (subst (IsPutIn live e (remove es i)) (sym (set_removed e es i (found_at e.dot es i at).0))
    (put_list live e (remove es i) i (Rises-remove es i up) (near_removed e es i near) (spot_removed e.dot es i up at)))

-- into the live ones alone
pub put_to_live : (live : ℕ) (e : Entry) (es new : List Entry) → Rises es → IsPutIn live e (live_ones live es) new → IsPutIn live e es new
put_to_live live e es new up put = record {
  rises = put.rises;
  near = put.near;
  map = λ after with. put.map after with ∙ ap (λ m. fin.insert m e.dot (presence_of e)) (only_live live es up);
}

pub near_live : (live : ℕ) (e : Entry) (es : List Entry) → AreNear e.dot es → AreNear e.dot (live_ones live es)
near_live live e es near = all_filter (IsNear e) (λ (x : Entry). is_live live x.dot) es near

pub get_at_set : (es : List Entry) (i : ℕ) (e : Entry) → i < length es → Some e ≡ slice_get (slice_set es i e) i
get_at_set [] i e within = absurd (omega (arith, within))
get_at_set (x ∷ es) zero e within = refl
get_at_set (x ∷ es) (suc i) e within = get_at_set es i e (omega (arith, within))

pub get_at_insert : (es : List Entry) (i : ℕ) (e : Entry) → i ≤ length es → Some e ≡ slice_get (insert es i e) i
get_at_insert es zero e within = refl
get_at_insert [] (suc i) e within = absurd (omega (arith, within))
get_at_insert (x ∷ es) (suc i) e within = get_at_insert es i e (omega (arith, within))
