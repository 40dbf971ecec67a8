-- What leaves of a store and a delta together, and its way back.
use Rattle.std.proofs.Common.{◌≡◌, ◌≢◌, ◌<◌, ◌⊎◌, inl, inr, get_or, ℕ, suc, ◌+◌, Bool, true, false, All, List, [], ◌∷◌, ◌++◌, length, drop}
use Rattle.std.proofs.Common.{append_assoc, Option, Some, None, is_some, refl, sym, ap, subst, ◌∙◌, true≢false}
use Rattle.std.proofs.lemmas.List.Elements.{All-nil, All-cons}
use Rattle.std.specs.List.{AllByRecursion}
use Rattle.std.specs.Option.{option_map}
use Rattle.std.specs.FinMap as fin
use Rattle.std.specs.FinSet as set
use Rattle.dots_core.specs.declared.dot.Dot.{Dot}
use Rattle.dots_core.specs.Dots.{Dots, IsValid}
use Rattle.dots_core.proofs.Order.{dot_cases}
use Rattle.entry_core.specs.EntryLists.{pairs}
use Rattle.entry_core.specs.Presences.{Presence, Entry, Entries, entry_of, presence_of}
use Rattle.block_core.proofs.EntryMaps.{get_remove_other, get_removed}
use Rattle.store_core.specs.LeftEntries.{IsFree, Left, dots_before, put}
use Rattle.store_core.specs.EntryMoves.{AreNew, found_at, picked, with_each, without_each}
use Rattle.store_core.specs.LeavesTogether.{AreLive, Differ, dots_before_each, entries_left, found_lefts, left_at, left_if, lefts_of, listed}
use Rattle.store_core.specs.LeavesTogether.{still_there, unsent_left, with_dots, without_found}
use Rattle.store_core.proofs.StoreEdits.{inserted_again, none_removed, removed_inserted}
use Rattle.store_core.proofs.MovedEntries.{rest_of}
use Rattle.store_core.proofs.SeenTogether.{other_dots, with_one_more}

-- one more that is found, in a walk over the dots

module _ (ds : List Dot) (i : ℕ) (d : Dot) (es us : Entries) (seen : Dots) (items whole : List Left) (at : drop i ds ≡ d ∷ drop (i + 1) ds)
    (o : Option Entry) (found : o ≡ option_map (entry_of d) (fin.get es d)) (so_far : items ++ found_lefts (drop i ds) es us seen ≡ whole) where
  rest : List Left
  rest = found_lefts (drop (i + 1) ds) es us seen

  here : items ++ (left_at d (fin.get es d) (fin.get us d) (set.contains seen d) ++ rest) ≡ whole
  unfolding rest
  here = sym (ap (λ ds. items ++ found_lefts ds es us seen) at) ∙ so_far

  pub found_none : o ≡ None → items ++ found_lefts (drop (i + 1) ds) es us seen ≡ whole
  unfolding rest
  found_none none = go (fin.get es d) refl (sym found ∙ none)
    where
      go : (g : Option Presence) → fin.get es d ≡ g → option_map (entry_of d) (fin.get es d) ≡ None → items ++ rest ≡ whole
      go None is h = sym (ap (λ g. items ++ (left_at d g (fin.get us d) (set.contains seen d) ++ rest)) is) ∙ here
      go (Some p) is h = let some : Some (entry_of d p) ≡ None = sym (ap (option_map (entry_of d)) is) ∙ h in absurd (cc)

  pub found_some : (e : Entry) (u : Option Entry) (b : Bool) (l : Left) (more : List Left) → o ≡ Some e →
      u ≡ option_map (entry_of d) (fin.get us d) → b ≡ set.contains seen d → l ≡ record { entry = e; unsent = u; in_delta = b } →
      more ≡ items ++ l ∷ [] →
      more ++ found_lefts (drop (i + 1) ds) es us seen ≡ whole
  unfolding rest
  found_some e u b l more some unsent in_delta left grown =
      ap (λ more. more ++ rest) grown ∙ append_assoc items (l ∷ []) rest ∙ go (fin.get es d) refl (sym found ∙ some)
    where
      go : (g : Option Presence) → fin.get es d ≡ g → option_map (entry_of d) (fin.get es d) ≡ Some e → items ++ l ∷ rest ≡ whole
      go None is h = let none : None ≡ Some e = sym (ap (option_map (entry_of d)) is) ∙ h in absurd (cc)
      go (Some p) is h =
          let same : Some (entry_of d p) ≡ Some e = sym (ap (option_map (entry_of d)) is) ∙ h in
          let entry : e ≡ entry_of d p = cc in
          ap (λ l. items ++ l ∷ rest) (left ∙ (λ j. record { entry = entry j; unsent = unsent j; in_delta = in_delta j }))
          ∙ sym (ap (λ g. items ++ (left_at d g (fin.get us d) (set.contains seen d) ++ rest)) is)
          ∙ here

-- what was found at once is what leaves one after another

abbrev pub IsPart : Entries → Entries → Entries → Entries → Type 0
IsPart fs vs es us = (q : Dot) (p : Presence) → fin.get fs q ≡ Some p → (fin.get es q ≡ Some p) × (fin.get vs q ≡ fin.get us q)

part_after : (fs vs es us : Entries) (d : Dot) → IsPart fs vs es us → IsPart (fin.remove fs d) (fin.remove vs d) es us
part_after fs vs es us d part q p at = go (dot_cases q d)
  where
    go : (q ≡ d) ⊎ (q ≢ d) → (fin.get es q ≡ Some p) × (fin.get (fin.remove vs d) q ≡ fin.get us q)
    go (inl same) = let both : None ≡ Some p = sym (ap (fin.get (fin.remove fs d)) same ∙ get_removed fs d) ∙ at in absurd (cc)
    go (inr other) = let found = part q p (sym (get_remove_other fs d q other) ∙ at) in (found.0, get_remove_other vs d q other ∙ found.1)

none_of : (fs vs es us : Entries) (d : Dot) → IsPart fs vs es us → fin.get es d ≡ None → fin.get fs d ≡ None
none_of fs vs es us d part none = go (fin.get fs d) refl
  where
    go : (o : Option Presence) → fin.get fs d ≡ o → fin.get fs d ≡ None
    go None is = is
    go (Some p) is = let both : Some p ≡ None = sym (part d p is).0 ∙ none in absurd (cc)

still_found : (ds : List Dot) (es us : Entries) (seen : Dots) (fs vs : Entries) → IsPart fs vs es us →
    still_there (found_lefts ds es us seen) fs ≡ lefts_of ds fs vs seen
still_found [] es us seen fs vs part = refl
still_found (d ∷ ds) es us seen fs vs part =
    go (fin.get es d) (fin.get fs d) refl refl
    (still_found ds es us seen (fin.remove fs d) (fin.remove vs d) (part_after fs vs es us d part))
  where
    go : (o f : Option Presence) → fin.get es d ≡ o → fin.get fs d ≡ f
        → still_there (found_lefts ds es us seen) (fin.remove fs d) ≡ lefts_of ds (fin.remove fs d) (fin.remove vs d) seen
        → still_there (left_at d o (fin.get us d) (set.contains seen d) ++ found_lefts ds es us seen) fs
        ≡ left_at d f (fin.get vs d) (set.contains seen d) ++ lefts_of ds (fin.remove fs d) (fin.remove vs d) seen
    go None None at is later = ap (still_there (found_lefts ds es us seen)) (sym (none_removed fs d is)) ∙ later
    go None (Some p) at is later = let both : Some p ≡ None = sym is ∙ none_of fs vs es us d part at in absurd (cc)
    go (Some p) None at is later =
        ap (λ f. left_if (record { entry = entry_of d p; unsent = option_map (entry_of d) (fin.get us d); in_delta = set.contains seen d }) (is_some f)
        ++ still_there (found_lefts ds es us seen) (fin.remove fs d)) is
        ∙ later
    go (Some p) (Some r) at is later =
        let found = part d r is in
        let both : Some p ≡ Some r = sym at ∙ found.0 in
        let same : p ≡ r = cc in
        ap (λ f. left_if (record { entry = entry_of d p; unsent = option_map (entry_of d) (fin.get us d); in_delta = set.contains seen d }) (is_some f)
        ++ still_there (found_lefts ds es us seen) (fin.remove fs d)) is
        ∙ (λ j. record { entry = entry_of d (same j); unsent = option_map (entry_of d) (sym found.1 j); in_delta = set.contains seen d } ∷ later j)

pub found_still : (ds : List Dot) (es us : Entries) (seen : Dots) → still_there (found_lefts ds es us seen) es ≡ lefts_of ds es us seen
found_still ds es us seen = still_found ds es us seen es us (λ q p at. (at, refl))

found_gone : (ds : List Dot) (es us : Entries) (seen : Dots) (fs : Entries) → IsPart fs us es us →
    without_found (found_lefts ds es us seen) fs ≡ without_each ds fs
found_gone [] es us seen fs part = refl
found_gone (d ∷ ds) es us seen fs part =
    go (fin.get es d) refl (found_gone ds es us seen (fin.remove fs d) (λ q p at. ((part_after fs us es us d part q p at).0, refl)))
  where
    go : (o : Option Presence) → fin.get es d ≡ o
        → without_found (found_lefts ds es us seen) (fin.remove fs d) ≡ without_each ds (fin.remove fs d)
        → without_found (left_at d o (fin.get us d) (set.contains seen d) ++ found_lefts ds es us seen) fs ≡ without_each ds (fin.remove fs d)
    go None at later = ap (without_found (found_lefts ds es us seen)) (sym (none_removed fs d (none_of fs us es us d part at))) ∙ later
    go (Some p) at later = later

pub found_without : (ds : List Dot) (es us : Entries) (seen : Dots) → without_found (found_lefts ds es us seen) es ≡ without_each ds es
found_without ds es us seen = found_gone ds es us seen es (λ q p at. (at, refl))

-- one more taken out, in a walk over what was found

module _ (items rest : List Left) (l : Left) (at : items ≡ l ∷ rest) (m after : Entries) (after_is : after ≡ fin.remove m l.entry.dot) where
  pub found_first : without_found rest after ≡ without_found items m
  found_first = ap (without_found rest) after_is ∙ sym (ap (λ ls. without_found ls m) at)

  pub lost_first : (b : Bool) → b ≡ is_some (fin.get m l.entry.dot) → (got whole : List Left) → got ++ still_there items m ≡ whole → b ≡ false →
      got ++ still_there rest after ≡ whole
  lost_first b was got whole so_far lost =
      (λ j. got ++ (left_if l ((sym lost ∙ was) j) ++ still_there rest (after_is j)))
      ∙ sym (ap (λ ls. got ++ still_there ls m) at)
      ∙ so_far

-- one more put back, in a walk over what left

pub left_next : (ls : List Left) (i : ℕ) (item l : Left) → i < length ls → item ≡ get_or ls i item → l ≡ item → drop i ls ≡ l ∷ drop (i + 1) ls
left_next ls i item l within is same = rest_of ls i item within is ∙ ap (λ x. x ∷ drop (i + 1) ls) (sym same)

first_new : (u : Option Entry) (es : List Entry) (m : Entries) → AreNew (pairs (listed u ++ es)) m →
    IsFree u m × AreNew (pairs es) (put u m)
first_new None es m new = (tt, new)
first_new (Some e) es m new = new

first_with : (u : Option Entry) (es : List Entry) (m : Entries) → with_each (pairs (listed u ++ es)) m ≡ with_each (pairs es) (put u m)
first_with None es m = refl
first_with (Some e) es m = refl

module _ (items rest : List Left) (l : Left) (at : items ≡ l ∷ rest) (m : Entries) where
  pub unsent_first : AreNew (pairs (unsent_left items)) m → IsFree l.unsent m × AreNew (pairs (unsent_left rest)) (put l.unsent m)
  unsent_first new = first_new l.unsent (unsent_left rest) m (subst (λ ls. AreNew (pairs (unsent_left ls)) m) at new)

  pub unsent_with : with_each (pairs (unsent_left items)) m ≡ with_each (pairs (unsent_left rest)) (put l.unsent m)
  unsent_with = ap (λ ls. with_each (pairs (unsent_left ls)) m) at ∙ first_with l.unsent (unsent_left rest) m

  pub entry_first : AreNew (pairs (entries_left items)) m →
      (fin.get m l.entry.dot ≡ None) × AreNew (pairs (entries_left rest)) (fin.insert m l.entry.dot (presence_of l.entry))
  entry_first new = subst (λ ls. AreNew (pairs (entries_left ls)) m) at new

  pub entry_with : with_each (pairs (entries_left items)) m
      ≡ with_each (pairs (entries_left rest)) (fin.insert m l.entry.dot (presence_of l.entry))
  entry_with = ap (λ ls. with_each (pairs (entries_left ls)) m) at

-- what left is what was picked

pub entries_picked : (ds : List Dot) (es us : Entries) (seen : Dots) → pairs (entries_left (lefts_of ds es us seen)) ≡ picked ds es
entries_picked [] es us seen = refl
entries_picked (d ∷ ds) es us seen = go (fin.get es d) (entries_picked ds (fin.remove es d) (fin.remove us d) seen)
  where
    go : (o : Option Presence) → pairs (entries_left (lefts_of ds (fin.remove es d) (fin.remove us d) seen)) ≡ picked ds (fin.remove es d)
        → pairs (entries_left (left_at d o (fin.get us d) (set.contains seen d) ++ lefts_of ds (fin.remove es d) (fin.remove us d) seen))
        ≡ found_at d o ++ picked ds (fin.remove es d)
    go None later = later
    go (Some p) later = ap (λ ps. (d, p) ∷ ps) later

-- each entry of the delta is one of the store's
abbrev pub AreAmong : Entries → Entries → Type 0
AreAmong us es = (d : Dot) → fin.get es d ≡ None → fin.get us d ≡ None

among_removed : (us es : Entries) (d : Dot) → AreAmong us es → AreAmong (fin.remove us d) (fin.remove es d)
among_removed us es d among q none = go (dot_cases q d)
  where
    go : (q ≡ d) ⊎ (q ≢ d) → fin.get (fin.remove us d) q ≡ None
    go (inl e) = ap (fin.get (fin.remove us d)) e ∙ get_removed us d
    go (inr other) = get_remove_other us d q other ∙ among q (sym (get_remove_other es d q other) ∙ none)

pub unsent_picked : (ds : List Dot) (es us : Entries) (seen : Dots) → AreAmong us es →
    pairs (unsent_left (lefts_of ds es us seen)) ≡ picked ds us
unsent_picked [] es us seen among = refl
unsent_picked (d ∷ ds) es us seen among =
    go (fin.get es d) (fin.get us d) refl refl (unsent_picked ds (fin.remove es d) (fin.remove us d) seen (among_removed us es d among))
  where
    go : (o u : Option Presence) → fin.get es d ≡ o → fin.get us d ≡ u →
        pairs (unsent_left (lefts_of ds (fin.remove es d) (fin.remove us d) seen)) ≡ picked ds (fin.remove us d)
        → pairs (unsent_left (left_at d o u (set.contains seen d) ++ lefts_of ds (fin.remove es d) (fin.remove us d) seen))
        ≡ found_at d u ++ picked ds (fin.remove us d)
    go None None at unsent later = later
    go None (Some p) at unsent later = let both : Some p ≡ None = sym unsent ∙ among d at in absurd (cc)
    go (Some p) None at unsent later = later
    go (Some p) (Some q) at unsent later = ap (λ ps. (d, q) ∷ ps) later

-- where each of the dots has an entry, and no two are alike

live_after : (ds : List Dot) (d : Dot) (es : Entries) → AllByRecursion (λ (e : Dot). e ≢ d) ds → AreLive ds es →
    AreLive ds (fin.remove es d)
live_after [] d es other live = tt
live_after (e ∷ ds) d es other live = (ap is_some (get_remove_other es d e other.0) ∙ live.0, live_after ds d es other.1 live.1)

found : (es : Entries) (d : Dot) → fin.contains_key es d ≡ true → (p : Presence) × (fin.get es d ≡ Some p)
found es d some = go (fin.get es d) refl some
  where
    go : (o : Option Presence) → fin.get es d ≡ o → is_some o ≡ true → (p : Presence) × (fin.get es d ≡ Some p)
    go None at is = absurd (true≢false (sym is))
    go (Some p) at is = (p, at)

-- what leaves at the first dot comes first
first_left : (d : Dot) (ds : List Dot) (es us : Entries) (seen : Dots) (p : Presence) → fin.get es d ≡ Some p →
    lefts_of (d ∷ ds) es us seen ≡
    record { entry = entry_of d p; unsent = option_map (entry_of d) (fin.get us d); in_delta = set.contains seen d }
    ∷ lefts_of ds (fin.remove es d) (fin.remove us d) seen
first_left d ds es us seen p at =
    ap (λ o. left_at d o (fin.get us d) (set.contains seen d) ++ lefts_of ds (fin.remove es d) (fin.remove us d) seen) at

pub lefts_length : (ds : List Dot) (es us : Entries) (seen : Dots) → Differ ds → AreLive ds es →
    length (lefts_of ds es us seen) ≡ length ds
lefts_length [] es us seen differ live = refl
lefts_length (d ∷ ds) es us seen differ live =
    let p = found es d live.0 in
    ap length (first_left d ds es us seen p.0 p.1)
    ∙ ap suc (lefts_length ds (fin.remove es d) (fin.remove us d) seen differ.1 (live_after ds d es differ.0 live.1))

pub lefts_valid : (ds : List Dot) (es us : Entries) (seen : Dots) → AllByRecursion IsValid ds →
    All (λ (l : Left). IsValid l.entry.dot) (lefts_of ds es us seen)
lefts_valid [] es us seen valid = All-nil (λ (l : Left). IsValid l.entry.dot)
lefts_valid (d ∷ ds) es us seen valid = go (fin.get es d) (lefts_valid ds (fin.remove es d) (fin.remove us d) seen valid.1)
  where
    go : (o : Option Presence) → All (λ (l : Left). IsValid l.entry.dot) (lefts_of ds (fin.remove es d) (fin.remove us d) seen)
        → All (λ (l : Left). IsValid l.entry.dot)
        (left_at d o (fin.get us d) (set.contains seen d) ++ lefts_of ds (fin.remove es d) (fin.remove us d) seen)
    go None later = later
    go (Some p) later = All-cons (λ (l : Left). IsValid l.entry.dot) _ _ valid.0 later

dot_back : (b : Bool) (d : Dot) (s t : Dots) → set.contains s d ≡ b → set.contains t d ≡ b → dots_before b d (set.insert t d) ≡ t
dot_back true d s t was is = inserted_again t d is
dot_back false d s t was is = removed_inserted t d is

pub dots_back : (ds : List Dot) (es us : Entries) (s : Dots) → Differ ds → AreLive ds es →
    dots_before_each (lefts_of ds es us s) (with_dots ds s) ≡ s
dots_back [] es us s differ live = refl
dots_back (d ∷ ds) es us s differ live =
    let p = found es d live.0 in
    ap (λ ls. dots_before_each ls (with_dots ds (set.insert s d))) (first_left d ds es us s p.0 p.1)
    ∙ ap (λ t. dots_before_each (lefts_of ds (fin.remove es d) (fin.remove us d) s) (dots_before (set.contains s d) d t))
    (with_one_more ds s d)
    ∙ ap (dots_before_each (lefts_of ds (fin.remove es d) (fin.remove us d) s))
    (dot_back (set.contains s d) d s (with_dots ds s) refl (other_dots ds s d differ.0))
    ∙ dots_back ds (fin.remove es d) (fin.remove us d) s differ.1 (live_after ds d es differ.0 live.1)
