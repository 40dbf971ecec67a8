-- Entries put in and others taken out, in either order: a delivery, and what takes it back.
use Rattle.std.proofs.Common.{◌≡◌, ◌≢◌, ℕ, ◌&&◌, ◌||◌, not, Bool, true, false, cond, List, [], ◌∷◌, map}
use Rattle.std.proofs.Common.{Option, Some, None, is_some, refl, sym, ap, subst, subst₂, ◌∙◌, true≢false}
use Rattle.std.specs.List.{AllByRecursion, list_any}
use Rattle.std.specs.FinMap as fin
use Rattle.std.specs.FinSet as set
use Rattle.dots_core.specs.declared.dot.Dot.{Dot}
use Rattle.dots_core.proofs.Order.{is_dot, is_dot-true}
use Rattle.entry_core.specs.EntryLists.{pairs}
use Rattle.entry_core.specs.Presences.{Presence, Entry, Entries}
use Rattle.block_core.proofs.EntryMaps.{get-insert, get-retain, same_entries}
use Rattle.store_core.specs.Delivered.{AreApart}
use Rattle.store_core.specs.EntryMoves.{AreNew, dots_of_pairs, found_each, picked, with_each, without_each}
use Rattle.payload_core.specs.Messages.{AreSeen}
use Rattle.store_core.specs.Stores.{Store, arrivals, departures, is_new, leaves, merged, remaining}
use Rattle.store_core.proofs.PutBack.{all_picked_new, found_in_map, found_retained, get-without_each, picked_retained, put_all_back}
use Rattle.payload_core.proofs.TrackedDots.{found_all}
use Rattle.store_core.proofs.Undelivered.{new_arrivals, put_and_taken, with_arrivals, without_departures}

-- none of the entries is at one of the dots
abbrev pub Apart : List Dot → List (Dot × Presence) → Type 0
Apart ds ps = AllByRecursion (λ (p : Dot × Presence). AllByRecursion (λ (d : Dot). d ≢ p.0) ds) ps

pub apart_pairs : (ds : List Dot) (es : List Entry) → AreApart ds es → Apart ds (pairs es)
apart_pairs ds [] apart = tt
apart_pairs ds (e ∷ es) apart = (apart.0, apart_pairs ds es apart.1)

apart_entries : (ds : List Dot) (es : List Entry) → Apart ds (pairs es) → AreApart ds es
apart_entries ds [] apart = tt
apart_entries ds (e ∷ es) apart = (apart.0, apart_entries ds es apart.1)

not_among : (ds : List Dot) (e : Dot) → AllByRecursion (λ (d : Dot). d ≢ e) ds → list_any (is_dot e) ds ≡ false
not_among [] e apart = refl
not_among (d ∷ ds) e apart = ap (λ b. b || list_any (is_dot e) ds) (go (is_dot e d) refl) ∙ not_among ds e apart.1
  where
    go : (b : Bool) → is_dot e d ≡ b → is_dot e d ≡ false
    go true is = absurd (apart.0 (sym (is_dot-true e d is)))
    go false is = is

-- an entry put in beside the dots that are taken out
put_beside : (ds : List Dot) (e : Dot) (p : Presence) (m : Entries) → list_any (is_dot e) ds ≡ false →
    without_each ds (fin.insert m e p) ≡ fin.insert (without_each ds m) e p
put_beside ds e p m none = same_entries _ _ (λ q.
    get-without_each ds (fin.insert m e p) q ∙ go q (is_dot q e) refl ∙ sym (get-insert (without_each ds m) e q p))
  where
    go : (q : Dot) (b : Bool) → is_dot q e ≡ b →
        cond (list_any (is_dot q) ds) None (fin.get (fin.insert m e p) q) ≡ cond (is_dot q e) (Some p) (fin.get (without_each ds m) q)
    go q true is =
        let out : list_any (is_dot q) ds ≡ false = ap (λ (x : Dot). list_any (is_dot x) ds) (is_dot-true q e is) ∙ none in
        ap (λ b. cond b None (fin.get (fin.insert m e p) q)) out
        ∙ get-insert m e q p
        ∙ ap (λ b. cond b (Some p) (fin.get m q)) is
        ∙ sym (ap (λ b. cond b (Some p) (fin.get (without_each ds m) q)) is)
    go q false is =
        ap (cond (list_any (is_dot q) ds) None) (get-insert m e q p ∙ ap (λ b. cond b (Some p) (fin.get m q)) is)
        ∙ sym (get-without_each ds m q)
        ∙ sym (ap (λ b. cond b (Some p) (fin.get (without_each ds m) q)) is)

pub in_either_order : (ds : List Dot) (ps : List (Dot × Presence)) (m : Entries) → Apart ds ps →
    without_each ds (with_each ps m) ≡ with_each ps (without_each ds m)
in_either_order ds [] m apart = refl
in_either_order ds (p ∷ ps) m apart =
    in_either_order ds ps (fin.insert m p.0 p.1) apart.1 ∙ ap (with_each ps) (put_beside ds p.0 p.1 m (not_among ds p.0 apart.0))

pub new_beside : (ds : List Dot) (ps : List (Dot × Presence)) (m : Entries) → Apart ds ps → AreNew ps (without_each ds m) → AreNew ps m
new_beside ds [] m apart new = tt
new_beside ds (p ∷ ps) m apart new =
    let none : list_any (is_dot p.0) ds ≡ false = not_among ds p.0 apart.0 in (
      sym (get-without_each ds m p.0 ∙ ap (λ b. cond b None (fin.get m p.0)) none) ∙ new.0,
      new_beside ds ps (fin.insert m p.0 p.1) apart.1 (subst (AreNew ps) (sym (put_beside ds p.0 p.1 m none)) new.1),
    )

-- what holds of each dot at which a map has an entry

all_keys : (m : Entries) (P : Dot → Type 0) → ((d : Dot) (p : Presence) → fin.get m d ≡ Some p → P d) → (fs : List (Dot × Presence)) →
    AllByRecursion (λ (f : Dot × Presence). fin.get m f.0 ≡ Some f.1) fs → AllByRecursion P (map (λ (f : Dot × Presence). f.0) fs)
all_keys m P holds [] found = tt
all_keys m P holds (f ∷ fs) found = (holds f.0 f.1 found.0, all_keys m P holds fs found.1)

keys_all : (m : Entries) (P : Dot → Type 0) → ((d : Dot) (p : Presence) → fin.get m d ≡ Some p → P d) → AllByRecursion P (fin.keys m)
keys_all m P holds = all_keys m P holds (fin.entries m) (found_in_map m (fin.entries m) (found_all (fin.entries m) (fin.entries_sorted m)))

-- dots of which one test holds, and dots of which it doesn't

differ : (test : Dot → Bool) (a b : Bool) → (a ≡ b → ⊥) → (ds : List Dot) (e : Dot) → AllByRecursion (λ (d : Dot). test d ≡ a) ds →
    test e ≡ b → AllByRecursion (λ (d : Dot). d ≢ e) ds
differ test a b ne [] e all is = tt
differ test a b ne (d ∷ ds) e all is = ((λ same. ne (sym all.0 ∙ ap test same ∙ is)), differ test a b ne ds e all.1 is)

lists_apart : (test : Dot → Bool) (a b : Bool) → (a ≡ b → ⊥) → (ds : List Dot) (ps : List (Dot × Presence)) →
    AllByRecursion (λ (d : Dot). test d ≡ a) ds → AllByRecursion (λ (d : Dot). test d ≡ b) (map (λ (p : Dot × Presence). p.0) ps) → Apart ds ps
lists_apart test a b ne ds [] all others = tt
lists_apart test a b ne ds (p ∷ ps) all others = (differ test a b ne ds p.0 all others.0, lists_apart test a b ne ds ps all others.1)

-- a delivery's entries: what joins was not seen, and what leaves was
module _ (named : ℕ → Bool) (other s : Store) (live : AreSeen s.seen s.entries) where
  joins_unseen : (d : Dot) (p : Presence) → fin.get (arrivals named other s) d ≡ Some p → set.contains s.seen d ≡ false
  joins_unseen d p is = go (named d.name) (set.contains s.seen d) (fin.get other.entries d) (sym (get-retain other.entries (is_new named s) d) ∙ is)
    where
      go : (on seen : Bool) (o : Option Presence) → cond (on && not seen) o None ≡ Some p → seen ≡ false
      go true false o h = refl
      go true true o h = absurd (cc)
      go false seen o h = absurd (cc)

  leaves_seen : (d : Dot) (p : Presence) → fin.get (departures named other s) d ≡ Some p → set.contains s.seen d ≡ true
  leaves_seen d p is = live d (go (leaves named other d) (fin.get s.entries d) (sym (get-retain s.entries (leaves named other) d) ∙ is))
    where
      go : (gone : Bool) (o : Option Presence) → cond gone o None ≡ Some p → is_some o ≡ true
      go true o h = ap is_some h
      go false o h = absurd (cc)

  leaving_apart : Apart (fin.keys (departures named other s)) (fin.entries (arrivals named other s))
  leaving_apart = lists_apart (set.contains s.seen) true false true≢false (fin.keys (departures named other s)) (fin.entries (arrivals named other s))
      (keys_all (departures named other s) (λ d. set.contains s.seen d ≡ true) leaves_seen)
      (keys_all (arrivals named other s) (λ d. set.contains s.seen d ≡ false) joins_unseen)

  joined_apart : Apart (fin.keys (arrivals named other s)) (fin.entries (departures named other s))
  joined_apart = lists_apart (set.contains s.seen) false true (λ h. true≢false (sym h))
      (fin.keys (arrivals named other s)) (fin.entries (departures named other s))
      (keys_all (arrivals named other s) (λ d. set.contains s.seen d ≡ false) joins_unseen)
      (keys_all (departures named other s) (λ d. set.contains s.seen d ≡ true) leaves_seen)

  arrivals_new : AreNew (fin.entries (arrivals named other s)) s.entries
  arrivals_new = new_beside (fin.keys (departures named other s)) (fin.entries (arrivals named other s)) s.entries leaving_apart
      (subst (AreNew (fin.entries (arrivals named other s))) (sym (without_departures named other s)) (new_arrivals named other s live))

-- as the calls give them
module _ (named : ℕ → Bool) (other s : Store) (live : AreSeen s.seen s.entries) (joining : List Entry) (leaving : List Dot)
    (before after : Entries)
    (joining_are : pairs joining ≡ fin.entries (arrivals named other s)) (leaving_are : leaving ≡ fin.keys (departures named other s))
    (before_is : before ≡ s.entries) where
  pub joining_new : AreNew (pairs joining) before
  joining_new = rw (joining_are, before_is) (arrivals_new named other s live)

  staying : without_each leaving before ≡ remaining named other s
  staying = (λ i. without_each (leaving_are i) (before_is i)) ∙ without_departures named other s

  staying_new : AreNew (pairs joining) (without_each leaving before)
  staying_new = rw (joining_are, staying) (new_arrivals named other s live)

  module _ (after_is : after ≡ without_each leaving (with_each (pairs joining) before)) where
    in_order : after ≡ with_each (pairs joining) (without_each leaving before)
    in_order = after_is ∙ in_either_order leaving (pairs joining) before
        (subst₂ Apart (sym leaving_are) (sym joining_are) (leaving_apart named other s live))

    pub entries_after : after ≡ (merged named other s).entries
    entries_after = in_order ∙ (λ i. with_each (joining_are i) (staying i)) ∙ with_arrivals named other s

    module _ (joined : List Dot) (left : List Entry) (joined_are : joined ≡ dots_of_pairs (pairs joining))
        (left_are : pairs left ≡ found_each leaving before) where
      pub left_departures : pairs left ≡ fin.entries (departures named other s)
      left_departures = left_are ∙ (λ i. found_each (leaving_are i) (before_is i)) ∙ found_retained s.entries (leaves named other)

      left_picked : pairs left ≡ picked leaving before
      left_picked = left_departures ∙ sym (picked_retained s.entries (leaves named other)) ∙ sym (λ i. picked (leaving_are i) (before_is i))

      pub left_apart : AreApart joined left
      left_apart = apart_entries joined left
          (subst₂ Apart (sym (joined_are ∙ ap dots_of_pairs joining_are)) (sym left_departures) (joined_apart named other s live))

      rest : without_each joined after ≡ without_each leaving before
      rest = ap (without_each joined) in_order ∙ ap (λ ds. without_each ds (with_each (pairs joining) (without_each leaving before))) joined_are
          ∙ put_and_taken (pairs joining) (without_each leaving before) staying_new

      pub entries_back : with_each (pairs left) (without_each joined after) ≡ s.entries
      entries_back = ap (with_each (pairs left)) rest ∙ ap (λ ps. with_each ps (without_each leaving before)) left_picked
          ∙ put_all_back leaving before ∙ before_is

      pub left_new : AreNew (pairs left) (without_each joined after)
      left_new = rw (left_picked, rest) (all_picked_new leaving before)
