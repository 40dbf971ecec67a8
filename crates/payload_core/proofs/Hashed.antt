-- What an index that covers a map of entries tells of a name, a process, a topic and a key.
use Rattle.std.proofs.Common.{◌≡◌, ◌≢◌, ℕ, ◌==◌, ◌&&◌, Bool, true, false, cond, List, [], ◌∷◌, Option, Some, None, refl, sym, ap, ◌∙◌, subst, slice_get, ◌⊎◌, inl, inr, if◌then◌else◌, is_some}
use Rattle.std.proofs.lemmas.Bool.{eq-eqb, eqb-true, and_from, and_parts}
use Rattle.std.specs.FinMap as fin
use Rattle.dots_core.specs.declared.dot.Dot.{Dot}
use Rattle.dots_core.specs.Dots.{dot_cmp}
use Rattle.dots_core.proofs.Order.{is_dot, is_dot-true, is_dot_same}
use Rattle.payload_core.specs.Hashes.{hash_of}
use Rattle.entry_core.specs.Presences.{Presence, Entry, Entries, entry_of, is_tracked_as, dots_of}
use Rattle.std.specs.Option.{option_map}
use Rattle.payload_core.specs.TrackIndices.{TrackIndex, Covers, Holds, dot_if, held_as, holder_of, in_box, tracked_at}
use Rattle.payload_core.specs.declared.track_index.Holder.{Holder}
use Rattle.payload_core.specs.declared.track_index.Holder.TheVariants.{One, Several}
use Rattle.block_core.proofs.EntryMaps.{get-insert, get-remove}
use Rattle.payload_core.proofs.TrackedDots.{EachPasses, dots_of_pass, none_passes, tracked_as}

module _ (name pid : ℕ) (topic key : List ℕ) (m : Entries) (index : TrackIndex) (covers : Covers index m) where
  abbrev test : Presence → Bool
  test = is_tracked_as pid topic key

  -- a dot of what is tracked is held under the hash
  held : (d : Dot) (p : Presence) → d.name ≡ name → fin.get m d ≡ Some p → test p ≡ true →
      Holds (holder_of index name (hash_of pid topic key)) d
  held d p named at passes =
      let like = tracked_as pid topic key p passes in
      let same : hash_of p.pid p.topic p.key ≡ hash_of pid topic key = cc (like.0, like.1, like.2) in
      subst (λ n. Holds (holder_of index n (hash_of pid topic key)) d) named
      (subst (λ k. Holds (holder_of index d.name k) d) same (covers.held d p at))

  -- a hash without a holder
  pub none_held : holder_of index name (hash_of pid topic key) ≡ None → slice_get (dots_of name test m) 0 ≡ None
  none_held none = go (dots_of name test m) (dots_of_pass name test m)
    where
      go : (ds : List Dot) → EachPasses name test m ds → slice_get ds 0 ≡ None
      go [] each = refl
      go (d ∷ ds) each =
          let it = each.0 in
          absurd (subst (λ h. Holds h d) none (held d it.1.0 it.0 it.1.1 it.1.2))

  -- a hash with one holder
  pub one_held : (d : Dot) → holder_of index name (hash_of pid topic key) ≡ Some (One d) →
      slice_get (dots_of name test m) 0 ≡ tracked_at m d name test
  one_held d one = go (dots_of name test m) refl (dots_of_pass name test m) (fin.get m d) refl
    where
      go : (ds : List Dot) → dots_of name test m ≡ ds → EachPasses name test m ds → (o : Option Presence) → fin.get m d ≡ o →
          slice_get ds 0 ≡ dot_if d name test o
      go [] is each None at = refl
      go [] is each (Some p) at = no (d.name == name) refl (none_passes name test m is d p)
        where
          no : (b : Bool) → (d.name == name) ≡ b → (d.name ≡ name → fin.get m d ≡ Some p → test p ≡ false) → None ≡ cond (b && test p) (Some d) None
          no false e none = refl
          no true e none = ap (λ t. cond t (Some d) None) (sym (none (eqb-true d.name name e) at))
      go (e ∷ ds) is each o at =
          let it = each.0 in
          let same : d ≡ e = subst (λ h. Holds h e) one (held e it.1.0 it.0 it.1.1 it.1.2) in
          let here : o ≡ Some it.1.0 = sym at ∙ ap (fin.get m) same ∙ it.1.1 in
          let own : (d.name == name) ≡ true = eq-eqb d.name name (ap (λ (d : Dot). d.name) same ∙ it.0) in
          ap Some (sym same) ∙ sym (ap (dot_if d name test) here ∙ ap (λ t. cond t (Some d) None) (and_from (d.name == name) (test it.1.0) own it.1.2))

-- edits

pub covers_empty : (index : TrackIndex) → Covers index fin.empty
covers_empty index = record { held = λ d p at. absurd (let none = sym (fin.get-empty dot_cmp d) ∙ at in cc) }

pub covers_insert : (a b : TrackIndex) (m : Entries) (d : Dot) (p : Presence) →
    ((n k : ℕ) (d : Dot) → Holds (holder_of a n k) d → Holds (holder_of b n k) d) →
    Holds (holder_of b d.name (hash_of p.pid p.topic p.key)) d → Covers a m → Covers b (fin.insert m d p)
covers_insert a b m d p stays added covers = record { held = λ q v at. go q v (is_dot q d) refl (sym (get-insert m d q p) ∙ at) }
  where
    go : (q : Dot) (v : Presence) (t : Bool) → is_dot q d ≡ t → cond t (Some p) (fin.get m q) ≡ Some v → Holds (holder_of b q.name (hash_of v.pid v.topic v.key)) q
    go q v true e is =
        let here : q ≡ d = is_dot-true q d e in
        let same : p ≡ v = cc in
        subst (λ (x : Presence). Holds (holder_of b q.name (hash_of x.pid x.topic x.key)) q) same
        (subst (λ (x : Dot). Holds (holder_of b x.name (hash_of p.pid p.topic p.key)) x) (sym here) added)
    go q v false e is = stays _ _ q (covers.held q v is)

pub covers_remove : (a b : TrackIndex) (m : Entries) (d : Dot) →
    ((n k : ℕ) (q : Dot) → q ≢ d → Holds (holder_of a n k) q → Holds (holder_of b n k) q) → Covers a m → Covers b (fin.remove m d)
covers_remove a b m d stays covers = record { held = λ q v at. go q v (is_dot q d) refl (sym (get-remove m d q) ∙ at) }
  where
    go : (q : Dot) (v : Presence) (t : Bool) → is_dot q d ≡ t → cond t None (fin.get m q) ≡ Some v → Holds (holder_of b q.name (hash_of v.pid v.topic v.key)) q
    go q v true e is = absurd (cc)
    go q v false e is =
        let other : q ≢ d = λ same. let here = ap (λ x. is_dot q x) same ∙ e in absurd (let wrong = sym (is_dot_same q) ∙ here in cc) in
        stays _ _ q other (covers.held q v is)

-- edits of the list of holders, by what it tells of each hash

pub none_of : {X : Type 0} (o : Option X) → is_some o ≡ false → o ≡ None
none_of None e = refl
none_of (Some x) e = absurd (cc)

pub added_known : (before after : ℕ → Option Holder) (hash : ℕ) (it : Holder) →
    ((k : ℕ) → after k ≡ cond (hash == k) (Some it) (before k)) → (before hash ≡ None) ⊎ (it ≡ Several) →
    (k : ℕ) (d : Dot) → Holds (before k) d → Holds (after k) d
added_known before after hash it put new k d h = go (hash == k) refl new
  where
    go : (t : Bool) → (hash == k) ≡ t → (before hash ≡ None) ⊎ (it ≡ Several) → Holds (after k) d
    go false e new = subst (λ o. Holds o d) (sym (put k ∙ ap (λ t. cond t (Some it) (before k)) e)) h
    go true e (inl none) = absurd (subst (λ o. Holds o d) (ap before (sym (eqb-true hash k e)) ∙ none) h)
    go true e (inr several) = subst (λ o. Holds o d) (sym (put k ∙ ap (λ t. cond t (Some it) (before k)) e ∙ ap Some several)) tt

pub removed_known : (before after : ℕ → Option Holder) (hash : ℕ) (dot : Dot) →
    ((k : ℕ) → after k ≡ cond (hash == k) None (before k)) → before hash ≡ Some (One dot) →
    (k : ℕ) (d : Dot) → d ≢ dot → Holds (before k) d → Holds (after k) d
removed_known before after hash dot out one k d other h = go (hash == k) refl
  where
    go : (t : Bool) → (hash == k) ≡ t → Holds (after k) d
    go false e = subst (λ o. Holds o d) (sym (out k ∙ ap (λ t. cond t None (before k)) e)) h
    go true e =
        let here : dot ≡ d = subst (λ o. Holds o d) (ap before (sym (eqb-true hash k e)) ∙ one) h in
        absurd (other (sym here))

-- what an index of the name tells, and one that isn't of it
pub known_still : (kept : Bool) (a b : List (ℕ × Holder)) (k : ℕ) (d : Dot) → (Holds (held_as a k) d → Holds (held_as b k) d) →
    Holds (if kept then held_as a k else Some Several) d → Holds (if kept then held_as b k else Some Several) d
known_still false a b k d still h = tt
known_still true a b k d still h = still h

-- a box that keeps what it told, or that is there where none was
pub boxed_still : {M : Type 0} (o : Option M) (it : M) (told : M → List (ℕ × Holder)) (after : List (ℕ × Holder)) (k : ℕ) (d : Dot) →
    (o ≡ Some it) ⊎ (o ≡ None) → held_as after k ≡ held_as (told it) k → Holds (held_as (in_box [] told o) k) d → Holds (held_as after k) d
boxed_still None it told after k d from same h = absurd h
boxed_still (Some x) it told after k d (inl is) same h =
    let here : x ≡ it = cc in
    subst (λ o. Holds o d) (ap (λ x. held_as (told x) k) here ∙ sym same) h
boxed_still (Some x) it told after k d (inr none) same h = absurd (cc)

dot_at : ℕ → ℕ → Dot
dot_at clock name = record { name = name; clock = clock }

pub same_dot : (a b : Dot) → ((a.name == b.name) && (a.clock == b.clock)) ≡ true → a ≡ b
unfolding dot_at
same_dot a b e =
    let parts = and_parts (a.name == b.name) (a.clock == b.clock) e in
    let name : a.name ≡ b.name = eqb-true a.name b.name parts.0 in
    let clock : a.clock ≡ b.clock = eqb-true a.clock b.clock parts.1 in
    ap (dot_at a.clock) name ∙ ap (λ k. dot_at k b.name) clock

-- an entry that was found at a dot has that dot
pub dot_found : (d : Dot) (o : Option Presence) (e : Entry) → Some e ≡ option_map (entry_of d) o → e.dot ≡ d
dot_found d None e h = absurd (cc)
dot_found d (Some p) e h = let same : e ≡ entry_of d p = cc in ap (λ e. e.dot) same

pub none_found : (d : Dot) (o : Option Presence) → option_map (entry_of d) o ≡ None → o ≡ None
none_found d None h = refl
none_found d (Some p) h = absurd (cc)
