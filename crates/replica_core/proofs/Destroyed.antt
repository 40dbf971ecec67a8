-- What a delivery and a permanently down destroyed leads back to the store that was.
use Rattle.std.proofs.Common.{◌≡◌, ◌⊎◌, inl, inr, ℕ, ◌<◌, ◌≤◌, ◌==◌, ◌&&◌, ◌||◌, not, Bool, true, false, cond, List, [], ◌∷◌, Contains}
use Rattle.std.proofs.Common.{refl, sym, ap, subst, ◌∙◌, arith, true≢false}
use Rattle.std.proofs.lemmas.Bool.{cases_lt, eqb-true}
use Rattle.std.proofs.lemmas.List.{get_or_default}
use Rattle.std.specs.List.{AllByRecursion}
use Rattle.std.specs.FinMap as fin
use Rattle.std.specs.FinSet as set
use Rattle.dots_core.specs.declared.dot.Dot.{Dot}
use Rattle.dots_core.specs.Clocks.{Clocks, holds, is_among}
use Rattle.dots_core.specs.Contexts.{IsPartOf, with_part}
use Rattle.dots_core.specs.Dots.{Dots, dot, of_names}
use Rattle.dots_core.proofs.Clocks.{among_at, among_place, holds_high, holds_low, not_among, same_tests}
use Rattle.dots_core.proofs.Parts.{contains-with_part}
use Rattle.dots_core.proofs.Sets.{contains-retain, contains-union, same_dots}
use Rattle.store_core.specs.Delivered.{Delivered, Destroys, OldPart, is_old, undelivered, with_parts}
use Rattle.payload_core.specs.EntryLists.{pairs}
use Rattle.store_core.specs.EntryMoves.{AreNew, picked, with_each, without_each}
use Rattle.store_core.specs.ForgottenNames.{Forgotten, Holds, remembered}
use Rattle.payload_core.specs.Messages.{AreSeen}
use Rattle.payload_core.specs.Presences.{entries_of_names}
use Rattle.store_core.specs.Stores.{Store, arrivals, departures, is_other, leaves, merged, part, remaining, store_of}
use Rattle.store_core.proofs.PutBack.{all_picked_new, picked_retained, put_all_back, without_names}
use Rattle.store_core.proofs.Undelivered.{new_arrivals, put_and_taken, with_arrivals, without_departures}
use Rattle.replica_core.specs.Changes.{IsPermdown}
use Rattle.replica_core.specs.Delivered.{IsDelivery}
use Rattle.replica_core.specs.Deliveries.{is_other_known}
use Rattle.replica_core.specs.Invariant.{IsReplica}
use Rattle.replica_core.specs.Replicas.{Replica}

-- a name's part has the clocks of its dots
module _ (s : Dots) (name : ℕ) (p : Clocks) (is : IsPartOf s name p) where
  among : (k : ℕ) → Contains p.cloud k → is_among k p.cloud ≡ true
  among k h = among_at p.cloud h.0 k h.1 (get_or_default p.cloud h.0 0 k h.1 ∙ h.2)

  listed : (k : ℕ) → is_among k p.cloud ≡ true → Contains p.cloud k
  listed k h = let at = among_place p.cloud k h in (at.0, at.1, get_or_default p.cloud at.0 k 0 at.1 ∙ at.2)

  positive : (k : ℕ) → holds p k ≡ true → 0 < k
  positive k h = elim (cases_lt 0 k) as (λ _. 0 < k) [
    | inl lt ↦ lt
    | inr none ↦ let zero : k ≡ 0 = omega arith in
        absurd (true≢false (sym h ∙ ap (holds p) zero ∙ not_among p.clock p.cloud 0 is.cloud.rises (omega arith)))
  ]

  pub holds_dots : (k : ℕ) → holds p k ≡ set.contains s (dot name k)
  holds_dots k = go (cases_lt p.clock k)
    where
      go : (p.clock < k) ⊎ (k ≤ p.clock) → holds p k ≡ set.contains s (dot name k)
      go (inl lt) = same_tests (holds p k) (set.contains s (dot name k))
          (λ h. (is.cloud.others k lt).1 (listed k (sym (holds_high p k lt) ∙ h)))
          (λ h. holds_high p k lt ∙ among k ((is.cloud.others k lt).0 h))
      go (inr le) = same_tests (holds p k) (set.contains s (dot name k))
          (λ h. (is.context.all k le).1 (positive k h)) (λ h. holds_low p k ((is.context.all k le).0 h) le)

  replaced : (own was now here : Bool) → (own ≡ true → here ≡ was) → ((now && not own) || (own && here)) ≡ cond own was now
  replaced true was true here same = same refl
  replaced true was false here same = same refl
  replaced false was true here same = refl
  replaced false was false here same = refl

  -- the part put in the place of the name's own in another set
  contains-put : (t : Dots) (q : Dot) → set.contains (with_part name p t) q ≡ cond (q.name == name) (set.contains s q) (set.contains t q)
  contains-put t q = contains-with_part name p t q
      ∙ replaced (q.name == name) (set.contains s q) (set.contains t q) (holds p q.clock)
      (λ own. holds_dots q.clock ∙ ap (λ n. set.contains s (dot n q.clock)) (sym (eqb-true q.name name own)))

-- the old parts put in the place of the names' own
module _ (s : Dots) where
  either : (a b was now : Bool) → cond a was (cond b was now) ≡ cond (b || a) was now
  either true true was now = refl
  either true false was now = refl
  either false true was now = refl
  either false false was now = refl

  contains-put_each : (ps : List OldPart) → AllByRecursion (λ (p : OldPart). IsPartOf s p.name p.part) ps → (t : Dots) (q : Dot) →
      set.contains (with_parts ps t) q ≡ cond (is_old ps q.name) (set.contains s q) (set.contains t q)
  contains-put_each [] parts t q = refl
  contains-put_each (p ∷ ps) parts t q =
      contains-put_each ps parts.1 (with_part p.name p.part t) q
      ∙ ap (cond (is_old ps q.name) (set.contains s q)) (contains-put s p.name p.part parts.0 t q)
      ∙ either (is_old ps q.name) (q.name == p.name) (set.contains s q) (set.contains t q)

-- a delivery of `other`, of these names, to a store
module _ (named : ℕ → Bool) (other s : Store) (live : AreSeen s.seen s.entries) (d : Delivered) (h : Destroys named other s d) where
  covered : (q : Dot) → named q.name ≡ true → is_old d.parts q.name ≡ false → set.contains other.seen q ≡ true → set.contains s.seen q ≡ true
  covered q on none there = go (set.contains s.seen q) refl
    where
      go : (b : Bool) → set.contains s.seen q ≡ b → b ≡ true
      go true is = refl
      go false is = absurd (true≢false (sym ((h.parts.names q.name).1 (on, λ all. true≢false (sym (all q.clock there) ∙ is))) ∙ none))

  as_it_was : (old seen there on : Bool) → (on ≡ true → old ≡ false → there ≡ true → seen ≡ true) → cond old seen (seen || (there && on)) ≡ seen
  as_it_was true seen there on cover = refl
  as_it_was false true there on cover = refl
  as_it_was false false false on cover = refl
  as_it_was false false true false cover = refl
  as_it_was false false true true cover = absurd (true≢false (sym (cover refl refl refl)))

  seen_back : with_parts d.parts (merged named other s).seen ≡ s.seen
  seen_back = same_dots _ _ (λ q.
      contains-put_each s.seen d.parts h.parts.parts (merged named other s).seen q
      ∙ ap (cond (is_old d.parts q.name) (set.contains s.seen q)) (contains-union s.seen (of_names named other.seen) q
      ∙ ap (λ b. set.contains s.seen q || b) (contains-retain other.seen (λ d. named d.name) q))
      ∙ as_it_was (is_old d.parts q.name) (set.contains s.seen q) (set.contains other.seen q) (named q.name) (covered q))

  taken_out : without_each d.joined (merged named other s).entries ≡ without_each (fin.keys (departures named other s)) s.entries
  taken_out = ap (λ ds. without_each ds (merged named other s).entries) h.joined
      ∙ ap (without_each (fin.keys (arrivals named other s))) (sym (with_arrivals named other s))
      ∙ put_and_taken (fin.entries (arrivals named other s)) (remaining named other s) (new_arrivals named other s live)
      ∙ sym (without_departures named other s)

  left_are : pairs d.left ≡ picked (fin.keys (departures named other s)) s.entries
  left_are = h.left ∙ sym (picked_retained s.entries (leaves named other))

  pub left_new : AreNew (pairs d.left) (without_each d.joined (merged named other s).entries)
  left_new = rw (left_are, taken_out) (all_picked_new (fin.keys (departures named other s)) s.entries)

  entries_back : with_each (pairs d.left) (without_each d.joined (merged named other s).entries) ≡ s.entries
  entries_back = (λ i. with_each (left_are i) (taken_out i)) ∙ put_all_back (fin.keys (departures named other s)) s.entries

  pub store_back : undelivered d (merged named other s) ≡ s
  store_back = λ i. record { seen = seen_back i; entries = entries_back i }

-- a name that a store forgot
module _ (name : ℕ) (s : Store) (f : Forgotten) (h : Holds name s f) where
  kept_or_own : (own was : Bool) → cond own was (was && not own) ≡ was
  kept_or_own true was = refl
  kept_or_own false true = refl
  kept_or_own false false = refl

  seen_again : with_part name f.part (part (is_other name) s).seen ≡ s.seen
  seen_again = same_dots _ _ (λ q.
      contains-put s.seen name f.part h.part (part (is_other name) s).seen q
      ∙ ap (cond (q.name == name) (set.contains s.seen q)) (contains-retain s.seen (λ d. is_other name d.name) q)
      ∙ kept_or_own (q.name == name) (set.contains s.seen q))

  entries_are : pairs f.entries ≡ picked (fin.keys (entries_of_names (λ n. n == name) s.entries)) s.entries
  entries_are = h.entries ∙ sym (picked_retained s.entries (λ d. d.name == name))

  others_are : (part (is_other name) s).entries ≡ without_each (fin.keys (entries_of_names (λ n. n == name) s.entries)) s.entries
  others_are = sym (without_names (λ n. n == name) s.entries)

  pub entries_new : AreNew (pairs f.entries) (part (is_other name) s).entries
  entries_new = rw (entries_are, others_are) (all_picked_new (fin.keys (entries_of_names (λ n. n == name) s.entries)) s.entries)

  entries_again : with_each (pairs f.entries) (part (is_other name) s).entries ≡ s.entries
  entries_again = (λ i. with_each (entries_are i) (others_are i))
      ∙ put_all_back (fin.keys (entries_of_names (λ n. n == name) s.entries)) s.entries

  pub store_again : remembered name f (part (is_other name) s) ≡ s
  store_again = λ i. record { seen = seen_again i; entries = entries_again i }

-- of replicas

module _ (d : Delivered) (a b : Replica) (h : IsReplica a) (c : IsDelivery d a b) where
  pub undelivered_is : undelivered d b.store ≡ a.store
  undelivered_is = ap (λ (r : Replica). undelivered d r.store) c.gives ∙ store_back (is_other_known a) (store_of c.message) a.store h.live d c.destroyed

  pub undelivered_new : AreNew (pairs d.left) (without_each d.joined b.store.entries)
  undelivered_new =
      subst (λ (r : Replica). AreNew (pairs d.left) (without_each d.joined r.store.entries)) (sym c.gives)
      (left_new (is_other_known a) (store_of c.message) a.store h.live d c.destroyed)

module _ (name : ℕ) (f : Forgotten) (a b : Replica) (c : IsPermdown name f a b) where
  pub remembered_is : remembered name f b.store ≡ a.store
  remembered_is = ap (λ (r : Replica). remembered name f r.store) c.gives ∙ store_again name a.store f c.holds

  pub remembered_new : AreNew (pairs f.entries) b.store.entries
  remembered_new = subst (λ (r : Replica). AreNew (pairs f.entries) r.store.entries) (sym c.gives) (entries_new name a.store f c.holds)
