-- The rows of a topic and a key, as far as the dots go that have them.
use Rattle.std.proofs.Common.{◌≡◌, ℕ, ◌==◌, ◌&&◌, Bool, true, false, cond, List, [], ◌∷◌, map, filter, None, refl, sym, ap, ◌∙◌, subst, true≢false}
use Rattle.std.proofs.Math.Bool.{and-false}
use Rattle.std.specs.List.{AllByRecursion}
use Rattle.std.specs.FinMap as fin
use Rattle.std.specs.FinMap.Entries.{where_key}
use Rattle.dots_core.specs.declared.dot.Dot.{Dot}
use Rattle.dots_core.specs.Dots.{dot_cmp}
use Rattle.payload_core.specs.Presences.{Presence}
use Rattle.store_core.specs.Stores.{Store}
use Rattle.block_core.proofs.Collected.{entries-retain}
use Rattle.block_core.proofs.EntryMaps.{get-retain, same_entries}
use Rattle.replica_core.specs.Replicas.{Replica}
use Rattle.diff_core.specs.Rows.{Row, row_of}
use Rattle.diff_core.specs.Online.{is_shown}
use Rattle.network_core.specs.Alike.{StoreAlike, is_compared}
use Rattle.network_core.specs.Rows.{is_row_of, rows_of, AreWanted, RowsLaw}
use Rattle.network_core.proofs.Stores.{beside, cond_both, or_left}

abbrev Pair : Type 0
Pair = Dot × Presence

module _ (q : Pair → Bool) (p : Row → Bool) where
  abbrev listed : List Pair → List Row
  listed es = filter p (map row_of (filter q es))

  first_listed : (e : Pair) (es : List Pair) → listed (e ∷ es) ≡ cond (q e && p (row_of e)) (row_of e ∷ listed es) (listed es)
  first_listed e es = go (q e)
    where
      go : (b : Bool) → filter p (map row_of (cond b (e ∷ filter q es) (filter q es))) ≡ cond (b && p (row_of e)) (row_of e ∷ listed es) (listed es)
      go true = refl
      go false = refl

  kept_listed : (k : Dot → Bool) (es : List Pair) → AllByRecursion (λ (e : Pair). p (row_of e) ≡ true → k e.0 ≡ true) es → listed (where_key dot_cmp k es) ≡ listed es
  kept_listed k [] all = refl
  kept_listed k (e ∷ es) all = go (k e.0) refl (kept_listed k es all.1)
    where
      hidden : (c : Bool) → p (row_of e) ≡ c → k e.0 ≡ false → (q e && p (row_of e)) ≡ false
      hidden true is out = absurd (true≢false (sym (all.0 is) ∙ out))
      hidden false is out = ap (λ b. q e && b) is ∙ and-false (q e)

      go : (a : Bool) → k e.0 ≡ a → listed (where_key dot_cmp k es) ≡ listed es →
          listed (cond a (e ∷ where_key dot_cmp k es) (where_key dot_cmp k es)) ≡ listed (e ∷ es)
      go true is rest =
          first_listed e (where_key dot_cmp k es) ∙ ap (λ (l : List Row). cond (q e && p (row_of e)) (row_of e ∷ l) l) rest ∙ sym (first_listed e es)
      go false is rest =
          rest ∙ sym (first_listed e es ∙ ap (λ b. cond b (row_of e ∷ listed es) (listed es)) (hidden (p (row_of e)) refl is))

all_kept : (wanted : Dot → Bool) (own : ℕ) (p : Row → Bool) (es : List Pair) → AllByRecursion (λ (e : Pair). p (row_of e) ≡ true → wanted e.0 ≡ true) es →
    AllByRecursion (λ (e : Pair). p (row_of e) ≡ true → is_compared wanted own e.0 ≡ true) es
all_kept wanted own p [] all = tt
all_kept wanted own p (e ∷ es) all = (λ h. or_left (wanted e.0) (e.0.name == own) (all.0 h), all_kept wanted own p es all.1)

module _ (wanted : Dot → Bool) (topic key : List ℕ) (r : Replica) where
  abbrev k : Dot → Bool
  k = is_compared wanted r.own

  abbrev rows : Store → List Row
  rows s = listed (is_shown r) (is_row_of topic key) (fin.entries s.entries)

  abbrev kept_rows : Store → List Row
  kept_rows s = listed (is_shown r) (is_row_of topic key) (fin.entries (fin.retain_keys s.entries k))

  one : (s : Store) → AllByRecursion (λ (e : Pair). is_row_of topic key (row_of e) ≡ true → wanted e.0 ≡ true) (fin.entries s.entries) → kept_rows s ≡ rows s
  one s all =
      ap (listed (is_shown r) (is_row_of topic key)) (entries-retain s.entries k)
      ∙ kept_listed (is_shown r) (is_row_of topic key) k (fin.entries s.entries) (all_kept wanted r.own (is_row_of topic key) (fin.entries s.entries) all)

  both : (t : Store) → StoreAlike k r.store t → AreWanted wanted topic key r → AreWanted wanted topic key (beside r t) → rows_of topic key r ≡ rows_of topic key (beside r t)
  both t a here there = sym (one r.store here)
      ∙ ap (λ es. listed (is_shown r) (is_row_of topic key) (fin.entries es)) (same_entries _ _ (λ q. get-retain r.store.entries k q
      ∙ sym (cond_both (k q) (fin.get t.entries q) (fin.get r.store.entries q) None (a.entries q)) ∙ sym (get-retain t.entries k q)))
      ∙ one t there

pub rows_hold : RowsLaw
rows_hold wanted topic key r s a here there =
    both wanted topic key r a.store a.alike here (subst (AreWanted wanted topic key) a.is there) ∙ ap (rows_of topic key) (sym a.is)
