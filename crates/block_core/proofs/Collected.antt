-- A walk over a list of entries that collects those that pass a test.
use Rattle.std.proofs.Common.{◌≡◌, ℕ, ◌+◌, ◌<◌, ◌≤◌, Bool, true, false, cond, List, [], ◌∷◌, ◌++◌, map, length, filter, take}
use Rattle.std.proofs.Common.{slice_get, Option, Some, None, refl, sym, ap, ◌∙◌, arith, take_all}
use Rattle.std.proofs.lemmas.List.{map-append, append-nil}
use Rattle.std.proofs.lemmas.List.Elements.{filter_more}
use Rattle.std.proofs.lemmas.Option.{slice_get_within, get_or_from_slice_get}
use Rattle.std.specs.Option.{option_map}
use Rattle.std.specs.FinMap as fin
use Rattle.std.specs.FinMap.Entries.{where_key, is_sorted-where_key, find-where_key}
use Rattle.dots_core.specs.Dots.{dot_cmp}
use Rattle.dots_core.proofs.Order.{same_of_tied}
use Rattle.block_core.proofs.EntryMaps.{get-retain, same_entries}
use Rattle.dots_core.specs.declared.dot.Dot.{Dot}
use Rattle.entry_core.specs.EntryLists.{pair_of, pairs}
use Rattle.entry_core.specs.Presences.{Presence, Entry, Entries, entry_of}
use Rattle.entry_core.proofs.EntryLists.{slice_get_none}

-- the entry at a place, as a read of it answers
abbrev pub entry_at : List (Dot × Presence) → ℕ → Option Entry
entry_at ps i = option_map (λ (p : Dot × Presence). entry_of p.0 p.1) (slice_get ps i)

pub found : (ps : List (Dot × Presence)) (i : ℕ) (e : Entry) → Some e ≡ entry_at ps i → slice_get ps i ≡ Some (pair_of e)
found ps i e h = go (slice_get ps i) h
  where
    go : (o : Option (Dot × Presence)) → Some e ≡ option_map (λ (p : Dot × Presence). entry_of p.0 p.1) o → o ≡ Some (pair_of e)
    go None h = absurd (cc)
    go (Some p) h = let same : e ≡ entry_of p.0 p.1 = cc in ap (λ e. Some (pair_of e)) (sym same)

-- there is an entry at each place within the list
pub no_gap : (ps : List (Dot × Presence)) (i : ℕ) → None ≡ entry_at ps i → i < length ps → ⊥
no_gap ps i h within = go (slice_get ps i) refl h
  where
    go : (o : Option (Dot × Presence)) → slice_get ps i ≡ o → None ≡ option_map (λ (p : Dot × Presence). entry_of p.0 p.1) o → ⊥
    go None is h = let end = slice_get_none ps i is in omega arith
    go (Some p) is h = absurd (cc)

module _ (test : Dot × Presence → Bool) (ps : List (Dot × Presence)) (i : ℕ) (e : Entry) (at : Some e ≡ entry_at ps i) where
  more : filter test (take (i + 1) ps) ≡ filter test (take i ps) ++ cond (test (pair_of e)) (pair_of e ∷ []) []
  more =
      let here = found ps i e at in
      filter_more test ps i (pair_of e) (slice_get_within ps i (pair_of e) here)
      ∙ ap (λ (p : Dot × Presence). filter test (take i ps) ++ cond (test p) (p ∷ []) []) (get_or_from_slice_get ps i (pair_of e) (pair_of e) here)

  pub passed : test (pair_of e) ≡ true → filter test (take (i + 1) ps) ≡ filter test (take i ps) ++ pair_of e ∷ []
  passed h = more ∙ ap (λ b. filter test (take i ps) ++ cond b (pair_of e ∷ []) []) h

  pub failed : test (pair_of e) ≡ false → filter test (take (i + 1) ps) ≡ filter test (take i ps)
  failed h = more ∙ ap (λ b. filter test (take i ps) ++ cond b (pair_of e ∷ []) []) h ∙ append-nil (filter test (take i ps))

-- the walk at its end, and one place on
module _ (test : Dot × Presence → Bool) (ps : List (Dot × Presence)) where
  pub all_walked : (i : ℕ) → length ps ≤ i → filter test (take i ps) ≡ filter test ps
  all_walked i end = ap (filter test) (take_all i ps end)

  pub pair_collected : (i : ℕ) (e copy : Entry) (items after : List Entry) → Some e ≡ entry_at ps i → test (pair_of e) ≡ true →
      pairs items ≡ filter test (take i ps) → after ≡ items ++ copy ∷ [] → copy ≡ e → pairs after ≡ filter test (take (i + 1) ps)
  pair_collected i e copy items after at passes so_far is copied =
      ap pairs is ∙ map-append pair_of items (copy ∷ []) ∙ ap (λ xs. xs ++ pair_of copy ∷ []) so_far
      ∙ ap (λ e. filter test (take i ps) ++ pair_of e ∷ []) copied ∙ sym (passed test ps i e at passes)

  pub dot_collected : (i : ℕ) (e : Entry) (d : Dot) (items after : List Dot) → Some e ≡ entry_at ps i → test (pair_of e) ≡ true →
      items ≡ map (λ (p : Dot × Presence). p.0) (filter test (take i ps)) → after ≡ items ++ d ∷ [] → d ≡ e.dot →
      after ≡ map (λ (p : Dot × Presence). p.0) (filter test (take (i + 1) ps))
  dot_collected i e d items after at passes so_far is same =
      is ∙ ap (λ ds. ds ++ d ∷ []) so_far ∙ ap (λ d. map (λ (p : Dot × Presence). p.0) (filter test (take i ps)) ++ d ∷ []) same
      ∙ sym (map-append (λ (p : Dot × Presence). p.0) (filter test (take i ps)) (pair_of e ∷ []))
      ∙ ap (map (λ (p : Dot × Presence). p.0)) (sym (passed test ps i e at passes))

-- the test at a dot, as it was answered
pub answered : (test : Dot → Bool) (d : Dot) (e : Entry) (answer b : Bool) → d ≡ e.dot → answer ≡ test d → answer ≡ b → test e.dot ≡ b
answered test d e answer b same asked is = ap test (sym same) ∙ sym asked ∙ is

-- the entries of a part of a map
pub entries-retain : (m : Entries) (p : Dot → Bool) → fin.entries (fin.retain_keys m p) ≡ where_key dot_cmp p (fin.entries m)
entries-retain m p =
    let sorted = is_sorted-where_key dot_cmp p (fin.entries m) (fin.entries_sorted m) in
    ap fin.entries (same_entries (fin.retain_keys m p) (fin.from_sorted (where_key dot_cmp p (fin.entries m))) (λ q.
    get-retain m p q
    ∙ ap (λ o. cond (p q) o None) (fin.get-entries m q)
    ∙ sym (find-where_key dot_cmp p q (same_of_tied p q) (fin.entries m))
    ∙ sym (fin.get-from_sorted dot_cmp (where_key dot_cmp p (fin.entries m)) q sorted)))
    ∙ fin.entries-from_sorted dot_cmp (where_key dot_cmp p (fin.entries m)) sorted
