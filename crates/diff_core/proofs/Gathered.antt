-- Walks that gather rows.
use Rattle.std.proofs.Common.{◌≡◌, ℕ, zero, suc, ◌+◌, ◌<◌, ◌≤◌, List, [], ◌∷◌, ◌++◌, map, filter, drop, length, slice_get, Option, Some, None}
use Rattle.std.proofs.Common.{refl, sym, ap, ◌∙◌, arith, append_assoc}
use Rattle.std.proofs.lemmas.List.{append-nil, drop_all, map-append}
use Rattle.std.proofs.lemmas.List.Elements.{filter-append}
use Rattle.std.specs.Option.{option_map}
use Rattle.dots_core.specs.declared.dot.Dot.{Dot}
use Rattle.std.specs.FinMap as fin
use Rattle.payload_core.specs.Presences.{Presence, Entry, Entries, entry_of}
use Rattle.payload_core.specs.EntryLists.{pair_of}
use Rattle.store_core.specs.EntryMoves.{found_at}
use Rattle.replica_core.specs.Replicas.{Replica}
use Rattle.diff_core.specs.Rows.{Row, row_of}
use Rattle.diff_core.specs.Online.{is_shown}
use Rattle.diff_core.specs.ChangedRows.{rows_shown}

both_shown : (r : Replica) (es fs : List (Dot × Presence)) → rows_shown r (es ++ fs) ≡ rows_shown r es ++ rows_shown r fs
both_shown r es fs = ap (map row_of) (filter-append (is_shown r) es fs) ∙ map-append row_of (filter (is_shown r) es) (filter (is_shown r) fs)

-- what a read at a place gave is the next thing
pub next_got : {X : Type 0} (xs : List X) (i : ℕ) (x : X) → Some x ≡ slice_get xs i → drop i xs ≡ x ∷ drop (i + 1) xs
next_got xs i x got = let e : suc i ≡ i + 1 = omega arith in go xs i x got ∙ ap (λ n. x ∷ drop n xs) e
  where
    go : {X : Type 0} (xs : List X) (i : ℕ) (x : X) → Some x ≡ slice_get xs i → drop i xs ≡ x ∷ drop (suc i) xs
    go [] i x got = absurd (cc)
    go (y ∷ ys) zero x got = let same : x ≡ y = cc in ap (λ z. z ∷ ys) (sym same)
    go (y ∷ ys) (suc i) x got = go ys i x got

-- a read within a list gives something
pub none_got : {X : Type 0} (xs : List X) (i : ℕ) → None ≡ slice_get xs i → i < length xs → ⊥
none_got [] i none within = omega arith
none_got (x ∷ xs) zero none within = absurd (cc)
none_got (x ∷ xs) (suc i) none within = none_got xs i none (omega arith)

-- one thing on, where each thing of a list stands for some entries
pub one_on : {X : Type 0} (r : Replica) (all : List X → List (Dot × Presence)) (of : X → List (Dot × Presence)) →
    ((x : X) (xs : List X) → all (x ∷ xs) ≡ of x ++ all xs) → (xs : List X) (i : ℕ) (x : X) (done after whole : List Row) →
    drop i xs ≡ x ∷ drop (i + 1) xs → after ≡ done ++ rows_shown r (of x) → done ++ rows_shown r (all (drop i xs)) ≡ whole →
    after ++ rows_shown r (all (drop (i + 1) xs)) ≡ whole
one_on r all of cons xs i x done after whole front is so_far =
    ap (λ rs. rs ++ rows_shown r (all (drop (i + 1) xs))) is
    ∙ append_assoc done (rows_shown r (of x)) (rows_shown r (all (drop (i + 1) xs)))
    ∙ ap (λ rs. done ++ rs) (sym (ap (λ l. rows_shown r (all l)) front ∙ ap (rows_shown r) (cons x (drop (i + 1) xs))
    ∙ both_shown r (of x) (all (drop (i + 1) xs))))
    ∙ so_far

-- nothing is left of the list
pub all_on : {X : Type 0} (r : Replica) (all : List X → List (Dot × Presence)) → all [] ≡ [] → (xs : List X) (i : ℕ) (done whole : List Row) →
    length xs ≤ i → done ++ rows_shown r (all (drop i xs)) ≡ whole → done ≡ whole
all_on r all none xs i done whole end so_far =
    sym (append-nil done) ∙ ap (λ ps. done ++ rows_shown r ps) (sym (ap all (drop_all i xs end) ∙ none)) ∙ so_far

-- what stands at a dot, as a read answers

pub found_some : (d : Dot) (o : Option Presence) (e : Entry) → Some e ≡ option_map (entry_of d) o → found_at d o ≡ pair_of e ∷ []
found_some d None e h = absurd (cc)
found_some d (Some p) e h = let same : e ≡ entry_of d p = cc in ap (λ e. pair_of e ∷ []) (sym same)

pub found_none : (d : Dot) (o : Option Presence) → None ≡ option_map (entry_of d) o → found_at d o ≡ []
found_none d None h = refl
found_none d (Some p) h = absurd (cc)

-- what a read at a dot gave, put last
module _ (r : Replica) (m : Entries) (d : Dot) (done : List Row) (same : m ≡ r.store.entries) where
  pub some_put : (e : Entry) (after : List Row) → Some e ≡ option_map (entry_of d) (fin.get m d) → after ≡ done ++ rows_shown r (pair_of e ∷ []) →
      after ≡ done ++ rows_shown r (found_at d (fin.get r.store.entries d))
  some_put e after at is =
      is ∙ ap (λ ps. done ++ rows_shown r ps) (sym (found_some d (fin.get r.store.entries d) e
      (at ∙ ap (λ (m : Entries). option_map (entry_of d) (fin.get m d)) same)))

  pub none_put : None ≡ option_map (entry_of d) (fin.get m d) → done ≡ done ++ rows_shown r (found_at d (fin.get r.store.entries d))
  none_put at =
      sym (append-nil done) ∙ ap (λ ps. done ++ rows_shown r ps) (sym (found_none d (fin.get r.store.entries d)
      (at ∙ ap (λ (m : Entries). option_map (entry_of d) (fin.get m d)) same)))
