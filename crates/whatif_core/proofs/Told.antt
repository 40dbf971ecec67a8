-- Where a change is put that makes a difference.
use Rattle.std.proofs.Common.{◌≡◌, ℕ, zero, suc, ◌+◌, ◌<◌, ◌≤◌, Bool, true, false, if◌then◌else◌, List, [], ◌∷◌, ◌++◌, length, drop, get_or, slice_index_or, slice_set, Some, None, refl, sym, ap, ◌∙◌, subst, add-one, drop-cons, arith}
use Rattle.std.proofs.lemmas.List.{drop_all}
use Rattle.diff_core.specs.Rows.{Row}
use Rattle.change_core.specs.declared.change.Change.{Change}
use Rattle.whatif_core.specs.Differences.{Difference, difference, is_with, place_with, told_too, with_place}

-- the difference at place i is the first that the change is with, and so the list becomes this
pub record IsAt (ds : List Difference) (c : Change) (i : ℕ) (told : List Difference) : Type 0 where
  pub within : i < length ds
  pub puts : (d new : Difference) → d ≡ slice_index_or ds i d → new ≡ with_place d c.beside → slice_set ds i new ≡ told

at_of : (n : ℕ) (ds : List Difference) (c : Change) (rows : List Row) (p : ℕ) → place_with n ds c rows ≡ Some p → (i : ℕ) × ((p ≡ n + i) × IsAt ds c i (told_too ds c rows))
at_of n [] c rows p h = absurd (cc)
at_of n (d ∷ ds) c rows p h = go (is_with d c rows) h (at_of (suc n) ds c rows p)
  where
    here : n ≡ p → (i : ℕ) × ((p ≡ n + i) × IsAt (d ∷ ds) c i (with_place d c.beside ∷ ds))
    here same = (
      zero,
      (
        omega (arith, same),
        record {
          within = omega arith;
          puts = λ e new is put. ap (λ (x : Difference). x ∷ ds) (put ∙ ap (λ (x : Difference). with_place x c.beside) is);
        },
      ),
    )

    there : (i : ℕ) × ((p ≡ suc n + i) × IsAt ds c i (told_too ds c rows)) → (i : ℕ) × ((p ≡ n + i) × IsAt (d ∷ ds) c i (d ∷ told_too ds c rows))
    there a =
        let is = a.1.0 in
        let lt = a.1.1.within in (
          suc a.0,
          (
            omega (arith, is),
            record {
              within = omega (arith, lt);
              puts = λ e new at put. ap (λ (l : List Difference). d ∷ l) (a.1.1.puts e new at put);
            },
          ),
        )

    go : (b : Bool) → (if b then Some n else place_with (suc n) ds c rows) ≡ Some p → (place_with (suc n) ds c rows ≡ Some p → (i : ℕ) × ((p ≡ suc n + i) × IsAt ds c i (told_too ds c rows))) →
        (i : ℕ) × ((p ≡ n + i) × IsAt (d ∷ ds) c i (if b then with_place d c.beside ∷ ds else d ∷ told_too ds c rows))
    go true h more = here (cc)
    go false h more = there (more h)

pub put_at : (ds : List Difference) (c : Change) (rows : List Row) (p : ℕ) → place_with 0 ds c rows ≡ Some p → IsAt ds c p (told_too ds c rows)
put_at ds c rows p h = let a = at_of 0 ds c rows p h in let same : a.0 ≡ p = let is = a.1.0 in omega (arith, is) in subst (λ i. IsAt ds c i (told_too ds c rows)) same a.1.1

pub put_behind : (n : ℕ) (ds : List Difference) (c : Change) (rows : List Row) → place_with n ds c rows ≡ None → told_too ds c rows ≡ ds ++ difference c rows ∷ []
put_behind n [] c rows h = refl
put_behind n (d ∷ ds) c rows h = go (is_with d c rows) h (put_behind (suc n) ds c rows)
  where
    go : (b : Bool) → (if b then Some n else place_with (suc n) ds c rows) ≡ None → (place_with (suc n) ds c rows ≡ None → told_too ds c rows ≡ ds ++ difference c rows ∷ []) →
        (if b then with_place d c.beside ∷ ds else d ∷ told_too ds c rows) ≡ d ∷ (ds ++ difference c rows ∷ [])
    go true h more = absurd (cc)
    go false h more = ap (λ (l : List Difference). d ∷ l) (more h)

-- the first that a change is with, from place to place

from_place : (ds : List Difference) (i : ℕ) (d : Difference) → i < length ds → d ≡ get_or ds i d → drop i ds ≡ d ∷ drop (suc i) ds
from_place ds i d lt at = drop-cons ds i d lt ∙ ap (λ (x : Difference). x ∷ drop (suc i) ds) (sym at)

pub place_passes : (ds : List Difference) (c : Change) (rows : List Row) (i : ℕ) (d : Difference) → i < length ds → d ≡ get_or ds i d → false ≡ is_with d c rows →
    place_with i (drop i ds) c rows ≡ place_with (i + 1) (drop (i + 1) ds) c rows
place_passes ds c rows i d lt at other =
    rw add-one
    (ap (λ l. place_with i l c rows) (from_place ds i d lt at)
    ∙ ap (λ b. if b then Some i else place_with (suc i) (drop (suc i) ds) c rows) (sym other))

pub place_here : (ds : List Difference) (c : Change) (rows : List Row) (i : ℕ) (d : Difference) → i < length ds → d ≡ get_or ds i d → true ≡ is_with d c rows →
    place_with i (drop i ds) c rows ≡ Some i
place_here ds c rows i d lt at same =
    ap (λ l. place_with i l c rows) (from_place ds i d lt at)
    ∙ ap (λ b. if b then Some i else place_with (suc i) (drop (suc i) ds) c rows) (sym same)

pub place_nowhere : (ds : List Difference) (c : Change) (rows : List Row) (i : ℕ) → length ds ≤ i → place_with i (drop i ds) c rows ≡ None
place_nowhere ds c rows i past = ap (λ l. place_with i l c rows) (drop_all i ds past)
