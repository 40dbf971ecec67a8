-- A row at most, told of a change.
use Rattle.std.proofs.Common.{◌≡◌, ℕ, zero, suc, ◌≤◌, ◌<◌, ◌+◌, false, List, [], ◌∷◌, length, slice_get, Option, None, Some, is_some, sym, ap, ◌∙◌, refl, arith, append-nil}
use Rattle.std.specs.List.Sorted.{IsSorted}
use Rattle.std.proofs.lemmas.List.Sorted.{IsPermutation-refl}
use Rattle.dots_core.specs.declared.dot.Dot.{Dot}
use Rattle.payload_core.specs.EntryLists.{pairs}
use Rattle.payload_core.specs.Presences.{Entry, Entries}
use Rattle.replica_core.specs.Replicas.{Replica}
use Rattle.replica_core.specs.Changes.{Change, ChangeLeadsSomewhere, back}
use Rattle.replica_core.specs.Moves.{hidden_by, joined_by, left_by, shown_by}
use Rattle.diff_core.specs.ChangedRows.{found_each, given_rows, rows_or, rows_shown, taken_rows}
use Rattle.diff_core.specs.Diffs.{alone}
use Rattle.diff_core.specs.FewRows.{found_if, pair_if, AreRows}
use Rattle.diff_core.specs.declared.few_rows.FewRows.{FewRows}
use Rattle.diff_core.specs.declared.few_rows.FewRows.TheVariants.{Nothing, One, More}
use Rattle.diff_core.specs.Rows.{Row, row_cmp}
use Rattle.diff_core.specs.Sorting.{online_of}
use Rattle.diff_core.proofs.Told.{told_joined, told_left}

pub not_some : (o : Option ℕ) → is_some o ≡ false → o ≡ None
not_some None h = refl
not_some (Some n) h = absurd (cc)

-- a row at most is sorted
none_sorted : IsSorted row_cmp []
none_sorted k d low high = absurd (omega arith)

one_sorted : (row : Row) → IsSorted row_cmp (row ∷ [])
one_sorted row k d low high = absurd (omega arith)

few_are : {X : Type 0} (few : FewRows X) (rows told : List Row) → ((sorted : List Row) → IsSorted row_cmp sorted → sorted ≡ rows → sorted ≡ told) →
    AreRows few rows → AreRows few told
few_are Nothing rows told tells none = sym (tells [] none_sorted (sym none))
few_are (One row) rows told tells one = sym (tells (row ∷ []) (one_sorted row) (sym one))
few_are More rows told tells more = more

module _ {X : Type 0} (few : FewRows X) (change : Change) (b : Replica) (leads : ChangeLeadsSomewhere change b) where
  pub few_left : AreRows few (taken_rows change b) → AreRows few (alone (online_of (back change b)) (online_of b))
  few_left =
      few_are few (taken_rows change b) (alone (online_of (back change b)) (online_of b))
      (λ sorted order is. told_left change b leads sorted sorted (IsPermutation-refl sorted) order is)

  pub few_joined : AreRows few (given_rows change b) → AreRows few (alone (online_of b) (online_of (back change b)))
  few_joined =
      few_are few (given_rows change b) (alone (online_of b) (online_of (back change b)))
      (λ sorted order is. told_joined change b leads sorted sorted (IsPermutation-refl sorted) order is)

-- a list of one at most
pub pairs_of_few : (es : List Entry) → length es ≤ 1 → pair_if (slice_get es 0) ≡ pairs es
pairs_of_few [] few = refl
pairs_of_few (e ∷ []) few = refl
pairs_of_few (e ∷ f ∷ es) few = absurd (omega arith)

pub found_of_few : (ds : List Dot) (m : Entries) → length ds ≤ 1 → found_if (slice_get ds 0) m ≡ found_each ds m
found_of_few [] m few = refl
found_of_few (d ∷ []) m few = sym (append-nil (found_if (Some d) m))
found_of_few (d ∷ e ∷ ds) m few = absurd (omega arith)

-- the rows of a call that put no name up or down
pub taken_few : {X : Type 0} (few : FewRows X) (change : Change) (b : Replica) → hidden_by change ≡ None → length (left_by change) ≤ 1 →
    AreRows few (rows_shown b (pair_if (slice_get (left_by change) 0))) → AreRows few (taken_rows change b)
taken_few few change b none short =
    λ is. rw none (rw (← pairs_of_few (left_by change) short) is)

pub given_few : {X : Type 0} (few : FewRows X) (change : Change) (b : Replica) → shown_by change ≡ None → length (joined_by change b) ≤ 1 →
    AreRows few (rows_shown b (found_if (slice_get (joined_by change b) 0) b.store.entries)) → AreRows few (given_rows change b)
given_few few change b none short =
    λ is. rw none (rw (← found_of_few (joined_by change b) b.store.entries short) is)
