-- The laws of loans and of futures.
use Rattle.std.specs.Prelude.{◌≡◌, ℕ, List, Some, None}
use Rattle.node_core.specs.Inverses.{Inverse}
use Rattle.journal_core.specs.Journals.{Kept, NumbersRise, AreInCausalOrder, find_number}
use Rattle.journal_core.specs.Futures.{Follows, IsFuture, undo_all, without_all}
use Rattle.journal_core.specs.Gathering.{gathered_numbers}
use Rattle.journal_core.specs.Holdings.{Held, find_held, inverse_of, with_inverse, without_held}

pub record LoanLaw : Type 0 where
  -- an inverse that is lent and put back leaves all as before
  pub put_back : (hs : List Held) (n : ℕ) (i : Inverse) → inverse_of (find_held hs n) ≡ Some i →
      with_inverse (with_inverse hs n None) n (Some i) ≡ hs
  -- when a step is taken out, the same steps are left whether its inverse is lent or not
  pub taken_out : (hs : List Held) (n : ℕ) → without_held (with_inverse hs n None) n ≡ without_held hs n

pub record FutureLaw : Type 0 where
  -- in a journal in causal order each number has a future, which is empty if the number's step doesn't remain
  pub some : (ks : List Kept) (n : ℕ) → AreInCausalOrder ks → (numbers : List ℕ) × IsFuture ks n numbers
  -- each number has only one future
  pub one : (ks : List Kept) (n : ℕ) (a b : List ℕ) → IsFuture ks n a → IsFuture ks n b → a ≡ b
  -- the steps of a future can be taken back in turn, and all other steps remain
  pub taken_back : (ks : List Kept) (n : ℕ) (numbers : List ℕ) → AreInCausalOrder ks → IsFuture ks n numbers →
      undo_all ks numbers ≡ Some (without_all ks numbers)
  -- any undos that take a step back take back all that follows from it
  pub least : (ks left : List Kept) (n : ℕ) (undos : List ℕ) → NumbersRise 0 ks → undo_all ks undos ≡ Some left →
      find_number left n ≡ None → (j : ℕ) → Follows ks n j → find_number left j ≡ None

-- what one pass over a journal in order gathers from a step on is the step's future
abbrev pub GatheredLaw : Type 0
GatheredLaw = (ks : List Kept) (n : ℕ) → AreInCausalOrder ks → IsFuture ks n (gathered_numbers ks n)
