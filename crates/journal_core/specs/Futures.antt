-- The future of a step: the step, its direct consequences, theirs, and so on; and undos one after another (Danos and Krivine).
use Rattle.std.specs.Prelude.{◌≡◌, ◌↔◌, ℕ, ◌<◌, ◌==◌, ◌&&◌, true, if◌then◌else◌, List, [], ◌∷◌, Option, Some, None, is_some, is_none}
use Rattle.std.specs.List.{list_any}
use Rattle.journal_core.specs.Journals.{Kept, find_number, first_consequence, is_consequence, without}

-- step n, if it remains, its direct consequences, theirs, and so on
pub data Follows (ks : List Kept) (n : ℕ) : ℕ → Type 0 where
  Itself : (k : Kept) → find_number ks n ≡ Some k → Follows ks n n
  Next : (k j : Kept) → Follows ks n k.number → find_number ks k.number ≡ Some k → find_number ks j.number ≡ Some j →
      is_consequence ks k j ≡ true → Follows ks n j.number

-- the numbers fall strictly, and the first is below n
abbrev pub FallsBelow : ℕ → List ℕ → Type 0
FallsBelow n [] = Unit {0}
FallsBelow n (m ∷ ms) = (m < n) × FallsBelow m ms

-- the numbers fall strictly
abbrev pub Falls : List ℕ → Type 0
Falls [] = Unit {0}
Falls (n ∷ ns) = FallsBelow n ns

-- the numbers of step n and of all that follows from it, greatest first; none if step n doesn't remain. There is no other such list
pub record IsFuture (ks : List Kept) (n : ℕ) (numbers : List ℕ) : Type 0 where
  -- a number is in the list if and only if its step follows
  pub follows : (j : ℕ) → (list_any (λ m. m == j) numbers ≡ true) ↔ Follows ks n j
  -- greatest first, and none twice
  pub falls : Falls numbers

-- the journal after these steps were taken back in turn; `None` if one of them, at its turn, doesn't remain or has a consequence
abbrev pub undo_all : List Kept → List ℕ → Option (List Kept)
undo_all ks [] = Some ks
undo_all ks (n ∷ ns) = if is_some (find_number ks n) && is_none (first_consequence ks n) then undo_all (without ks n) ns else None

-- the journal without these steps
abbrev pub without_all : List Kept → List ℕ → List Kept
without_all ks [] = ks
without_all ks (n ∷ ns) = without_all (without ks n) ns
