-- Marks that stand for steps of a run.
use Rattle.std.specs.Prelude.{◌≡◌, List, [], ◌∷◌, slice_get, Option, Some, None}
use Rattle.node_core.specs.Operations.{delivers, sends}
use Rattle.journal_core.specs.Journals.{Kept}
use Rattle.order_core.specs.declared.mark.Mark.{Mark}
use Rattle.order_core.specs.Turns as turns
use Rattle.order_core.specs.Turns.{Reads}

abbrev pub of_mark : Reads Mark
of_mark = record { node = λ m. m.node; delivers = λ m. m.delivers; sends = λ m. m.sends }

-- an order of these marks: at each turn the first mark that can come next; None if marks are left and none can
abbrev pub order_of_marks : List Mark → Option (List Mark)
order_of_marks ms = turns.order_of of_mark ms

-- the mark is that of this step, and has the step's place among all
pub record IsMark (all : List Kept) (m : Mark) (k : Kept) : Type 0 where
  pub node : m.node ≡ k.node
  pub delivers : m.delivers ≡ delivers k.step
  pub sends : m.sends ≡ sends k.step
  pub place : slice_get all m.place ≡ Some k

-- the marks are those of these steps, one by one
abbrev pub AreMarks : List Kept → List Mark → List Kept → Type 0
AreMarks all [] [] = Unit {0}
AreMarks all [] (k ∷ ks) = ⊥
AreMarks all (m ∷ ms) [] = ⊥
AreMarks all (m ∷ ms) (k ∷ ks) = IsMark all m k × AreMarks all ms ks

-- the marks are those of the steps; or there are neither
abbrev pub AreMarksOf : List Kept → Option (List Mark) → Option (List Kept) → Type 0
AreMarksOf all None None = Unit {0}
AreMarksOf all None (Some ks) = ⊥
AreMarksOf all (Some ms) None = ⊥
AreMarksOf all (Some ms) (Some ks) = AreMarks all ms ks
