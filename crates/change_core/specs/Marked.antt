-- The marks of steps, for the code's own use alone.
use Rattle.std.specs.Prelude.{ℕ, suc, List, [], ◌∷◌, length, slice_get, slice_range, Option, Some, None}
use Rattle.std.specs.List.{flat_map}
use Rattle.node_core.specs.Operations.{delivers, sends}
use Rattle.journal_core.specs.Journals.{Kept}
use Rattle.order_core.specs.declared.mark.Mark.{Mark}
use Rattle.change_core.specs.declared.change.Change.{Change}
use Rattle.change_core.specs.Changes.{pieces}

abbrev pub mark_of : ℕ → Kept → Mark
mark_of i k = record { place = i; node = k.node; delivers = delivers k.step; sends = sends k.step }

-- the marks of steps that stand from place i on
abbrev pub marked_from : ℕ → List Kept → List Mark
marked_from i [] = []
marked_from i (k ∷ ks) = mark_of i k ∷ marked_from (suc i) ks

-- the marks of the steps at these places
unfoldable pub marks_in : List Kept → ℕ × ℕ → List Mark
marks_in ks p = marked_from p.0 (slice_range ks p.0 p.1)

-- the marks of the steps with a change
unfoldable pub changed_marks : List Kept → Change → List Mark
changed_marks ks c = flat_map (marks_in ks) (pieces (length ks) c.kind c.place c.beside)

abbrev pub with_step : Option Kept → List Kept → List Kept
with_step None ks = ks
with_step (Some k) ks = k ∷ ks

-- the steps at the places of these marks
unfoldable pub steps_at : List Kept → List Mark → List Kept
steps_at ks [] = []
steps_at ks (m ∷ ms) = with_step (slice_get ks m.place) (steps_at ks ms)
