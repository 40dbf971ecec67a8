-- How a step that was taken stands, and what a picture knows of each.
use Rattle.std.specs.Prelude.{ℕ, ◌+◌, Bool, List, [], ◌∷◌, ◌==◌, if◌then◌else◌, length, replicate, slice_get, slice_set, unwrap_or, Option, Some, None}
use Rattle.std.specs.List.{list_any}
use Rattle.journal_core.specs.Journals.{Kept, find_number}
use Rattle.bench_core.specs.Machine.{Event, Machine, State}
use Rattle.bench_core.specs.declared.reply.Reply.{Reply}
use Rattle.bench_core.specs.declared.reply.Reply.TheVariants.{Taken, Undone, Refused}
use Rattle.report_core.specs.ActTexts.{unwound}
use Rattle.picture_core.specs.declared.shade.Drawn.{Drawn}
use Rattle.picture_core.specs.declared.shade.Shade.{Shade}
use Rattle.picture_core.specs.declared.shade.Shade.TheVariants.{Remains, Painted, Undone as TakenBack}

-- the shade of a step, by whether it remains and is painted
abbrev pub unless_undone : Option Kept → Bool → Shade
unless_undone None is_painted = TakenBack
unless_undone (Some step) is_painted = if is_painted then Painted else Remains

unfoldable pub shade_of : List Kept → List ℕ → ℕ → Shade
shade_of remaining painted number = unless_undone (find_number remaining number) (list_any (λ n. n == number) painted)

-- the steps that are painted: those that an unwind of the step would take back, if it remains
abbrev pub painted_of : State → Option ℕ → List ℕ
painted_of s None = []
painted_of s (Some number) = unwound s number

-- what is known of the steps after this reply: the row of the call that took a step, and how the step stands
abbrev pub with_reply : List Kept → List ℕ → ℕ → Reply → List Drawn → List Drawn
with_reply remaining painted row (Taken number) steps =
    slice_set steps number (record { row = row; shade = shade_of remaining painted number })
with_reply remaining painted row (Undone number) steps = steps
with_reply remaining painted row (Refused fault) steps = steps

unfoldable pub noted_from : List Kept → List ℕ → ℕ → List Event → List Drawn → List Drawn
noted_from remaining painted row [] steps = steps
noted_from remaining painted row (e ∷ events) steps =
    noted_from remaining painted (row + 1) events (with_reply remaining painted row e.reply steps)

abbrev pub nothing_drawn : Drawn
nothing_drawn = record { row = 0; shade = TakenBack }

-- what is known of each step, at its number; no step has a greater number than there are calls
unfoldable pub drawn_steps : Machine → List ℕ → List Drawn
drawn_steps m painted =
    noted_from m.state.remaining painted 0 m.state.history (replicate (length m.state.history + 1) nothing_drawn)

abbrev pub step_at : List Drawn → ℕ → Drawn
step_at steps number = unwrap_or (slice_get steps number) nothing_drawn

-- a message is painted if its send and its delivery are, and taken back if its delivery is
abbrev pub of_message : Shade → Shade → Shade
of_message TakenBack sent = TakenBack
of_message Painted Painted = Painted
of_message Painted Remains = Remains
of_message Painted TakenBack = Remains
of_message Remains sent = Remains
