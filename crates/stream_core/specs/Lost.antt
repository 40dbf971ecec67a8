-- Whether a write failed.
use Rattle.std.specs.Prelude.{ℕ, Bool, true, Option, None, Some, Result, Ok, Err}

-- whether anything is lost after a call of `write` that took this many bytes, or failed if there is no count; what was lost stays lost
abbrev pub lost_by : Bool → Option ℕ → Bool
lost_by lost None = true
lost_by lost (Some count) = lost

-- whether anything is lost after all bytes were written, or the writing failed; what was lost stays lost
abbrev pub lost_after : {X E : Type 0} → Bool → Result X E → Bool
lost_after lost (Ok x) = lost
lost_after lost (Err e) = true
