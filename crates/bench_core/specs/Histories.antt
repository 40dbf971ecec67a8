-- The recorded calls: with one more, with another reply to the last, and without the last.
use Rattle.std.specs.Prelude.{◌≡◌, ℕ, List, [], ◌∷◌, ◌++◌}
use Rattle.bench_core.specs.declared.reply.Reply.{Reply}
use Rattle.bench_core.specs.Acts.{Action}
use Rattle.bench_core.specs.Machine.{Event}

-- the history and one more call
abbrev pub note : ℕ → Action → Reply → List Event → List Event
note actor act reply h = h ++ record { actor = actor; act = act; reply = reply } ∷ []

-- if there was a last call, the history is as before, but with this reply to that call
abbrev pub IsAnswered : Reply → List Event → List Event → Type 0
IsAnswered reply before after =
    (actor : ℕ) (act : Action) (other : Reply) (h : List Event) → before ≡ note actor act other h → after ≡ note actor act reply h

-- if there was a last call, the history is as before, without that call
abbrev pub IsForgotten : List Event → List Event → Type 0
IsForgotten before after = (actor : ℕ) (act : Action) (reply : Reply) (h : List Event) → before ≡ note actor act reply h → after ≡ h
