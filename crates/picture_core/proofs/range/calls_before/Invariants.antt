use Rattle.std.proofs.Common.{◌≡◌, ◌+◌, drop}
use Rattle.picture_core.specs.Pictures.{calls_before}
use Rattle.picture_core.proofs.range.calls_before.Given as goal

-- those passed so far, and those that are left
abbrev pub invariant-loop-place : goal.invariant-loop-place
invariant-loop-place g l =
    l.place + calls_before l.beyond l.number (drop l.place l.history) ≡ calls_before l.beyond l.number l.history
