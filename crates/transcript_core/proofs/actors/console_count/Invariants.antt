use Rattle.std.proofs.Common.{◌≡◌, drop}
use Rattle.std.specs.List.{fold}
use Rattle.transcript_core.specs.Actors.{console_count, with_actor}
use Rattle.transcript_core.proofs.actors.console_count.Given as goal

-- the calls that are left, counted from here on
abbrev pub invariant-loop-place : goal.invariant-loop-place
invariant-loop-place g l = fold (λ count e. with_actor l.nodes count e.actor) l.count (drop l.place l.history) ≡ console_count l.nodes l.history
