use Rattle.std.proofs.Common.{◌≡◌, drop}
use Rattle.picture_core.specs.Shades.{drawn_steps, noted_from}
use Rattle.picture_core.proofs.shade.drawn_steps.Given as goal

-- the calls that are left, noted from here on
abbrev pub invariant-loop-place : goal.invariant-loop-place
invariant-loop-place g l =
    noted_from l.bench.state.remaining l.painted l.place (drop l.place l.bench.state.history) l.steps.items ≡ drawn_steps l.bench l.painted
