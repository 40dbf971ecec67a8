use Rattle.std.proofs.Common.{◌≡◌, ◌-◌, drop, length}
use Rattle.change_core.proofs.playing.common_end.Given as goal

-- the same so far
abbrev pub invariant-loop-count : goal.invariant-loop-count
invariant-loop-count l = drop (length l.places - l.count) l.places ≡ drop (length l.others - l.count) l.others
