use Rattle.std.proofs.Common.{◌≡◌, ℕ, ◌-◌, ◌++◌, List, map}
use Rattle.std.specs.Prelude.{IsUtf8}
use Rattle.json_core.specs.Compact.{AreFirst}
use Rattle.event_core.specs.Format.{whole, numbers_from, numbers_of}
use Rattle.event_core.proofs.front_step.behind_names.Given as goal

-- the numbers that were read, and then those that are left
abbrev pub invariant-loop-number : goal.invariant-loop-number
invariant-loop-number l =
    (read : List ℕ) × (read ++ numbers_from l.names l.number (32 - l.number) ≡ numbers_of l.names) × AreFirst l.initial.rest (map whole read) l.comma l.rest
    × IsUtf8 l.rest
