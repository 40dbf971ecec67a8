use Rattle.std.proofs.Common.{◌≡◌, ◌++◌, drop, length, string_bytes}
use Rattle.svg_core.specs.Trees.{text_of}
use Rattle.picture_core.specs.Pictures.{lanes_from}
use Rattle.picture_core.proofs.picture.put_lanes.Given as goal

-- the lanes so far, and then those that are left
abbrev pub invariant-loop-number : goal.invariant-loop-number
invariant-loop-number g l =
    string_bytes l.text ++ text_of (lanes_from l.range (length l.names) l.number (drop l.number l.names)) ≡ string_bytes l.fn.text ++
    text_of (lanes_from l.range (length l.names) 0 l.names)
