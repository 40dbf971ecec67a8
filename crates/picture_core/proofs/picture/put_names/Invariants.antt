use Rattle.std.proofs.Common.{◌≡◌, ◌++◌, drop, length, string_bytes}
use Rattle.svg_core.specs.Trees.{text_of}
use Rattle.picture_core.specs.Pictures.{names_from}
use Rattle.picture_core.proofs.picture.put_names.Given as goal

-- the names so far, and then those that are left
abbrev pub invariant-loop-number : goal.invariant-loop-number
invariant-loop-number g l =
    string_bytes l.text ++ text_of (names_from (length l.names) l.height l.number (drop l.number l.names)) ≡ string_bytes l.fn.text ++
    text_of (names_from (length l.names) l.height 0 l.names)
