use Rattle.std.proofs.Common.{◌≡◌, ◌++◌, drop, length, string_bytes}
use Rattle.std.specs.Prelude.{option_copied}
use Rattle.svg_core.specs.Trees.{text_of}
use Rattle.picture_core.specs.Pictures.{bars_from}
use Rattle.picture_core.proofs.picture.put_bars.Given as goal

-- the bars so far, and then those that are left
abbrev pub invariant-loop-number : goal.invariant-loop-number
invariant-loop-number g l =
    string_bytes l.text ++ text_of (bars_from (option_copied l.bars.asked) (length l.names) l.bars.last l.bars.switches.now l.number (drop l.number l.names)) ≡ string_bytes l.fn.text ++
    text_of (bars_from (option_copied l.bars.asked) (length l.names) l.bars.last l.bars.switches.now 0 l.names)
