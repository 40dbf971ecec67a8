use Rattle.std.proofs.Common.{◌≡◌, ◌++◌, drop, string_bytes}
use Rattle.picture_core.specs.Online.{bar_path, switches_path}
use Rattle.picture_core.proofs.online.bar_path.Given as goal

-- the path so far, and then that of the switches that are left
abbrev pub invariant-loop-switch : goal.invariant-loop-switch
invariant-loop-switch g l =
    string_bytes l.path ++ switches_path l.nodes l.node l.last l.listing (drop l.switch-index l.switches) ≡ bar_path l.nodes l.node l.last l.switches
