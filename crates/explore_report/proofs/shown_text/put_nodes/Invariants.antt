use Rattle.std.proofs.Common.{◌≡◌, ◌++◌, string_bytes}
use Rattle.explore_report.specs.Texts.{nodes_text}
use Rattle.explore_report.proofs.shown_text.put_nodes.Given as goal

-- those of the first nodes
abbrev pub invariant-loop-node : goal.invariant-loop-node
invariant-loop-node g l = string_bytes l.text ≡ string_bytes l.fn.text ++ nodes_text l.names l.cluster l.node
