use Rattle.std.proofs.Common.{◌≡◌, ◌++◌, drop, string_bytes}
use Rattle.import_report.specs.Comments.{nodes_comments}
use Rattle.import_report.proofs.comments.put_nodes.Given as goal

-- the comments so far, and then those of the nodes that are left
abbrev pub invariant-loop-number : goal.invariant-loop-number
invariant-loop-number g l =
    string_bytes l.text ++ nodes_comments l.names l.number (drop l.number l.nodes) ≡ string_bytes l.fn.text ++ nodes_comments l.names 0 l.nodes
