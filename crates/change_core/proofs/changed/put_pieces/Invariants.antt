use Rattle.std.proofs.Common.{◌≡◌, ◌++◌, take}
use Rattle.std.specs.List.{flat_map}
use Rattle.change_core.specs.Marked.{marks_in}
use Rattle.change_core.proofs.changed.put_pieces.Given as goal

-- those of the first pieces
abbrev pub invariant-loop-from : goal.invariant-loop-from
invariant-loop-from g l = l.marks.items ≡ l.fn.marks.items ++ flat_map (marks_in l.steps) (take l.from-index l.pieces)
