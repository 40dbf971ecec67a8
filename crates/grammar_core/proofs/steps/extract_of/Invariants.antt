use Rattle.std.proofs.Common.{◌≡◌, map, drop}
use Rattle.std.specs.FinSet as set
use Rattle.grammar_core.specs.Grammar.{with_nodes}
use Rattle.grammar_core.proofs.steps.extract_of.Given as goal

-- the nodes so far, and then the names that are left
abbrev pub invariant-loop-name : goal.invariant-loop-name
invariant-loop-name g l =
    with_nodes l.nodes l.chosen (map (λ name. name.now) (drop l.name-index l.names)) ≡
    with_nodes l.nodes set.empty (map (λ name. name.now) l.names)
