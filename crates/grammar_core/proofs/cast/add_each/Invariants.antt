use Rattle.std.proofs.Common.{◌≡◌, ◌+◌, ◌≤◌, length, map, drop}
use Rattle.grammar_core.specs.Grammar.{with_each}
use Rattle.grammar_core.proofs.cast.add_each.Given as goal

-- the consoles so far, and then the names that are left
abbrev pub invariant-loop-name : goal.invariant-loop-name
invariant-loop-name g l = record {
  gives : with_each l.nodes l.consoles (map (λ name. name.now) (drop l.name-index l.names)) ≡
      with_each l.nodes l.fn.consoles (map (λ name. name.now) l.names);
  len : length l.consoles ≤ length l.fn.consoles + l.name-index;
}
