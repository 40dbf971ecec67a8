use Rattle.std.proofs.Common.{◌≡◌, map, drop}
use Rattle.bench_core.specs.NameList.{with_names}
use Rattle.bench_core.proofs.names.add_names.Given as goal

-- the names so far, and then those that are left
abbrev pub invariant-loop-text : goal.invariant-loop-text
invariant-loop-text g l =
    with_names l.names (map (λ text. text.now) (drop l.text-index l.texts)) ≡ with_names l.fn.names (map (λ text. text.now) l.texts)
