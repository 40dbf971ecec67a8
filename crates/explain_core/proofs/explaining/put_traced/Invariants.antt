use Rattle.std.proofs.Common.{◌≡◌, ◌++◌, take, string_bytes}
use Rattle.std.specs.List.{flat_map}
use Rattle.explain_core.specs.Explanations.{traced_text}
use Rattle.explain_core.proofs.explaining.put_traced.Given as goal

-- the presences so far
abbrev pub invariant-loop-next : goal.invariant-loop-next
invariant-loop-next g l = string_bytes l.text ≡ string_bytes l.fn.text ++ flat_map (traced_text l.bench l.node) (take l.next-index l.traced)
