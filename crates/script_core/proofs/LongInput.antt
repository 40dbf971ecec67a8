-- An input that is longer than a script may be.
use Rattle.std.proofs.Common.{ℕ, List, Option, None, Some, Err, arith}
use Rattle.std.proofs.KnownBytes.{Keeps-refl}
use Rattle.std.proofs.lemmas.Bool.Decides.{nat_tests}
use Rattle.bench_core.specs.Limits.{Limits}
use Rattle.grammar_core.specs.Grammar.{script_of}
use Rattle.grammar_core.specs.declared.fault.FaultKind.TheVariants.{TooLong}
use Rattle.script_core.specs.declared.play_fault.PlayFault.TheVariants as faults
use Rattle.script_core.specs.Play.{EndsAt}
use Rattle.stream_core.specs.Inputs.{IsLonger}

-- an input past the limit has that fault
pub ends_too_long : (known sent : Option (List ℕ)) (limits : Limits) → IsLonger known 1048576 →
    EndsAt known limits (Err (faults.Script (record { line = 0; kind = TooLong }))) sent sent
unfolding script_of
ends_too_long None sent limits h = tt
ends_too_long (Some input) sent limits h = (grind (arith, nat_tests), Keeps-refl sent)
