-- Which calls are read back.
use Rattle.std.specs.Prelude.{◌≡◌, ℕ, ◌+◌, ◌<◌, ◌≤◌, [], length, Ok}
use Rattle.std.specs.List.{AllByRecursion}
use Rattle.bench_core.specs.Acts.{Action, Do, Undo, Back}
use Rattle.bench_core.specs.Machine.{Machine}
use Rattle.bench_core.specs.NameList.{Texts}
use Rattle.grammar_core.specs.Casts.{most_consoles, Cast}
use Rattle.grammar_core.specs.Grammar.{longest_script, with_each}
use Rattle.run_core.specs.ReadSteps.{AreNodes, IsNumber, IsWritten}
use Rattle.transcript_core.specs.Scripts.{IsReadBack, cast_of, script_text}

-- a `consoles` line can have these names, beside these nodes; or there are none
pub record AreConsoles (nodes consoles : Texts) : Type 0 where
  pub taken : with_each nodes [] consoles ≡ Ok consoles
  pub few : length consoles ≤ most_consoles

-- a line of a script can ask this call
abbrev pub CanBeAsked : Cast → ℕ → Action → Type 0
CanBeAsked cast actor (Do operation) = (actor < length cast.nodes) × IsWritten cast.nodes operation
CanBeAsked cast actor (Undo number) = (actor < length cast.nodes + length cast.consoles) × IsNumber number
CanBeAsked cast actor (Back node) = (actor < length cast.nodes + length cast.consoles) × (node < length cast.nodes)

-- nodes and consoles have names that a script can have, a line of it can ask each call, and all of it isn't too long
pub record CanBeTold (m : Machine) (consoles : Texts) : Type 0 where
  pub nodes : AreNodes m.names
  pub named : AreConsoles m.names consoles
  pub calls : AllByRecursion (λ e. CanBeAsked (cast_of m consoles) e.actor e.act) m.state.history
  pub short : length (script_text (cast_of m consoles) m.state.history) ≤ longest_script

-- if a bench's calls can be told, their script is read back as these calls
abbrev pub ScriptLaw : Type 0
ScriptLaw = (m : Machine) (consoles : Texts) → CanBeTold m consoles → IsReadBack m (script_text (cast_of m consoles) m.state.history)
