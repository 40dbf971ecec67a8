-- What a race of a script's lines leaves, and why it is refused.
use Rattle.std.specs.Prelude.{◌≡◌, ℕ, ◌+◌, List, [], length, ⊤, MatchOption, Ok, Err}
use Rattle.bench_core.specs.Acts.{Action}
use Rattle.bench_core.specs.Benches.{IsMachine}
use Rattle.bench_core.specs.Limits.{Limits}
use Rattle.bench_core.specs.Machine.{Machine, config_of, opening_machine}
use Rattle.grammar_core.specs.Grammar.{with_calls}
use Rattle.grammar_core.specs.Scripts.{Script}
use Rattle.receipt_core.specs.Receipts.{Receipt}
use Rattle.receipt_core.specs.Agree.{Agrees}
use Rattle.receipt_core.specs.Races.{IsLate, refusal_of}
use Rattle.receipt_core.specs.Replies.{AreMachineReplies}
use Rattle.receipt_core.specs.declared.race_fault.RaceFault.{RaceFault}
use Rattle.program_core.specs.declared.fault.ProgramFault.{ProgramFault}
use Rattle.program_core.specs.declared.fault.ProgramFault.TheVariants as faults

-- how many actors there are
abbrev pub actors_of : Script → ℕ
actors_of s = length s.cast.nodes + length s.cast.consoles

-- the machine was asked the act lines of the script, each once, in an order that keeps each actor's
pub record IsRaceOf (limits : Limits) (s : Script) (m : Machine) : Type 0 where
  pub lines : List (ℕ × Action)
  pub are_lines : with_calls [] s.lines ≡ Ok lines
  pub names : m.names ≡ s.cast.nodes
  pub limits_are : m.limits ≡ limits
  pub machine : IsMachine m
  pub receipts : List (List Receipt)
  pub agrees : Agrees [] m.state.history lines receipts
  pub replies : AreMachineReplies (config_of m) m.state.history receipts

-- a race of the script's act lines has this fault: before it begins, or later
abbrev pub RefusesLines : Limits → Script → RaceFault → Type 0
RefusesLines limits s fault =
    (lines : List (ℕ × Action)) × (with_calls [] s.lines ≡ Ok lines) ×
    MatchOption (refusal_of (opening_machine s.cast.nodes limits) (actors_of s) lines) (IsLate fault) (λ early. fault ≡ early)

-- a race of the script has this fault: a line is no act line; the race of its act lines has the fault; or memory was refused
abbrev pub RefusesRaceOf : Limits → Script → ProgramFault → Type 0
RefusesRaceOf limits s (faults.Script fault) = with_calls [] s.lines ≡ Err fault
RefusesRaceOf limits s (faults.Race fault) = RefusesLines limits s fault
RefusesRaceOf limits s faults.OutOfMemory = ⊤
RefusesRaceOf limits s fault = ⊥
