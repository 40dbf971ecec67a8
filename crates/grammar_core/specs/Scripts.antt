-- A script: who may act, and what its lines ask of a bench, without the memory that the words lie in.
use Rattle.std.specs.Prelude.{ℕ, List, map}
use Rattle.bench_core.specs.Acts.{Action, plain_act}
use Rattle.grammar_core.specs.Casts.{Cast}
use Rattle.grammar_core.specs.declared.command.Command.{Command as DeclaredCommand}
use Rattle.grammar_core.specs.declared.command.Command.TheVariants as commands
use Rattle.grammar_core.specs.declared.script.Line.{Line as DeclaredLine}
use Rattle.grammar_core.specs.declared.script.Script.{Script as DeclaredScript}

-- what a line asks for: an act of an actor; the undo of a step with all that follows from it; the online list of a node; the statuses,
-- clocks and clouds at a node; the future of a step; the kept steps
pub data Command : Type 0 where
  Call : (actor : ℕ) (act : Action) → Command
  Unwind : (actor number : ℕ) → Command
  Show : (node : ℕ) → Command
  Dots : (node : ℕ) → Command
  Why : (number : ℕ) → Command
  Journal : Command

abbrev pub plain_command : {X : Type 0} → DeclaredCommand X → Command
plain_command (commands.Call actor act) = Call actor (plain_act act)
plain_command (commands.Unwind actor number) = Unwind actor number
plain_command (commands.Show node) = Show node
plain_command (commands.Dots node) = Dots node
plain_command (commands.Why number) = Why number
plain_command commands.Journal = Journal

-- a command with the number of its line
pub record Line : Type 0 where
  pub number : ℕ
  pub command : Command

abbrev pub plain_line : {X : Type 0} → DeclaredLine X → Line
plain_line line = record { number = line.number; command = plain_command line.command }

abbrev pub plain_lines : {X : Type 0} → List (DeclaredLine X) → List Line
plain_lines lines = map plain_line lines

pub record Script : Type 0 where
  pub cast : Cast
  pub lines : List Line

abbrev pub plain_script : {X : Type 0} → DeclaredScript X → Script
plain_script script = record { cast = script.cast; lines = plain_lines script.lines.items }
