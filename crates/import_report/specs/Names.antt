-- The names of the nodes in a script.
use Rattle.std.specs.Prelude.{◌≡◌, ℕ, ◌≤◌, length, take, Result, Ok, Err}
use Rattle.dots_core.specs.Names.{most_names}
use Rattle.bench_core.specs.NameList.{Texts, names_of}
use Rattle.grammar_core.specs.declared.fault.FaultKind.{FaultKind}
use Rattle.grammar_core.specs.Words.{words_of}
use Rattle.grammar_core.specs.Grammar.{node_names}
use Rattle.run_core.specs.ReadSteps.{AreNodes}
use Rattle.import_report.specs.declared.names.TheConstants.{NUMBERED}

-- the names are those of a `nodes` line
pub record AreNames (names : Texts) : Type 0 where
  pub nodes : AreNodes names
  pub valid : names_of names ≡ Ok names
  pub few : length names ≤ most_names

-- `n0`, `n1` ..
abbrev pub numbered_names : ℕ → Texts
numbered_names count = take count (words_of NUMBERED.now)

abbrev pub or_numbered : ℕ → Result Texts FaultKind → Texts
or_numbered count (Ok names) = names
or_numbered count (Err kind) = numbered_names count

-- the nodes keep their names if a `nodes` line can have them all; or else they are named `n0`, `n1` ..
abbrev pub shown_names : Texts → Texts
shown_names nodes = or_numbered (length nodes) (node_names nodes)
