-- A run as a script that plays it, and which runs are read back.
use Rattle.std.specs.Prelude.{◌≡◌, ℕ, ◌<◌, ◌≤◌, List, [], ◌++◌, length, map, codes, Ok}
use Rattle.std.specs.List.{AllByRecursion, flat_map}
use Rattle.journal_core.specs.Journals.{Kept}
use Rattle.bench_core.specs.Acts.{Do}
use Rattle.bench_core.specs.NameList.{Texts}
use Rattle.grammar_core.specs.Grammar.{longest_script, script_of}
use Rattle.grammar_core.specs.Scripts.{Call, Command, Script}
use Rattle.report_core.specs.StepText.{act_line}
use Rattle.run_core.specs.ReadSteps.{AreNodes, IsWritten}
use Rattle.run_core.specs.Report.{commands_of}
use Rattle.transcript_core.specs.Scripts.{spaced_names}

-- `nodes NAME ..` after the indent
unfoldable pub nodes_line : List ℕ → Texts → List ℕ
nodes_line indent names = indent ++ codes "nodes" ++ spaced_names names ++ codes "\n"

-- the step as a line
unfoldable pub step_line : List ℕ → Texts → Kept → List ℕ
step_line indent names k = indent ++ act_line names k.node k.step ++ codes "\n"

-- a line for each
unfoldable pub step_lines : List ℕ → Texts → List Kept → List ℕ
step_lines indent names ks = flat_map (step_line indent names) ks

-- the run: its nodes, and each step on a line
unfoldable pub run_text : List ℕ → Texts → List Kept → List ℕ
run_text indent names ks = nodes_line indent names ++ step_lines indent names ks

-- the steps, as what a script asks
abbrev pub steps_asked : List Kept → List Command
steps_asked ks = map (λ k. Call k.node (Do k.step)) ks

-- the text is read as a script that asks these steps, with these nodes
pub record IsReadAsRun (names : Texts) (ks : List Kept) (text : List ℕ) : Type 0 where
  pub script : Script
  pub read : script_of text ≡ Ok script
  pub nodes : script.cast.nodes ≡ names
  pub steps : commands_of script.lines ≡ steps_asked ks

-- the nodes have names that a script can have, a line of it can ask each step, and all of it isn't too long
pub record CanBePlayed (names : Texts) (ks : List Kept) : Type 0 where
  pub nodes : AreNodes names
  pub steps : AllByRecursion (λ k. (k.node < length names) × IsWritten names k.step) ks
  pub short : length (run_text [] names ks) ≤ longest_script

-- if a run can be played, its script is read back as its steps
abbrev pub RunLaw : Type 0
RunLaw = (names : Texts) (ks : List Kept) → CanBePlayed names ks → IsReadAsRun names ks (run_text [] names ks)
