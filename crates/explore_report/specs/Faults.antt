-- The faults of the crates below, as faults of a report.
use Rattle.std.specs.Prelude.{ℕ}
use Rattle.entry_core.specs.declared.word.WordFault.{WordFault}
use Rattle.entry_core.specs.declared.word.WordFault.TheVariants as words
use Rattle.explore_network.specs.declared.explore_fault.ExploreFault.{ExploreFault}
use Rattle.explore_network.specs.declared.explore_fault.ExploreFault.TheVariants as explores
use Rattle.explore_report.specs.declared.report_fault.ReportFault.{ReportFault}
use Rattle.explore_report.specs.declared.report_fault.ReportFault.TheVariants as faults

abbrev pub fault_of_word : WordFault → ReportFault
fault_of_word words.BadWord = faults.NoWord
fault_of_word words.OutOfMemory = faults.OutOfMemory

-- the fault of a walk that may keep this number of states
abbrev pub fault_of_explore : ℕ → ExploreFault → ReportFault
fault_of_explore states (explores.TooManyStates outcomes) = faults.TooManyStates states outcomes
fault_of_explore states explores.MayFill = faults.MayFill
fault_of_explore states explores.TooManySteps = faults.TooManySteps
fault_of_explore states explores.OutOfMemory = faults.OutOfMemory
