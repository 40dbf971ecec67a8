-- The text of what the network could have done, and why there is none.
use Rattle.std.specs.Prelude.{ℕ, List, Option, None, Some}
use Rattle.bench_core.specs.Machine.{Machine}
use Rattle.command_line.specs.declared.chosen.About.{About as Chosen}
use Rattle.command_line.specs.declared.chosen.About.TheVariants as chosen
use Rattle.command_line.specs.declared.chosen.ExploreOptions.{ExploreOptions}
use Rattle.explore_report.specs.Questions.{TellsOutcomes, IsRun, Refuses, RefusesRun}
use Rattle.explore_report.specs.declared.question.About.{About}
use Rattle.explore_report.specs.declared.question.About.TheVariants as abouts
use Rattle.explore_report.specs.declared.question.Question.{Question}
use Rattle.explore_report.specs.declared.report_fault.ReportFault.{ReportFault}
use Rattle.explore_report.specs.declared.report_fault.ReportFault.TheVariants as reports
use Rattle.program_core.specs.declared.fault.ProgramFault.{ProgramFault}
use Rattle.program_core.specs.declared.fault.ProgramFault.TheVariants as faults

-- what the chosen exploration is about
abbrev pub about_of : Chosen → About
about_of chosen.Cluster = abouts.Cluster
about_of (chosen.Node node) = abouts.Node node
about_of (chosen.Presence question) = abouts.Presence question.node question.topic question.key

-- the question of an exploration
abbrev pub asked_of : ExploreOptions → Question
asked_of asked = record { about = about_of asked.about; lost = asked.lost; again = asked.again; states = asked.states }

-- the text tells the outcomes, or is the run of the outcome with this number
abbrev pub TellsExplored : Machine → Question → Option ℕ → List ℕ → Type 0
TellsExplored m question None text = TellsOutcomes m question text
TellsExplored m question (Some number) text = IsRun m question number text

-- why there is no text of the outcomes, or no run of the outcome with this number
abbrev pub RefusesExplored : Machine → Question → Option ℕ → ReportFault → Type 0
RefusesExplored m question None fault = Refuses m question fault
RefusesExplored m question (Some number) fault = RefusesRun m question number fault

abbrev pub fault_of_explore : ReportFault → ProgramFault
fault_of_explore reports.OutOfMemory = faults.OutOfMemory
fault_of_explore fault = faults.Explore fault
