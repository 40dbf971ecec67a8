-- The text of changes that would have made a difference, and why there is none.
use Rattle.std.specs.Prelude.{ℕ, List, Option, None, Some}
use Rattle.bench_core.specs.Machine.{Machine}
use Rattle.command_line.specs.declared.chosen.Question.{Question as Chosen}
use Rattle.whatif_report.specs.Questions.{TellsChanges, IsRun, Refuses, RefusesRun}
use Rattle.whatif_report.specs.declared.asking.Question.{Question}
use Rattle.whatif_report.specs.declared.whatif_fault.WhatifFault.{WhatifFault}
use Rattle.whatif_report.specs.declared.whatif_fault.WhatifFault.TheVariants as whatifs
use Rattle.program_core.specs.declared.fault.ProgramFault.{ProgramFault}
use Rattle.program_core.specs.declared.fault.ProgramFault.TheVariants as faults

-- the question that was chosen
abbrev pub question_of : Chosen → Question
question_of chosen = record { node = chosen.node; topic = chosen.topic; key = chosen.key }

-- the text tells the changes, or is the run with the change of this number
abbrev pub TellsWhatif : Machine → Chosen → Option ℕ → List ℕ → Type 0
TellsWhatif m question None text = TellsChanges m (question_of question) text
TellsWhatif m question (Some number) text = IsRun m (question_of question) number text

-- why there is no text of the changes, or no run with the change of this number
abbrev pub RefusesWhatif : Machine → Chosen → Option ℕ → WhatifFault → Type 0
RefusesWhatif m question None fault = Refuses m (question_of question) fault
RefusesWhatif m question (Some number) fault = RefusesRun m (question_of question) number fault

abbrev pub fault_of_whatif : WhatifFault → ProgramFault
fault_of_whatif whatifs.OutOfMemory = faults.OutOfMemory
fault_of_whatif fault = faults.Whatif fault
