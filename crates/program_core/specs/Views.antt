-- A run as something to look at: a picture, or a page.
use Rattle.std.specs.Prelude.{ℕ, List, [], codes, if◌then◌else◌, Option, None, Some, option_map}
use Rattle.std.specs.Str.{bytes_eq}
use Rattle.bench_core.specs.Machine.{Machine}
use Rattle.bench_core.specs.NameList.{Texts}
use Rattle.command_line.specs.declared.chosen.Drawing.{Drawing}
use Rattle.command_line.specs.declared.chosen.Question.{Question}
use Rattle.page_core.specs.Page.{page_text}
use Rattle.page_data.specs.PageData.{data_with, page_data}
use Rattle.picture_core.specs.declared.draw_fault.DrawFault.{DrawFault}
use Rattle.picture_core.specs.declared.draw_fault.DrawFault.TheVariants as draws
use Rattle.picture_core.specs.declared.view.Presence.{Presence}
use Rattle.picture_core.specs.Views.{whole_picture}
use Rattle.picture_core.specs.declared.view.View.{View}
use Rattle.transcript_core.specs.Steps.{bench_steps}
use Rattle.program_core.specs.declared.fault.ProgramFault.{ProgramFault}
use Rattle.program_core.specs.declared.fault.ProgramFault.TheVariants as faults

-- presences at the node of this name, or at each node if it is `-`
abbrev pub presence_of : Question → Presence
presence_of question =
    record {
      node = if bytes_eq question.node.now (codes "-") then None else Some question.node;
      topic = question.topic;
      key = question.key;
    }

-- what was chosen to be drawn
abbrev pub view_of : Drawing → View
view_of drawing = record { why = drawing.why; from = drawing.from; to = drawing.to; of = option_map presence_of drawing.online }

abbrev pub fault_of_draw : DrawFault → ProgramFault
fault_of_draw draws.OutOfMemory = faults.OutOfMemory
fault_of_draw fault = faults.Draw fault

-- the page of a run with this data: where a browser runs no scripts, it shows the picture, and the report with each call above what it
-- printed
abbrev pub page_around : Machine → Texts → List ℕ → List ℕ
page_around m consoles run = page_text (whole_picture m consoles) (bench_steps m consoles) run

abbrev pub page_of : Machine → Texts → List ℕ
page_of m consoles = page_around m consoles (page_data m consoles)

-- the page of a run without consoles, with further keys in its data
abbrev pub page_with : Machine → List ℕ → List ℕ
page_with m keys = page_around m [] (data_with m [] keys)
