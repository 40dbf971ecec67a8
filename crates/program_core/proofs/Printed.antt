-- What a text that was written is, for the input that it was made of.
use Rattle.std.proofs.Common.{◌≡◌, ◌≢◌, inl, inr, List, ℕ, Option, None, Some, Result, Ok, Err, IfErr, IfOk, IsOkAnd, OnOk, refl, sym, subst, arith}
use Rattle.std.proofs.lemmas.Bool.Decides.{nat_tests}
use Rattle.std.specs.Io.KnownBytes.{Appends, Keeps}
use Rattle.bench_core.specs.Limits.{Limits}
use Rattle.bench_core.specs.Machine.{Machine}
use Rattle.explain_core.specs.Questions.{IsExplanation, Refuses as RefusesQuestion}
use Rattle.explain_core.specs.declared.ask_fault.AskFault.{AskFault}
use Rattle.explain_core.specs.declared.ask_fault.AskFault.TheVariants as asks
use Rattle.whatif_report.specs.declared.whatif_fault.WhatifFault.{WhatifFault}
use Rattle.whatif_report.specs.declared.whatif_fault.WhatifFault.TheVariants as whatifs
use Rattle.command_line.specs.declared.chosen.Drawing.{Drawing}
use Rattle.command_line.specs.declared.chosen.Question.{Question}
use Rattle.bench_core.specs.NameList.{Texts}
use Rattle.picture_core.specs.Views.{IsPicture, Refuses as RefusesPicture}
use Rattle.picture_core.specs.declared.draw_fault.DrawFault.{DrawFault}
use Rattle.picture_core.specs.declared.draw_fault.DrawFault.TheVariants as draws
use Rattle.grammar_core.specs.Grammar.{script_of}
use Rattle.stream_core.specs.Inputs.{IsLonger}
use Rattle.run_core.specs.Report.{history_text, report_of}
use Rattle.grammar_core.specs.Scripts.{Script}
use Rattle.grammar_core.specs.declared.fault.FaultKind.TheVariants.{TooLong}
use Rattle.command_line.specs.declared.chosen.Form.{Form}
use Rattle.command_line.specs.declared.chosen.Form.TheVariants as forms
use Rattle.command_line.specs.declared.chosen.Subcommand.{Subcommand}
use Rattle.command_line.specs.declared.chosen.Subcommand.TheVariants.{Race, Explore, Step, Draw, Page, Explain, Whatif}
use Rattle.program_core.specs.declared.fault.ProgramFault.{ProgramFault}
use Rattle.program_core.specs.declared.fault.ProgramFault.TheVariants as faults
use Rattle.grammar_core.specs.declared.fault.ScriptFault.{ScriptFault}
use Rattle.command_line.specs.declared.chosen.ExploreOptions.{ExploreOptions}
use Rattle.command_line.specs.declared.chosen.WhatifOptions.{WhatifOptions}
use Rattle.explore_report.specs.declared.report_fault.ReportFault.{ReportFault}
use Rattle.explore_report.specs.declared.report_fault.ReportFault.TheVariants as reports
use Rattle.program_core.specs.Explored.{RefusesExplored, TellsExplored, asked_of, fault_of_explore}
use Rattle.prompt_core.specs.Ends.{Responds, EndsEarly, ReportLaw, printed}
use Rattle.prompt_core.specs.declared.prompt_fault.PromptFault.{PromptFault}
use Rattle.stream_core.specs.Steps.{Steps}
use Rattle.command_line.specs.Help.{language}
use Rattle.program_core.specs.Races.{IsRaceOf}
use Rattle.program_core.specs.Views.{fault_of_draw, page_of, view_of}
use Rattle.program_core.specs.Whatifs.{RefusesWhatif, TellsWhatif, fault_of_whatif}
use Rattle.program_core.specs.Program.{FailsAs, IsBenchAt, IsBenchOf, IsCauseOf, IsRunAt, IsRunOf, IsUnwritten, RefusesBenchAt, fault_of_ask, IsScriptAt, Prints, RefusesScriptAt, Tells, Ends, EndsAt, EndsAsText, EndsSoon, KeepsBefore, TellsMemory, question_of, shown}

-- an input past the limit has that fault
pub too_long : (known : Option (List ℕ)) → IsLonger known 1048576 → RefusesScriptAt known (faults.Script (record { line = 0; kind = TooLong }))
unfolding script_of
too_long None h = tt
too_long (Some input) h = grind (arith, nat_tests)

-- want of memory is no fault of the question what the network could have made
pub explore_memory : (fault : ReportFault) → TellsMemory (fault_of_explore fault)
explore_memory reports.OutOfMemory = tt
explore_memory reports.NoSuchNode = λ e. cc
explore_memory reports.NoWord = λ e. cc
explore_memory (reports.TooManyStates most found) = λ e. cc
explore_memory reports.MayFill = λ e. cc
explore_memory reports.TooManySteps = λ e. cc
explore_memory (reports.NoSuchOutcome there_are) = λ e. cc

-- what holds whatever the outcome is
pub always : (r : Result (Unit {0}) ProgramFault) (X : Type 0) → X → OnOk r X
always (Ok u) X x = x
always (Err fault) X x = tt

-- but for a session the report is what is shown
pub shown_report : (form : Form) (report : List ℕ) (bench : Machine) → form ≢ forms.Session → report ≡ shown form report bench
shown_report forms.Report report bench other = refl
shown_report forms.Steps report bench other = refl
shown_report forms.Script report bench other = refl
shown_report forms.Page report bench other = refl
shown_report forms.Session report bench other = absurd (other refl)

module _ (form : Form) (limits : Limits) (text : List ℕ) (old new : Option (List ℕ)) where
  ends : (command : Subcommand) (input : List ℕ) (r : Result (Unit {0}) ProgramFault) → Prints command form limits input text → Tells command limits input None →
      EndsAsText text r old new → Ends command form limits input r old new
  ends command input (Ok u) p none e = (text, p, e, none)
  ends command input (Err (faults.WriteFault written)) p none e = (text, inl p, e.0, e.1)
  ends command input (Err (faults.Script fault)) p none e = elim e [ ]
  ends command input (Err (faults.Session fault)) p none e = elim e [ ]
  ends command input (Err faults.LongSession) p none e = elim e [ ]
  ends command input (Err (faults.Import fault)) p none e = elim e [ ]
  ends command input (Err faults.LongImport) p none e = elim e [ ]
  ends command input (Err faults.Differs) p none e = elim e [ ]
  ends command input (Err (faults.Race fault)) p none e = elim e [ ]
  ends command input (Err (faults.Explore fault)) p none e = elim e [ ]
  ends command input (Err (faults.Explain fault)) p none e = elim e [ ]
  ends command input (Err (faults.Draw fault)) p none e = elim e [ ]
  ends command input (Err (faults.Whatif fault)) p none e = elim e [ ]
  ends command input (Err (faults.Prompt fault)) p none e = elim e [ ]
  ends command input (Err faults.ReadFault) p none e = elim e [ ]
  ends command input (Err (faults.Transcript fault)) p none e = elim e [ ]
  ends command input (Err (faults.Refused act)) p none e = elim e [ ]
  ends command input (Err faults.OutOfMemory) p none e = elim e [ ]

  pub ends_draw : (drawing : Drawing) (known : Option (List ℕ)) (m : Machine) (consoles : Texts) (r : Result (Unit {0}) ProgramFault) → IsRunAt limits known m consoles →
      IsPicture m consoles (view_of drawing) text → EndsAsText text r old new → EndsAt (Draw drawing) form limits known r old new
  ends_draw drawing None m consoles r k is e = tt
  ends_draw drawing (Some input) m consoles r k is e = ends (Draw drawing) input r (m, consoles, k, is) refl e

  pub ends_page : (known : Option (List ℕ)) (m : Machine) (consoles : Texts) (r : Result (Unit {0}) ProgramFault) → IsRunAt limits known m consoles →
      text ≡ page_of m consoles → EndsAsText text r old new → EndsAt Page form limits known r old new
  ends_page None m consoles r k is e = tt
  ends_page (Some input) m consoles r k is e = ends Page input r (m, consoles, k, is) refl e

  pub ends_explain : (question : Question) (known : Option (List ℕ)) (m : Machine) (r : Result (Unit {0}) ProgramFault) → IsBenchAt limits known m →
      IsExplanation m (question_of question) text → EndsAsText text r old new → EndsAt (Explain question) form limits known r old new
  ends_explain question None m r k told e = tt
  ends_explain question (Some input) m r k told e = ends (Explain question) input r (m, k, told) refl e

  pub ends_whatif : (asked : WhatifOptions) (known : Option (List ℕ)) (m : Machine) (r : Result (Unit {0}) ProgramFault) → IsBenchAt limits known m →
      TellsWhatif m asked.question asked.change text → EndsAsText text r old new → EndsAt (Whatif asked) form limits known r old new
  ends_whatif asked None m r k told e = tt
  ends_whatif asked (Some input) m r k told e = ends (Whatif asked) input r (m, k, told) refl e

  pub ends_race : (known : Option (List ℕ)) (s : Script) (m : Machine) (r : Result (Unit {0}) ProgramFault) → IsScriptAt known s →
      IsRaceOf limits s m → text ≡ shown form (history_text m) m → EndsAsText text r old new → EndsAt Race form limits known r old new
  ends_race None s m r k raced is e = tt
  ends_race (Some input) s m r k raced is e =
      let P : Result Script ScriptFault → Type 0 =
      λ o. IsOkAnd o (λ s. (m : Machine) × IsRaceOf limits s m × (text ≡ shown form (history_text m) m)) in
      ends Race input r (subst P (sym k) (m, raced, is)) refl e

  pub ends_explore : (asked : ExploreOptions) (known : Option (List ℕ)) (m : Machine) (r : Result (Unit {0}) ProgramFault) → IsBenchAt limits known m →
      TellsExplored m (asked_of asked) asked.outcome text → EndsAsText text r old new → EndsAt (Explore asked) form limits known r old new
  ends_explore asked None m r k told e = tt
  ends_explore asked (Some input) m r k told e = ends (Explore asked) input r (m, k, told) refl e

  -- a text that goes out meets no fault but that of a write
  pub keeps_before : (r : Result (Unit {0}) ProgramFault) → EndsAsText text r old new → IfErr r (λ fault. KeepsBefore fault old new)
  keeps_before (Ok u) e = tt
  keeps_before (Err (faults.WriteFault written)) e = tt
  keeps_before (Err (faults.Script fault)) e = elim e [ ]
  keeps_before (Err (faults.Session fault)) e = elim e [ ]
  keeps_before (Err faults.LongSession) e = elim e [ ]
  keeps_before (Err (faults.Import fault)) e = elim e [ ]
  keeps_before (Err faults.LongImport) e = elim e [ ]
  keeps_before (Err faults.Differs) e = elim e [ ]
  keeps_before (Err (faults.Race fault)) e = elim e [ ]
  keeps_before (Err (faults.Explore fault)) e = elim e [ ]
  keeps_before (Err (faults.Explain fault)) e = elim e [ ]
  keeps_before (Err (faults.Draw fault)) e = elim e [ ]
  keeps_before (Err (faults.Whatif fault)) e = elim e [ ]
  keeps_before (Err (faults.Prompt fault)) e = elim e [ ]
  keeps_before (Err faults.ReadFault) e = elim e [ ]
  keeps_before (Err (faults.Transcript fault)) e = elim e [ ]
  keeps_before (Err (faults.Refused act)) e = elim e [ ]
  keeps_before (Err faults.OutOfMemory) e = elim e [ ]

  pub tells_memory : (r : Result (Unit {0}) ProgramFault) → EndsAsText text r old new → IfErr r TellsMemory
  tells_memory (Ok u) e = tt
  tells_memory (Err (faults.WriteFault written)) e = tt
  tells_memory (Err (faults.Script fault)) e = elim e [ ]
  tells_memory (Err (faults.Session fault)) e = elim e [ ]
  tells_memory (Err faults.LongSession) e = elim e [ ]
  tells_memory (Err (faults.Import fault)) e = elim e [ ]
  tells_memory (Err faults.LongImport) e = elim e [ ]
  tells_memory (Err faults.Differs) e = elim e [ ]
  tells_memory (Err (faults.Race fault)) e = elim e [ ]
  tells_memory (Err (faults.Explore fault)) e = elim e [ ]
  tells_memory (Err (faults.Explain fault)) e = elim e [ ]
  tells_memory (Err (faults.Draw fault)) e = elim e [ ]
  tells_memory (Err (faults.Whatif fault)) e = elim e [ ]
  tells_memory (Err (faults.Prompt fault)) e = elim e [ ]
  tells_memory (Err faults.ReadFault) e = elim e [ ]
  tells_memory (Err (faults.Transcript fault)) e = elim e [ ]
  tells_memory (Err (faults.Refused act)) e = elim e [ ]
  tells_memory (Err faults.OutOfMemory) e = elim e [ ]

  -- nor does a read fail then
  pub fails_not : (r : Result (Unit {0}) ProgramFault) (before after : Steps) → EndsAsText text r old new → after.failed ≡ before.failed → FailsAs r before after
  fails_not (Ok u) before after e same = same
  fails_not (Err (faults.WriteFault written)) before after e same = same
  fails_not (Err (faults.Script fault)) before after e same = elim e [ ]
  fails_not (Err (faults.Session fault)) before after e same = elim e [ ]
  fails_not (Err faults.LongSession) before after e same = elim e [ ]
  fails_not (Err (faults.Import fault)) before after e same = elim e [ ]
  fails_not (Err faults.LongImport) before after e same = elim e [ ]
  fails_not (Err faults.Differs) before after e same = elim e [ ]
  fails_not (Err (faults.Race fault)) before after e same = elim e [ ]
  fails_not (Err (faults.Explore fault)) before after e same = elim e [ ]
  fails_not (Err (faults.Explain fault)) before after e same = elim e [ ]
  fails_not (Err (faults.Draw fault)) before after e same = elim e [ ]
  fails_not (Err (faults.Whatif fault)) before after e same = elim e [ ]
  fails_not (Err (faults.Prompt fault)) before after e same = elim e [ ]
  fails_not (Err faults.ReadFault) before after e same = elim e [ ]
  fails_not (Err (faults.Transcript fault)) before after e same = elim e [ ]
  fails_not (Err (faults.Refused act)) before after e same = elim e [ ]
  fails_not (Err faults.OutOfMemory) before after e same = elim e [ ]

-- where no text was written

pub keeps_same : (old : Option (List ℕ)) → Keeps old old
keeps_same None = tt
keeps_same (Some xs) = refl

-- a fault that comes before the writing, and is the input's
pub cause_ends : (command : Subcommand) (form : Form) (limits : Limits) (input : List ℕ) (fault : ProgramFault) (old : Option (List ℕ)) → IsCauseOf command form limits input fault →
    IsUnwritten fault → Ends command form limits input (Err fault) old old
cause_ends command form limits input (faults.Script f) old cause before = (cause, keeps_same old)
cause_ends command form limits input (faults.Session f) old cause before = (cause, keeps_same old)
cause_ends command form limits input faults.LongSession old cause before = (cause, keeps_same old)
cause_ends command form limits input (faults.Import f) old cause before = (cause, keeps_same old)
cause_ends command form limits input faults.LongImport old cause before = (cause, keeps_same old)
cause_ends command form limits input faults.Differs old cause before = absurd before
cause_ends command form limits input (faults.Race f) old cause before = (cause, keeps_same old)
cause_ends command form limits input (faults.Explore f) old cause before = (cause, keeps_same old)
cause_ends command form limits input (faults.Explain f) old cause before = (cause, keeps_same old)
cause_ends command form limits input (faults.Draw f) old cause before = (cause, keeps_same old)
cause_ends command form limits input (faults.Whatif f) old cause before = (cause, keeps_same old)
cause_ends command form limits input faults.ReadFault old cause before = (cause, keeps_same old)
cause_ends command form limits input faults.OutOfMemory old cause before = (cause, keeps_same old)
cause_ends command form limits input (faults.WriteFault written) old cause before = absurd before
cause_ends command form limits input (faults.Prompt f) old cause before = absurd before
cause_ends command form limits input (faults.Transcript f) old cause before = absurd before
cause_ends command form limits input (faults.Refused act) old cause before = absurd before

module _ (form : Form) (limits : Limits) (known old : Option (List ℕ)) where
  pub refused_explain : (question : Question) (fault : ProgramFault) → RefusesBenchAt known fault → IsUnwritten fault → EndsAt (Explain question) form limits known (Err fault) old old
  refused_explain question fault cause before = go known cause
    where
      go : (known : Option (List ℕ)) → RefusesBenchAt known fault → EndsAt (Explain question) form limits known (Err fault) old old
      go None cause = tt
      go (Some input) cause = cause_ends (Explain question) form limits input fault old (inl cause) before

  pub refused_draw : (drawing : Drawing) (fault : ProgramFault) → RefusesBenchAt known fault → IsUnwritten fault → EndsAt (Draw drawing) form limits known (Err fault) old old
  refused_draw drawing fault cause before = go known cause
    where
      go : (known : Option (List ℕ)) → RefusesBenchAt known fault → EndsAt (Draw drawing) form limits known (Err fault) old old
      go None cause = tt
      go (Some input) cause = cause_ends (Draw drawing) form limits input fault old (inl cause) before

  pub refused_page : (fault : ProgramFault) → RefusesBenchAt known fault → IsUnwritten fault → EndsAt Page form limits known (Err fault) old old
  refused_page fault cause before = go known cause
    where
      go : (known : Option (List ℕ)) → RefusesBenchAt known fault → EndsAt Page form limits known (Err fault) old old
      go None cause = tt
      go (Some input) cause = cause_ends Page form limits input fault old cause before

  pub refused_whatif : (asked : WhatifOptions) (fault : ProgramFault) → RefusesBenchAt known fault → IsUnwritten fault →
      EndsAt (Whatif asked) form limits known (Err fault) old old
  refused_whatif asked fault cause before = go known cause
    where
      go : (known : Option (List ℕ)) → RefusesBenchAt known fault → EndsAt (Whatif asked) form limits known (Err fault) old old
      go None cause = tt
      go (Some input) cause = cause_ends (Whatif asked) form limits input fault old (inl cause) before

  pub asked_explain : (question : Question) (m : Machine) (fault : AskFault) → IsBenchAt limits known m → RefusesQuestion m (question_of question) fault →
      EndsAt (Explain question) form limits known (Err (fault_of_ask fault)) old old
  asked_explain question m fault is refused = go known is
    where
      cause : (input : List ℕ) (fault : AskFault) → IsBenchOf limits input m → RefusesQuestion m (question_of question) fault →
          Ends (Explain question) form limits input (Err (fault_of_ask fault)) old old
      cause input asks.OutOfMemory is refused = (inl ((λ e. tt), (λ e. tt)), keeps_same old)
      cause input asks.NoSuchNode is refused = (inr (m, is, refused), keeps_same old)
      cause input asks.NoWord is refused = (inr (m, is, refused), keeps_same old)

      go : (known : Option (List ℕ)) → IsBenchAt limits known m → EndsAt (Explain question) form limits known (Err (fault_of_ask fault)) old old
      go None is = tt
      go (Some input) is = cause input fault is refused

  pub asked_draw : (drawing : Drawing) (m : Machine) (fault : DrawFault) → IsBenchAt limits known m → RefusesPicture m (view_of drawing).of fault →
      EndsAt (Draw drawing) form limits known (Err (fault_of_draw fault)) old old
  asked_draw drawing m fault is refused = go known is
    where
      cause : (input : List ℕ) (fault : DrawFault) → IsBenchOf limits input m → RefusesPicture m (view_of drawing).of fault →
          Ends (Draw drawing) form limits input (Err (fault_of_draw fault)) old old
      cause input draws.OutOfMemory is refused = (inl ((λ e. tt), (λ e. tt)), keeps_same old)
      cause input draws.NoSuchNode is refused = (inr (m, is, refused), keeps_same old)
      cause input draws.NoWord is refused = (inr (m, is, refused), keeps_same old)

      go : (known : Option (List ℕ)) → IsBenchAt limits known m → EndsAt (Draw drawing) form limits known (Err (fault_of_draw fault)) old old
      go None is = tt
      go (Some input) is = cause input fault is refused

  pub asked_whatif : (asked : WhatifOptions) (m : Machine) (fault : WhatifFault) → IsBenchAt limits known m → RefusesWhatif m asked.question asked.change fault →
      EndsAt (Whatif asked) form limits known (Err (fault_of_whatif fault)) old old
  asked_whatif asked m fault is refused = go known is
    where
      cause : (input : List ℕ) (fault : WhatifFault) → IsBenchOf limits input m → RefusesWhatif m asked.question asked.change fault →
          Ends (Whatif asked) form limits input (Err (fault_of_whatif fault)) old old
      cause input whatifs.OutOfMemory is refused = (inl ((λ e. tt), (λ e. tt)), keeps_same old)
      cause input whatifs.NoSuchNode is refused = (inr (m, is, refused), keeps_same old)
      cause input whatifs.NoWord is refused = (inr (m, is, refused), keeps_same old)
      cause input (whatifs.NoSuchChange changes) is refused = (inr (m, is, refused), keeps_same old)

      go : (known : Option (List ℕ)) → IsBenchAt limits known m → EndsAt (Whatif asked) form limits known (Err (fault_of_whatif fault)) old old
      go None is = tt
      go (Some input) is = cause input fault is refused

  pub refused_explore : (asked : ExploreOptions) (fault : ProgramFault) → RefusesBenchAt known fault → IsUnwritten fault →
      EndsAt (Explore asked) form limits known (Err fault) old old
  refused_explore asked fault cause before = go known cause
    where
      go : (known : Option (List ℕ)) → RefusesBenchAt known fault → EndsAt (Explore asked) form limits known (Err fault) old old
      go None cause = tt
      go (Some input) cause = cause_ends (Explore asked) form limits input fault old (inl cause) before

  pub asked_explore : (asked : ExploreOptions) (m : Machine) (fault : ReportFault) → IsBenchAt limits known m →
      RefusesExplored m (asked_of asked) asked.outcome fault → EndsAt (Explore asked) form limits known (Err (fault_of_explore fault)) old old
  asked_explore asked m fault is refused = go known is
    where
      cause : (input : List ℕ) (fault : ReportFault) → IsBenchOf limits input m → RefusesExplored m (asked_of asked) asked.outcome fault →
          Ends (Explore asked) form limits input (Err (fault_of_explore fault)) old old
      cause input reports.OutOfMemory is refused = (inl ((λ e. tt), (λ e. tt)), keeps_same old)
      cause input reports.NoSuchNode is refused = (inr (m, is, refused), keeps_same old)
      cause input reports.NoWord is refused = (inr (m, is, refused), keeps_same old)
      cause input (reports.TooManyStates most found) is refused = (inr (m, is, refused), keeps_same old)
      cause input reports.MayFill is refused = (inr (m, is, refused), keeps_same old)
      cause input reports.TooManySteps is refused = (inr (m, is, refused), keeps_same old)
      cause input (reports.NoSuchOutcome there_are) is refused = (inr (m, is, refused), keeps_same old)

      go : (known : Option (List ℕ)) → IsBenchAt limits known m → EndsAt (Explore asked) form limits known (Err (fault_of_explore fault)) old old
      go None is = tt
      go (Some input) is = cause input fault is refused

-- at a prompt

if_ok_each : (r : Result Script ScriptFault) (P : Script → Type 0) → ((s : Script) → r ≡ Ok s → P s) → IfOk r P
if_ok_each (Ok s) P each = each s refl
if_ok_each (Err fault) P each = tt

pub ends_step : ReportLaw → (form : Form) (limits : Limits) (help : List ℕ) → help ≡ language → (known old new : Option (List ℕ)) →
    Responds help limits known old new → EndsAt Step form limits known (Ok tt) old new
ends_step law form limits help is None old new responded = tt
ends_step law form limits help is (Some input) old new responded = (
  printed language limits input,
  (refl, if_ok_each (script_of input) (λ s. printed language limits input ≡ report_of limits s) (law language limits input)),
  subst (λ (help : List ℕ). Appends old new (printed help limits input)) is responded,
  refl,
)

pub ends_prompt : (form : Form) (limits : Limits) (fault : PromptFault) (known old new : Option (List ℕ)) →
    EndsAt Step form limits known (Err (faults.Prompt fault)) old new
ends_prompt form limits fault None old new = tt
ends_prompt form limits fault (Some input) old new = tt

pub early_prompt : (limits : Limits) (help : List ℕ) → help ≡ language → (fault : PromptFault) (known left old new : Option (List ℕ)) →
    EndsEarly help limits fault known left old new → EndsSoon Step limits (Err (faults.Prompt fault)) known left old new
early_prompt limits help is fault known left old new early =
    subst (λ (help : List ℕ). EndsEarly help limits fault known left old new) is early
