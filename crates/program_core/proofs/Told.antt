-- What is told beside the output, where the input is a terminal or not.
use Rattle.std.proofs.Common.{◌≡◌, ◌≢◌, ◌⊎◌, inl, inr, ℕ, Bool, true, false, List, Option, None, Some, Result, Ok, Err, refl, subst, sym, arith}
use Rattle.std.specs.Io.KnownBytes.{Keeps}
use Rattle.bench_core.specs.Limits.{Limits}
use Rattle.clap.specs.declared.error.kind.ErrorKind.{ErrorKind}
use Rattle.command_line.specs.Line.{IsRefusal}
use Rattle.command_line.specs.declared.chosen.Form.{Form}
use Rattle.command_line.specs.declared.chosen.Subcommand.{Subcommand}
use Rattle.command_line.specs.declared.chosen.Subcommand.TheVariants.{Play, Race, Load, Import, Explore, Step, Draw, Page, Explain, Whatif}
use Rattle.explain_core.specs.declared.ask_fault.AskFault.TheVariants as asks
use Rattle.explore_report.specs.declared.report_fault.ReportFault.TheVariants as reports
use Rattle.picture_core.specs.declared.draw_fault.DrawFault.TheVariants as draws
use Rattle.prompt_core.specs.declared.prompt_fault.PromptFault.TheVariants as prompts
use Rattle.receipt_core.specs.declared.race_fault.RaceFault.TheVariants as races
use Rattle.transcript_core.specs.declared.fault.TranscriptFault.TheVariants as transcripts
use Rattle.whatif_report.specs.declared.whatif_fault.WhatifFault.TheVariants as whatifs
use Rattle.program_core.specs.declared.fault.ProgramFault.{ProgramFault}
use Rattle.program_core.specs.declared.fault.ProgramFault.TheVariants as faults
use Rattle.program_core.specs.declared.fault.Refused.{Refused}
use Rattle.program_core.specs.Program.{Announces, EndsAt, IsEarly, IsEnd, IsFine, TellsAsChosen, TellsAside, TellsBehind, TellsBeside, TellsInput, TellsOn, TellsWhole, status_of}

pub announces : (command : Subcommand) (old new : Option (List ℕ)) → command ≢ Step → TellsInput command old new → Announces true command old new
announces (Play strict) old new other told = told
announces Race old new other told = told
announces (Load strict) old new other told = told
announces (Import wanted) old new other told = told
announces (Explore asked) old new other told = told
announces Step old new other told = absurd (other refl)
announces (Draw drawing) old new other told = told
announces Page old new other told = told
announces (Explain question) old new other told = told
announces (Whatif asked) old new other told = told

pub beside : (terminal : Bool) (limits : Limits) (command : Subcommand) (form : Form) (input old middle new : Option (List ℕ)) → Announces terminal command old middle →
    TellsOn terminal limits command form input middle new → TellsBeside terminal limits command form input old new
beside false limits command form input old middle new same told = plain command told
  where
    plain : (c : Subcommand) → TellsOn false limits c form input middle new → TellsAside c form limits input old new
    plain (Play strict) t = subst (λ (o : Option (List ℕ)). TellsAside (Play strict) form limits input o new) same t
    plain Race t = subst (λ (o : Option (List ℕ)). TellsAside Race form limits input o new) same t
    plain (Load strict) t = subst (λ (o : Option (List ℕ)). TellsAside (Load strict) form limits input o new) same t
    plain (Import wanted) t = subst (λ (o : Option (List ℕ)). TellsAside (Import wanted) form limits input o new) same t
    plain (Explore asked) t =
        subst (λ (o : Option (List ℕ)). TellsAside (Explore asked) form limits input o new) same t
    plain Step t = subst (λ (o : Option (List ℕ)). TellsAside Step form limits input o new) same t
    plain (Draw drawing) t = subst (λ (o : Option (List ℕ)). TellsAside (Draw drawing) form limits input o new) same t
    plain Page t = subst (λ (o : Option (List ℕ)). TellsAside Page form limits input o new) same t
    plain (Explain question) t = subst (λ (o : Option (List ℕ)). TellsAside (Explain question) form limits input o new) same t
    plain (Whatif asked) t = subst (λ (o : Option (List ℕ)). TellsAside (Whatif asked) form limits input o new) same t
beside true limits (Play strict) form input old middle new announced told = (middle, announced, told)
beside true limits Race form input old middle new announced told = (middle, announced, told)
beside true limits (Load strict) form input old middle new announced told = (middle, announced, told)
beside true limits (Import wanted) form input old middle new announced told = (middle, announced, told)
beside true limits (Explore asked) form input old middle new announced told = (middle, announced, told)
beside true limits Step form input old middle new same told = subst (λ (o : Option (List ℕ)). TellsBeside true limits Step form input o new) same told
beside true limits (Draw drawing) form input old middle new announced told = (middle, announced, told)
beside true limits Page form input old middle new announced told = (middle, announced, told)
beside true limits (Explain question) form input old middle new announced told = (middle, announced, told)
beside true limits (Whatif asked) form input old middle new announced told = (middle, announced, told)

-- what is told behind the line that announces

pub behind : (terminal : Bool) (limits : Limits) (command : Subcommand) (form : Form) (input old middle new : Option (List ℕ)) (lost : Bool)
    (outcome : Result (Unit {0}) ProgramFault) → Announces terminal command old middle → (IsEarly outcome ⊎ TellsWhole command form limits input lost middle new) →
    IsEarly outcome ⊎ TellsBehind terminal limits command form input lost old new
behind terminal limits command form input old middle new lost outcome announced (inl early) = inl early
behind terminal limits command form input old middle new lost outcome announced (inr told) = inr (middle, announced, told)

-- a status that isn't of an end
not_end : (status : ℕ) → status ≢ 0 → status ≢ 6 → IsEnd status → ⊥
not_end status some other (inl is) = some is
not_end status some other (inr is) = other is

-- an outcome with the status of an end came late
pub ends_late : (outcome : Result (Unit {0}) ProgramFault) → IsEnd (status_of outcome) → IsEarly outcome → ⊥
ends_late (Ok u) end early = early
ends_late (Err (faults.Script fault)) end early = not_end 1 (λ is. omega arith) (λ is. omega arith) end
ends_late (Err (faults.Session fault)) end early = not_end 1 (λ is. omega arith) (λ is. omega arith) end
ends_late (Err faults.LongSession) end early = not_end 1 (λ is. omega arith) (λ is. omega arith) end
ends_late (Err (faults.Import fault)) end early = not_end 1 (λ is. omega arith) (λ is. omega arith) end
ends_late (Err faults.LongImport) end early = not_end 1 (λ is. omega arith) (λ is. omega arith) end
ends_late (Err faults.Differs) end early = early
ends_late (Err (faults.Race races.UnknownActor)) end early = not_end 1 (λ is. omega arith) (λ is. omega arith) end
ends_late (Err (faults.Race races.NoRoom)) end early = not_end 1 (λ is. omega arith) (λ is. omega arith) end
ends_late (Err (faults.Race races.WorkerRefused)) end early = not_end 5 (λ is. omega arith) (λ is. omega arith) end
ends_late (Err (faults.Race races.OutOfMemory)) end early = not_end 4 (λ is. omega arith) (λ is. omega arith) end
ends_late (Err (faults.Race races.LogsDisagree)) end early = not_end 5 (λ is. omega arith) (λ is. omega arith) end
ends_late (Err (faults.Explore reports.NoSuchNode)) end early = not_end 1 (λ is. omega arith) (λ is. omega arith) end
ends_late (Err (faults.Explore reports.NoWord)) end early = not_end 1 (λ is. omega arith) (λ is. omega arith) end
ends_late (Err (faults.Explore (reports.TooManyStates states outcomes))) end early = not_end 1 (λ is. omega arith) (λ is. omega arith) end
ends_late (Err (faults.Explore reports.MayFill)) end early = not_end 1 (λ is. omega arith) (λ is. omega arith) end
ends_late (Err (faults.Explore reports.TooManySteps)) end early = not_end 1 (λ is. omega arith) (λ is. omega arith) end
ends_late (Err (faults.Explore (reports.NoSuchOutcome outcomes))) end early = not_end 1 (λ is. omega arith) (λ is. omega arith) end
ends_late (Err (faults.Explore reports.OutOfMemory)) end early = not_end 4 (λ is. omega arith) (λ is. omega arith) end
ends_late (Err (faults.Explain asks.NoSuchNode)) end early = not_end 1 (λ is. omega arith) (λ is. omega arith) end
ends_late (Err (faults.Explain asks.NoWord)) end early = not_end 1 (λ is. omega arith) (λ is. omega arith) end
ends_late (Err (faults.Explain asks.OutOfMemory)) end early = not_end 4 (λ is. omega arith) (λ is. omega arith) end
ends_late (Err (faults.Draw draws.NoSuchNode)) end early = not_end 1 (λ is. omega arith) (λ is. omega arith) end
ends_late (Err (faults.Draw draws.NoWord)) end early = not_end 1 (λ is. omega arith) (λ is. omega arith) end
ends_late (Err (faults.Draw draws.OutOfMemory)) end early = not_end 4 (λ is. omega arith) (λ is. omega arith) end
ends_late (Err (faults.Whatif whatifs.NoSuchNode)) end early = not_end 1 (λ is. omega arith) (λ is. omega arith) end
ends_late (Err (faults.Whatif whatifs.NoWord)) end early = not_end 1 (λ is. omega arith) (λ is. omega arith) end
ends_late (Err (faults.Whatif (whatifs.NoSuchChange changes))) end early = not_end 1 (λ is. omega arith) (λ is. omega arith) end
ends_late (Err (faults.Whatif whatifs.OutOfMemory)) end early = not_end 4 (λ is. omega arith) (λ is. omega arith) end
ends_late (Err (faults.Transcript (transcripts.NoScript fault))) end early = early
ends_late (Err (faults.Transcript transcripts.OtherCalls)) end early = early
ends_late (Err (faults.Transcript transcripts.OutOfMemory)) end early = early
ends_late (Err (faults.Refused act)) end early = early
ends_late (Err (faults.Prompt prompts.TooLong)) end early = early
ends_late (Err (faults.Prompt prompts.ReadFault)) end early = early
ends_late (Err (faults.Prompt prompts.WriteFault)) end early = early
ends_late (Err (faults.Prompt prompts.OutOfMemory)) end early = early
ends_late (Err faults.ReadFault) end early = not_end 3 (λ is. omega arith) (λ is. omega arith) end
ends_late (Err (faults.WriteFault written)) end early = early
ends_late (Err faults.OutOfMemory) end early = not_end 4 (λ is. omega arith) (λ is. omega arith) end

pub end_told : {X : Type 0} (outcome : Result (Unit {0}) ProgramFault) → IsEnd (status_of outcome) → (IsEarly outcome ⊎ X) → X
end_told outcome end (inl early) = absurd (ends_late outcome end early)
end_told outcome end (inr told) = told

-- an outcome with the status of an end is fine, or an act was refused
ended : (outcome : Result (Unit {0}) ProgramFault) → IsEnd (status_of outcome) → IsFine outcome ⊎ ((act : Refused) × (outcome ≡ Err (faults.Refused act)))
ended (Ok u) end = inl tt
ended (Err (faults.Script fault)) end = absurd (not_end 1 (λ is. omega arith) (λ is. omega arith) end)
ended (Err (faults.Session fault)) end = absurd (not_end 1 (λ is. omega arith) (λ is. omega arith) end)
ended (Err faults.LongSession) end = absurd (not_end 1 (λ is. omega arith) (λ is. omega arith) end)
ended (Err (faults.Import fault)) end = absurd (not_end 1 (λ is. omega arith) (λ is. omega arith) end)
ended (Err faults.LongImport) end = absurd (not_end 1 (λ is. omega arith) (λ is. omega arith) end)
ended (Err faults.Differs) end = inl tt
ended (Err (faults.Race races.UnknownActor)) end = absurd (not_end 1 (λ is. omega arith) (λ is. omega arith) end)
ended (Err (faults.Race races.NoRoom)) end = absurd (not_end 1 (λ is. omega arith) (λ is. omega arith) end)
ended (Err (faults.Race races.WorkerRefused)) end = absurd (not_end 5 (λ is. omega arith) (λ is. omega arith) end)
ended (Err (faults.Race races.OutOfMemory)) end = absurd (not_end 4 (λ is. omega arith) (λ is. omega arith) end)
ended (Err (faults.Race races.LogsDisagree)) end = absurd (not_end 5 (λ is. omega arith) (λ is. omega arith) end)
ended (Err (faults.Explore reports.NoSuchNode)) end = absurd (not_end 1 (λ is. omega arith) (λ is. omega arith) end)
ended (Err (faults.Explore reports.NoWord)) end = absurd (not_end 1 (λ is. omega arith) (λ is. omega arith) end)
ended (Err (faults.Explore (reports.TooManyStates states outcomes))) end = absurd (not_end 1 (λ is. omega arith) (λ is. omega arith) end)
ended (Err (faults.Explore reports.MayFill)) end = absurd (not_end 1 (λ is. omega arith) (λ is. omega arith) end)
ended (Err (faults.Explore reports.TooManySteps)) end = absurd (not_end 1 (λ is. omega arith) (λ is. omega arith) end)
ended (Err (faults.Explore (reports.NoSuchOutcome outcomes))) end = absurd (not_end 1 (λ is. omega arith) (λ is. omega arith) end)
ended (Err (faults.Explore reports.OutOfMemory)) end = absurd (not_end 4 (λ is. omega arith) (λ is. omega arith) end)
ended (Err (faults.Explain asks.NoSuchNode)) end = absurd (not_end 1 (λ is. omega arith) (λ is. omega arith) end)
ended (Err (faults.Explain asks.NoWord)) end = absurd (not_end 1 (λ is. omega arith) (λ is. omega arith) end)
ended (Err (faults.Explain asks.OutOfMemory)) end = absurd (not_end 4 (λ is. omega arith) (λ is. omega arith) end)
ended (Err (faults.Draw draws.NoSuchNode)) end = absurd (not_end 1 (λ is. omega arith) (λ is. omega arith) end)
ended (Err (faults.Draw draws.NoWord)) end = absurd (not_end 1 (λ is. omega arith) (λ is. omega arith) end)
ended (Err (faults.Draw draws.OutOfMemory)) end = absurd (not_end 4 (λ is. omega arith) (λ is. omega arith) end)
ended (Err (faults.Whatif whatifs.NoSuchNode)) end = absurd (not_end 1 (λ is. omega arith) (λ is. omega arith) end)
ended (Err (faults.Whatif whatifs.NoWord)) end = absurd (not_end 1 (λ is. omega arith) (λ is. omega arith) end)
ended (Err (faults.Whatif (whatifs.NoSuchChange changes))) end = absurd (not_end 1 (λ is. omega arith) (λ is. omega arith) end)
ended (Err (faults.Whatif whatifs.OutOfMemory)) end = absurd (not_end 4 (λ is. omega arith) (λ is. omega arith) end)
ended (Err (faults.Transcript (transcripts.NoScript fault))) end = absurd (not_end 1 (λ is. omega arith) (λ is. omega arith) end)
ended (Err (faults.Transcript transcripts.OtherCalls)) end = absurd (not_end 1 (λ is. omega arith) (λ is. omega arith) end)
ended (Err (faults.Transcript transcripts.OutOfMemory)) end = absurd (not_end 4 (λ is. omega arith) (λ is. omega arith) end)
ended (Err (faults.Refused act)) end = inr (act, refl)
ended (Err (faults.Prompt prompts.TooLong)) end = absurd (not_end 1 (λ is. omega arith) (λ is. omega arith) end)
ended (Err (faults.Prompt prompts.ReadFault)) end = absurd (not_end 3 (λ is. omega arith) (λ is. omega arith) end)
ended (Err (faults.Prompt prompts.WriteFault)) end = absurd (not_end 3 (λ is. omega arith) (λ is. omega arith) end)
ended (Err (faults.Prompt prompts.OutOfMemory)) end = absurd (not_end 4 (λ is. omega arith) (λ is. omega arith) end)
ended (Err faults.ReadFault) end = absurd (not_end 3 (λ is. omega arith) (λ is. omega arith) end)
ended (Err (faults.WriteFault written)) end = absurd (not_end 3 (λ is. omega arith) (λ is. omega arith) end)
ended (Err faults.OutOfMemory) end = absurd (not_end 4 (λ is. omega arith) (λ is. omega arith) end)

-- an outcome with status 0 is fine
pub zero_fine : (outcome : Result (Unit {0}) ProgramFault) → status_of outcome ≡ 0 → IsFine outcome
zero_fine (Ok u) zero = tt
zero_fine (Err (faults.Script fault)) zero = absurd (omega arith)
zero_fine (Err (faults.Session fault)) zero = absurd (omega arith)
zero_fine (Err faults.LongSession) zero = absurd (omega arith)
zero_fine (Err (faults.Import fault)) zero = absurd (omega arith)
zero_fine (Err faults.LongImport) zero = absurd (omega arith)
zero_fine (Err faults.Differs) zero = absurd (omega arith)
zero_fine (Err (faults.Race races.UnknownActor)) zero = absurd (omega arith)
zero_fine (Err (faults.Race races.NoRoom)) zero = absurd (omega arith)
zero_fine (Err (faults.Race races.WorkerRefused)) zero = absurd (omega arith)
zero_fine (Err (faults.Race races.OutOfMemory)) zero = absurd (omega arith)
zero_fine (Err (faults.Race races.LogsDisagree)) zero = absurd (omega arith)
zero_fine (Err (faults.Explore reports.NoSuchNode)) zero = absurd (omega arith)
zero_fine (Err (faults.Explore reports.NoWord)) zero = absurd (omega arith)
zero_fine (Err (faults.Explore (reports.TooManyStates states outcomes))) zero = absurd (omega arith)
zero_fine (Err (faults.Explore reports.MayFill)) zero = absurd (omega arith)
zero_fine (Err (faults.Explore reports.TooManySteps)) zero = absurd (omega arith)
zero_fine (Err (faults.Explore (reports.NoSuchOutcome outcomes))) zero = absurd (omega arith)
zero_fine (Err (faults.Explore reports.OutOfMemory)) zero = absurd (omega arith)
zero_fine (Err (faults.Explain asks.NoSuchNode)) zero = absurd (omega arith)
zero_fine (Err (faults.Explain asks.NoWord)) zero = absurd (omega arith)
zero_fine (Err (faults.Explain asks.OutOfMemory)) zero = absurd (omega arith)
zero_fine (Err (faults.Draw draws.NoSuchNode)) zero = absurd (omega arith)
zero_fine (Err (faults.Draw draws.NoWord)) zero = absurd (omega arith)
zero_fine (Err (faults.Draw draws.OutOfMemory)) zero = absurd (omega arith)
zero_fine (Err (faults.Whatif whatifs.NoSuchNode)) zero = absurd (omega arith)
zero_fine (Err (faults.Whatif whatifs.NoWord)) zero = absurd (omega arith)
zero_fine (Err (faults.Whatif (whatifs.NoSuchChange changes))) zero = absurd (omega arith)
zero_fine (Err (faults.Whatif whatifs.OutOfMemory)) zero = absurd (omega arith)
zero_fine (Err (faults.Transcript (transcripts.NoScript fault))) zero = absurd (omega arith)
zero_fine (Err (faults.Transcript transcripts.OtherCalls)) zero = absurd (omega arith)
zero_fine (Err (faults.Transcript transcripts.OutOfMemory)) zero = absurd (omega arith)
zero_fine (Err (faults.Refused act)) zero = absurd (omega arith)
zero_fine (Err (faults.Prompt prompts.TooLong)) zero = absurd (omega arith)
zero_fine (Err (faults.Prompt prompts.ReadFault)) zero = absurd (omega arith)
zero_fine (Err (faults.Prompt prompts.WriteFault)) zero = absurd (omega arith)
zero_fine (Err (faults.Prompt prompts.OutOfMemory)) zero = absurd (omega arith)
zero_fine (Err faults.ReadFault) zero = absurd (omega arith)
zero_fine (Err (faults.WriteFault written)) zero = absurd (omega arith)
zero_fine (Err faults.OutOfMemory) zero = absurd (omega arith)

abbrev is_some : Option Refused → Type 0
is_some (Some act) = Unit {0}
is_some None = ⊥

-- no act of an import is refused

pub never_refuses : (terminal : Bool) (limits : Limits) (command : Subcommand) (form : Form) (input old middle new : Option (List ℕ)) (lost : Bool)
    (act : Refused) (before after : Option (List ℕ)) → Announces terminal command old middle → EndsAt command form limits input (Err (faults.Refused act)) before after →
    TellsBehind terminal limits command form input lost old new
never_refuses terminal limits command form input old middle new lost act before after announced ends = (middle, announced, whole command input ends)
  where
    whole : (c : Subcommand) (known : Option (List ℕ)) → EndsAt c form limits known (Err (faults.Refused act)) before after → TellsWhole c form limits known lost middle new
    whole (Play strict) known e = tt
    whole Race known e = tt
    whole (Load strict) known e = tt
    whole (Import wanted) None e = tt
    whole (Import wanted) (Some bytes) e = absurd (subst is_some e.3 tt)
    whole (Explore asked) known e = tt
    whole Step known e = tt
    whole (Draw drawing) known e = tt
    whole Page known e = tt
    whole (Explain question) known e = tt
    whole (Whatif asked) known e = tt

-- what was told at an end, if nothing is told of it behind that
pub told_at_end : (terminal : Bool) (limits : Limits) (command : Subcommand) (form : Form) (input old new last : Option (List ℕ)) (lost : Bool)
    (outcome : Result (Unit {0}) ProgramFault) (before after : Option (List ℕ)) → IsEnd (status_of outcome) → EndsAt command form limits input outcome before after →
    (IsEarly outcome ⊎ TellsBehind terminal limits command form input lost old new) → (IsFine outcome → last ≡ new) →
    TellsBehind terminal limits command form input lost old last
told_at_end terminal limits command form input old new last lost outcome before after end ends told same = by (ended outcome end)
  where
    behind_it : TellsBehind terminal limits command form input lost old new
    behind_it = end_told outcome end told

    by : IsFine outcome ⊎ ((act : Refused) × (outcome ≡ Err (faults.Refused act))) → TellsBehind terminal limits command form input lost old last
    by (inl fine) = subst (λ (o : Option (List ℕ)). TellsBehind terminal limits command form input lost old o) (sym (same fine)) behind_it
    by (inr refused) =
        never_refuses terminal limits command form input old behind_it.0 last lost refused.0 before after behind_it.1
        (subst (λ (r : Result (Unit {0}) ProgramFault). EndsAt command form limits input r before after) refused.1 ends)

-- words that choose nothing
pub refused_told : (terminal : Bool) (limits : Limits) (words : List (List ℕ)) (input : Option (List ℕ)) (lost : Bool) (old new : Option (List ℕ)) (kind : ErrorKind)
    (status : ℕ) → IsRefusal words kind → (status ≡ 0 → Keeps old new) → status ≢ 6 → IsEnd status → TellsAsChosen terminal limits words input lost old new
refused_told terminal limits words input lost old new kind status refused quiet no_end (inl zero) = inr (kind, refused, quiet zero)
refused_told terminal limits words input lost old new kind status refused quiet no_end (inr six) = absurd (no_end six)
