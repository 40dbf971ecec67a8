-- How a play, and a load, end by what is shown.
use Rattle.std.proofs.Common.{inl, ◌≡◌, ℕ, Bool, List, Option, None, Some, Result, Ok, Err, IfErr, IsOkAnd, sym, subst, ◌∙◌}
use Rattle.bench_core.specs.Limits.{Limits}
use Rattle.bench_core.specs.Machine.{Machine}
use Rattle.grammar_core.specs.Grammar.{script_of}
use Rattle.grammar_core.specs.Scripts.{Script}
use Rattle.grammar_core.specs.declared.fault.ScriptFault.{ScriptFault}
use Rattle.run_core.specs.Report.{played}
use Rattle.stream_core.specs.Steps.{Steps}
use Rattle.command_line.specs.declared.chosen.Form.{Form}
use Rattle.command_line.specs.declared.chosen.Form.TheVariants as forms
use Rattle.command_line.specs.declared.chosen.Subcommand.TheVariants.{Play, Load}
use Rattle.bench_core.specs.NameList.{Texts}
use Rattle.transcript_core.specs.Actors.{free_consoles}
use Rattle.transcript_core.specs.Scripts.{Refuses}
use Rattle.program_core.specs.declared.fault.ProgramFault.{ProgramFault}
use Rattle.program_core.specs.declared.fault.ProgramFault.TheVariants as faults
use Rattle.program_core.specs.declared.fault.Refused.{Refused}
use Rattle.program_core.specs.Program.{Ends, EndsAt, FailsAs, IsScriptAt, IsSessionAt, KeepsBefore, Prints, Tells, TellsMemory}
use Rattle.program_core.specs.Shown.{EndsAsShown, IsWant, PrintsPlay, RefusesBench, RefusesCalls, RefusesPlay, ShowsBench, ShowsScript, refused_line}
use Rattle.program_core.proofs.Printed.{keeps_same}

module _ (limits : Limits) (form : Form) (strict : Bool) (known old : Option (List ℕ)) where
  -- a text that was shown

  pub ends_play : (s : Script) (text : List ℕ) (refused : Option Refused) (r : Result (Unit {0}) ProgramFault) (new : Option (List ℕ)) → IsScriptAt known s →
      ShowsScript strict form limits s text refused → EndsAsShown text refused r old new → EndsAt (Play strict) form limits known r old new
  ends_play s text refused r new k shows ended = go known k
    where
      prints : (input : List ℕ) → script_of input ≡ Ok s → Prints (Play strict) form limits input text
      prints input k = subst (λ (o : Result Script ScriptFault). IsOkAnd o (λ s. PrintsPlay form limits s text)) (sym k) shows.0

      tells : (input : List ℕ) → script_of input ≡ Ok s → (told : Option Refused) → refused ≡ told → Tells (Play strict) limits input told
      tells input k told is = subst (λ (o : Result Script ScriptFault). IsOkAnd o (λ s. told ≡ refused_line strict limits s)) (sym k) (sym is ∙ shows.1)

      by : (input : List ℕ) → script_of input ≡ Ok s → (r : Result (Unit {0}) ProgramFault) → EndsAsShown text refused r old new → Ends (Play strict) form limits input r old new
      by input k (Ok u) e = (text, prints input k, e.1, tells input k None e.0)
      by input k (Err (faults.Refused act)) e = (text, prints input k, e.1, tells input k (Some act) e.0)
      by input k (Err (faults.WriteFault written)) e = (text, inl (prints input k), e.0, e.1)
      by input k (Err _) e = absurd e

      go : (known : Option (List ℕ)) → IsScriptAt known s → EndsAt (Play strict) form limits known r old new
      go None k = tt
      go (Some input) k = by input k r ended

  pub ends_load : (m : Machine) (text : List ℕ) (refused : Option Refused) (r : Result (Unit {0}) ProgramFault) (new : Option (List ℕ)) → IsSessionAt known m →
      ShowsBench strict form m text refused → EndsAsShown text refused r old new → EndsAt (Load strict) form limits known r old new
  ends_load m text refused r new k shows ended = go known k
    where
      by : (input : List ℕ) → IsSessionAt (Some input) m → (r : Result (Unit {0}) ProgramFault) → EndsAsShown text refused r old new → Ends (Load strict) form limits input r old new
      by input k (Ok u) e = (text, (m, k, shows.0), e.1, (m, k, sym e.0 ∙ shows.1))
      by input k (Err (faults.Refused act)) e = (text, (m, k, shows.0), e.1, (m, k, sym e.0 ∙ shows.1))
      by input k (Err (faults.WriteFault written)) e = (text, inl ((m, k, shows.0)), e.0, e.1)
      by input k (Err _) e = absurd e

      go : (known : Option (List ℕ)) → IsSessionAt known m → EndsAt (Load strict) form limits known r old new
      go None k = tt
      go (Some input) k = by input k r ended

  -- nothing was shown

  pub refused_play : (s : Script) (fault : ProgramFault) → IsScriptAt known s → RefusesPlay form limits s fault → EndsAt (Play strict) form limits known (Err fault) old old
  refused_play s fault k refuses = go known k
    where
      by : (input : List ℕ) → script_of input ≡ Ok s → (form : Form) (fault : ProgramFault) → RefusesPlay form limits s fault → Ends (Play strict) form limits input (Err fault) old old
      by input k forms.Script (faults.Transcript f) refuses =
          (subst (λ (o : Result Script ScriptFault). IsOkAnd o (λ s. Refuses (played limits s) s.cast.consoles f)) (sym k) refuses.0, keeps_same old)
      by input k form faults.OutOfMemory refuses = (tt, keeps_same old)
      by input k form fault refuses = absurd refuses

      go : (known : Option (List ℕ)) → IsScriptAt known s → EndsAt (Play strict) form limits known (Err fault) old old
      go None k = tt
      go (Some input) k = by input k form fault refuses

  pub refused_load : (m : Machine) (fault : ProgramFault) → IsSessionAt known m → RefusesBench form m fault → EndsAt (Load strict) form limits known (Err fault) old old
  refused_load m fault k refuses = go known k
    where
      by : (input : List ℕ) → IsSessionAt (Some input) m → (form : Form) (fault : ProgramFault) → RefusesBench form m fault → Ends (Load strict) form limits input (Err fault) old old
      by input k forms.Script (faults.Transcript f) refuses = ((m, k, refuses.0), keeps_same old)
      by input k form faults.OutOfMemory refuses = (tt, keeps_same old)
      by input k form fault refuses = absurd refuses

      go : (known : Option (List ℕ)) → IsSessionAt known m → EndsAt (Load strict) form limits known (Err fault) old old
      go None k = tt
      go (Some input) k = by input k form fault refuses

-- what else holds of it

module _ (text : List ℕ) (refused : Option Refused) (old new : Option (List ℕ)) where
  pub shown_keeps : (r : Result (Unit {0}) ProgramFault) → EndsAsShown text refused r old new → IfErr r (λ fault. KeepsBefore fault old new)
  shown_keeps (Ok u) e = tt
  shown_keeps (Err (faults.Refused act)) e = tt
  shown_keeps (Err (faults.WriteFault written)) e = tt
  shown_keeps (Err _) e = absurd e

  pub shown_memory : (r : Result (Unit {0}) ProgramFault) → EndsAsShown text refused r old new → IfErr r TellsMemory
  shown_memory (Ok u) e = tt
  shown_memory (Err (faults.Refused act)) e = tt
  shown_memory (Err (faults.WriteFault written)) e = tt
  shown_memory (Err _) e = absurd e

  pub shown_fails : (r : Result (Unit {0}) ProgramFault) (before after : Steps) → EndsAsShown text refused r old new → after.failed ≡ before.failed → FailsAs r before after
  shown_fails (Ok u) before after e same = same
  shown_fails (Err (faults.Refused act)) before after e same = same
  shown_fails (Err (faults.WriteFault written)) before after e same = same
  shown_fails (Err _) before after e same = absurd e

-- a fault before it

calls_memory : (m : Machine) (consoles : Texts) (fault : ProgramFault) → RefusesCalls m consoles fault → TellsMemory fault
calls_memory m consoles (faults.Transcript f) refuses = refuses.1
calls_memory m consoles faults.OutOfMemory refuses = tt
calls_memory m consoles _ refuses = absurd refuses

want_memory : (fault : ProgramFault) → IsWant fault → TellsMemory fault
want_memory faults.OutOfMemory want = tt
want_memory _ want = absurd want

calls_keep : (m : Machine) (consoles : Texts) (old : Option (List ℕ)) (fault : ProgramFault) → RefusesCalls m consoles fault → KeepsBefore fault old old
calls_keep m consoles old (faults.Transcript f) refuses = keeps_same old
calls_keep m consoles old faults.OutOfMemory refuses = keeps_same old
calls_keep m consoles old _ refuses = absurd refuses

want_keep : (old : Option (List ℕ)) (fault : ProgramFault) → IsWant fault → KeepsBefore fault old old
want_keep old faults.OutOfMemory want = keeps_same old
want_keep old _ want = absurd want

calls_fail : (m : Machine) (consoles : Texts) (before after : Steps) (fault : ProgramFault) → RefusesCalls m consoles fault → after.failed ≡ before.failed →
    FailsAs {X = Unit {0}} (Err fault) before after
calls_fail m consoles before after (faults.Transcript f) refuses same = same
calls_fail m consoles before after faults.OutOfMemory refuses same = same
calls_fail m consoles before after _ refuses same = absurd refuses

want_fail : (before after : Steps) (fault : ProgramFault) → IsWant fault → after.failed ≡ before.failed → FailsAs {X = Unit {0}} (Err fault) before after
want_fail before after faults.OutOfMemory want same = same
want_fail before after _ want same = absurd want

module _ (fault : ProgramFault) where
  pub refuses_memory : (form : Form) (limits : Limits) (s : Script) → RefusesPlay form limits s fault → TellsMemory fault
  refuses_memory forms.Script limits s refuses = calls_memory (played limits s) s.cast.consoles fault refuses
  refuses_memory _ limits s refuses = want_memory fault refuses

  pub refuses_keep : (form : Form) (limits : Limits) (s : Script) (old : Option (List ℕ)) → RefusesPlay form limits s fault → KeepsBefore fault old old
  refuses_keep forms.Script limits s old refuses = calls_keep (played limits s) s.cast.consoles old fault refuses
  refuses_keep _ limits s old refuses = want_keep old fault refuses

  pub refuses_fail : (form : Form) (limits : Limits) (s : Script) (before after : Steps) → RefusesPlay form limits s fault → after.failed ≡ before.failed →
      FailsAs {X = Unit {0}} (Err fault) before after
  refuses_fail forms.Script limits s before after refuses same = calls_fail (played limits s) s.cast.consoles before after fault refuses same
  refuses_fail _ limits s before after refuses same = want_fail before after fault refuses same

  pub refuses_memory_bench : (form : Form) (m : Machine) → RefusesBench form m fault → TellsMemory fault
  refuses_memory_bench forms.Script m refuses = calls_memory m (free_consoles m) fault refuses
  refuses_memory_bench _ m refuses = want_memory fault refuses

  pub refuses_keep_bench : (form : Form) (m : Machine) (old : Option (List ℕ)) → RefusesBench form m fault → KeepsBefore fault old old
  refuses_keep_bench forms.Script m old refuses = calls_keep m (free_consoles m) old fault refuses
  refuses_keep_bench _ m old refuses = want_keep old fault refuses

  pub refuses_fail_bench : (form : Form) (m : Machine) (before after : Steps) → RefusesBench form m fault → after.failed ≡ before.failed →
      FailsAs {X = Unit {0}} (Err fault) before after
  refuses_fail_bench forms.Script m before after refuses same = calls_fail m (free_consoles m) before after fault refuses same
  refuses_fail_bench _ m before after refuses same = want_fail before after fault refuses same
