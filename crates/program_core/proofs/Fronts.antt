-- What a front of an input tells of the whole: the bench that it gives, or the fault.
use Rattle.std.proofs.Common.{◌≡◌, ℕ, ◌<◌, ◌≤◌, ◌==◌, nat_lt, Bool, true, false, if◌then◌else◌, List, [], ◌∷◌, length, take, Option, Some, None, Result, Ok, Err, IfErr, IfOk, IsOkAnd, OnOk, ap, refl, sym, subst, ◌∙◌, arith}
use Rattle.std.proofs.lemmas.Bool.Decides.{nat_tests}
use Rattle.std.proofs.lemmas.List.{length-take, take_all}
use Rattle.hint_core.specs.Sessions.{begins_object}
use Rattle.bench_core.specs.Limits.{Limits}
use Rattle.bench_core.specs.Machine.{Machine}
use Rattle.bench_core.specs.NameList.{Texts}
use Rattle.grammar_core.specs.Grammar.{script_of}
use Rattle.grammar_core.specs.Scripts.{Script}
use Rattle.grammar_core.specs.declared.fault.FaultKind.TheVariants.{TooLong}
use Rattle.grammar_core.specs.declared.fault.ScriptFault.{ScriptFault}
use Rattle.run_core.specs.Report.{played}
use Rattle.transcript_core.specs.Actors.{free_consoles}
use Rattle.recording_core.specs.Sessions.{IsSession}
use Rattle.stream_core.specs.Inputs.{IsFront}
use Rattle.program_core.specs.declared.fault.ProgramFault.{ProgramFault}
use Rattle.program_core.specs.declared.fault.ProgramFault.TheVariants as faults
use Rattle.program_core.specs.declared.inputs.Run.{Run}
use Rattle.program_core.specs.Program.{IsBenchAt, IsBenchBy, IsRunAt, IsRunBy, RefusesBenchAt, RefusesScript, RefusesSession, is_for_session}

-- what a front is to be, the whole is to be
for_whole : (input bytes : List ℕ) (b : Bool) → bytes ≡ take 67108865 input → begins_object bytes ≡ b → is_for_session input ≡ b
unfolding is_for_session
for_whole input bytes b front begins = ap begins_object (sym front) ∙ begins

-- a front that a session may have is the whole
whole : (input bytes : List ℕ) → bytes ≡ take 67108865 input → length bytes ≤ 67108864 → bytes ≡ input
whole input bytes front few =
    let cut = length-take 67108865 input in
    front ∙ take_all 67108865 input (omega (arith, few, ap length front, cut))

longer : (input bytes : List ℕ) → bytes ≡ take 67108865 input → 67108864 < length bytes → 67108864 < length input
longer input bytes front more = omega (arith, more, ap length front, length-take 67108865 input)

-- a front spells the script that the whole does, since both have the same fault where they are too long

long_script : (bytes : List ℕ) → 1048576 < length bytes → script_of bytes ≡ Err (record { line = 0; kind = TooLong })
unfolding script_of
long_script bytes long = grind (arith, nat_tests)

same_script : (input : List ℕ) → script_of (take 67108865 input) ≡ script_of input
same_script input = go (nat_lt 67108865 (length input)) refl
  where
    go : (b : Bool) → nat_lt 67108865 (length input) ≡ b → script_of (take 67108865 input) ≡ script_of input
    go true is =
        let long : 67108865 < length input = grind (arith, nat_tests) in
        long_script (take 67108865 input) (omega (arith, long, length-take 67108865 input)) ∙ sym (long_script input (omega (arith, long)))
    go false is =
        let few : length input ≤ 67108865 = grind (arith, nat_tests) in
        ap script_of (take_all 67108865 input few)

short_script : (bytes : List ℕ) (P : Script → Type 0) → IsOkAnd (script_of bytes) P → length bytes ≤ 1048576
short_script bytes P spelt = go (nat_lt 1048576 (length bytes)) refl
  where
    go : (b : Bool) → nat_lt 1048576 (length bytes) ≡ b → length bytes ≤ 1048576
    go true is =
        let long : 1048576 < length bytes = grind (arith, nat_tests) in
        absurd (subst (λ r. IsOkAnd r P) (long_script bytes long) spelt)
    go false is = grind (arith, nat_tests)

-- what is told of a front that is to be a session, or a script
module _ (limits : Limits) (bytes : List ℕ) where
  pub gives_session : (known : Option (List ℕ)) (m : Machine) (consoles : Texts) → IsFront known 67108865 bytes → begins_object bytes ≡ true →
      length bytes ≤ 67108864 → IsSession bytes m → consoles ≡ free_consoles m → IsRunAt limits known m consoles
  gives_session None m consoles front begins few is free = tt
  gives_session (Some input) m consoles front begins few is free =
      let for_session : is_for_session input ≡ true = for_whole input bytes true front begins in
      subst (λ b. IsRunBy b limits input m consoles) (sym for_session) (subst (λ (xs : List ℕ). IsSession xs m) (whole input bytes front few) is, free)

  pub gives_played : (known : Option (List ℕ)) (m : Machine) (consoles : Texts) → IsFront known 67108865 bytes → begins_object bytes ≡ false →
      IsOkAnd (script_of bytes) (λ s. (m ≡ played limits s) × (consoles ≡ s.cast.consoles)) → IsRunAt limits known m consoles
  gives_played None m consoles front begins is = tt
  gives_played (Some input) m consoles front begins is =
      let for_session : is_for_session input ≡ false = for_whole input bytes false front begins in
      subst (λ b. IsRunBy b limits input m consoles) (sym for_session)
      (subst (λ (r : Result Script ScriptFault). IsOkAnd r (λ s. (m ≡ played limits s) × (consoles ≡ s.cast.consoles))) (ap script_of front ∙ same_script input) is)

-- the bench of a run
pub bench_at : (limits : Limits) (known : Option (List ℕ)) (m : Machine) (consoles : Texts) → IsRunAt limits known m consoles → IsBenchAt limits known m
bench_at limits None m consoles is = tt
bench_at limits (Some input) m consoles is = by (is_for_session input) is
  where
    played_on : (r : Result Script ScriptFault) → IsOkAnd r (λ s. (m ≡ played limits s) × (consoles ≡ s.cast.consoles)) → IsOkAnd r (λ s. m ≡ played limits s)
    played_on (Ok s) is = is.0
    played_on (Err fault) is = is

    by : (b : Bool) → IsRunBy b limits input m consoles → IsBenchBy b limits input m
    by true is = is.0
    by false is = played_on (script_of input) is

refuses_whole : (input bytes : List ℕ) (fault : ProgramFault) → bytes ≡ take 67108865 input → (67108864 < length bytes → fault ≡ faults.LongSession) →
    RefusesSession bytes fault → RefusesSession input fault
refuses_whole input bytes fault front long refuses = go (nat_lt 67108864 (length bytes)) refl
  where
    go : (b : Bool) → nat_lt 67108864 (length bytes) ≡ b → RefusesSession input fault
    go true is =
        let more : 67108864 < length bytes = grind (arith, nat_tests) in
        subst (RefusesSession input) (sym (long more)) (longer input bytes front more)
    go false is =
        let few : length bytes ≤ 67108864 = grind (arith, nat_tests) in
        subst (λ (xs : List ℕ). RefusesSession xs fault) (whole input bytes front few) refuses

refuses_same : (input bytes : List ℕ) (fault : ProgramFault) → script_of bytes ≡ script_of input → RefusesScript bytes fault → RefusesScript input fault
refuses_same input bytes (faults.Script fault) same refuses = sym same ∙ refuses
refuses_same input bytes faults.ReadFault same refuses = tt
refuses_same input bytes faults.OutOfMemory same refuses = tt
refuses_same input bytes (faults.Session fault) same refuses = elim refuses [ ]
refuses_same input bytes faults.LongSession same refuses = elim refuses [ ]
refuses_same input bytes (faults.Import fault) same refuses = elim refuses [ ]
refuses_same input bytes faults.LongImport same refuses = elim refuses [ ]
refuses_same input bytes faults.Differs same refuses = elim refuses [ ]
refuses_same input bytes (faults.Race fault) same refuses = elim refuses [ ]
refuses_same input bytes (faults.Explore fault) same refuses = elim refuses [ ]
refuses_same input bytes (faults.Explain fault) same refuses = elim refuses [ ]
refuses_same input bytes (faults.Draw fault) same refuses = elim refuses [ ]
refuses_same input bytes (faults.Whatif fault) same refuses = elim refuses [ ]
refuses_same input bytes (faults.Prompt fault) same refuses = elim refuses [ ]
refuses_same input bytes (faults.Transcript fault) same refuses = elim refuses [ ]
refuses_same input bytes (faults.Refused act) same refuses = elim refuses [ ]
refuses_same input bytes (faults.WriteFault written) same refuses = elim refuses [ ]

module _ (bytes : List ℕ) (fault : ProgramFault) where
  pub refuses_session : (known : Option (List ℕ)) → IsFront known 67108865 bytes → begins_object bytes ≡ true →
      (67108864 < length bytes → fault ≡ faults.LongSession) → RefusesSession bytes fault → RefusesBenchAt known fault
  refuses_session None front begins long refuses = tt
  refuses_session (Some input) front begins long refuses =
      let for_session : is_for_session input ≡ true = for_whole input bytes true front begins in
      (λ _. refuses_whole input bytes fault front long refuses, λ no. absurd (cc (for_session, no)))

  pub refuses_script : (known : Option (List ℕ)) → IsFront known 67108865 bytes → begins_object bytes ≡ false → RefusesScript bytes fault →
      RefusesBenchAt known fault
  refuses_script None front begins refuses = tt
  refuses_script (Some input) front begins refuses =
      let for_session : is_for_session input ≡ false = for_whole input bytes false front begins in
      (λ no. absurd (cc (for_session, no)), λ _. refuses_same input bytes fault (ap script_of front ∙ same_script input) refuses)

-- the same of the outcome

pub session_gives : {B : Type 0} (limits : Limits) (bytes : List ℕ) (known : Option (List ℕ)) (r : Result (Run B) ProgramFault) → IsFront known 67108865 bytes →
    begins_object bytes ≡ true → (67108864 < length bytes → r ≡ Err faults.LongSession) →
    IfOk r (λ run. IsSession bytes run.bench × (run.consoles ≡ free_consoles run.bench)) → IfOk r (λ run. IsRunAt limits known run.bench run.consoles)
session_gives limits bytes known (Err fault) front begins long is = tt
session_gives limits bytes known (Ok run) front begins long is =
    gives_session limits bytes known run.bench run.consoles front begins (go (nat_lt 67108864 (length bytes)) refl) is.0 is.1
  where
    go : (b : Bool) → nat_lt 67108864 (length bytes) ≡ b → length bytes ≤ 67108864
    go true more =
        let past : 67108864 < length bytes = grind (arith, nat_tests) in
        absurd (cc (long past))
    go false few = grind (arith, nat_tests)

pub session_refuses : {B : Type 0} (bytes : List ℕ) (known : Option (List ℕ)) (r : Result (Run B) ProgramFault) → IsFront known 67108865 bytes →
    begins_object bytes ≡ true → (67108864 < length bytes → r ≡ Err faults.LongSession) → IfErr r (RefusesSession bytes) → IfErr r (RefusesBenchAt known)
session_refuses bytes known (Ok m) front begins long refuses = tt
session_refuses bytes known (Err fault) front begins long refuses =
    refuses_session bytes fault known front begins (λ past. cc (long past)) refuses

abbrev IsPlayed : {B : Type 0} → Limits → List ℕ → Run B → Type 0
IsPlayed limits bytes run = IsOkAnd (script_of bytes) (λ s. (run.bench ≡ played limits s) × (run.consoles ≡ s.cast.consoles))

pub script_gives : {B : Type 0} (limits : Limits) (bytes : List ℕ) (known : Option (List ℕ)) (r : Result (Run B) ProgramFault) → IsFront known 67108865 bytes →
    begins_object bytes ≡ false → IfOk r (IsPlayed limits bytes) → IfOk r (λ run. IsRunAt limits known run.bench run.consoles)
script_gives limits bytes known (Err fault) front begins is = tt
script_gives limits bytes known (Ok run) front begins is = gives_played limits bytes known run.bench run.consoles front begins is

pub script_refuses : {B : Type 0} (bytes : List ℕ) (known : Option (List ℕ)) (r : Result (Run B) ProgramFault) → IsFront known 67108865 bytes →
    begins_object bytes ≡ false → IfErr r (RefusesScript bytes) → IfErr r (RefusesBenchAt known)
script_refuses bytes known (Ok m) front begins refuses = tt
script_refuses bytes known (Err fault) front begins refuses = refuses_script bytes fault known front begins refuses

-- a script that was played was read to its end
pub script_ends : {B : Type 0} (limits : Limits) (bytes : List ℕ) (r : Result (Run B) ProgramFault) (E : Type 0) → IfOk r (IsPlayed limits bytes) →
    (length bytes < 67108865 → E) → OnOk r E
script_ends limits bytes (Err fault) E is end = tt
script_ends limits bytes (Ok run) E is end =
    let short = short_script bytes (λ s. (run.bench ≡ played limits s) × (run.consoles ≡ s.cast.consoles)) is in
    end (omega (arith, short))
