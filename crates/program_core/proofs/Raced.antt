-- Why a race of a script's lines is refused.
use Rattle.std.proofs.Common.{◌≡◌, Option, Some, None, MatchOption, Result, Ok, Err, IfOk, IfErr, ap, refl, sym, subst}
use Rattle.receipt_core.specs.Races.{IsLate}
use Rattle.receipt_core.specs.declared.race_fault.RaceFault.{RaceFault}
use Rattle.receipt_core.specs.declared.race_fault.RaceFault.TheVariants as races
use Rattle.bench_core.specs.Machine.{Machine}
use Rattle.program_core.specs.Program.{fault_of_race}
use Rattle.bench_core.specs.Limits.{Limits}
use Rattle.grammar_core.specs.Scripts.{Script}
use Rattle.program_core.specs.declared.fault.ProgramFault.{ProgramFault}
use Rattle.program_core.specs.Races.{RefusesLines, RefusesRaceOf}

-- the fault by which a race ends, as its contract tells of it
pub refused_lines : {X : Type 0} (o : Option RaceFault) (r : Result X (RaceFault × Machine)) (b c : Machine) (f : RaceFault) → r ≡ Err (f, c) →
    MatchOption o (IfErr r (λ e. IsLate e.0)) (λ early. r ≡ Err (early, b)) → MatchOption o (IsLate f) (λ early. f ≡ early)
refused_lines None r b c f is m = rw is at m
refused_lines (Some early) r b c f is m =
    let told : r ≡ Err (early, b) = m in
    let pair : ◌≡◌ {A = RaceFault × Machine} (f, c) (early, b) = cc (is, told) in
    ap (λ e. e.0) pair

pub refuses_race : (limits : Limits) (s : Script) (f : RaceFault) → RefusesLines limits s f → RefusesRaceOf limits s (fault_of_race f)
refuses_race limits s races.UnknownActor h = h
refuses_race limits s races.NoRoom h = h
refuses_race limits s races.WorkerRefused h = h
refuses_race limits s races.OutOfMemory h = tt
refuses_race limits s races.LogsDisagree h = h

-- the fault of what is left of a race, which refuses the script by what its contract tells
pub refuses_outcome : {Z : Type 0} (limits : Limits) (s : Script) (o : Option RaceFault) (raced : Result (Machine × Z) (RaceFault × Machine))
    (result : Result Machine ProgramFault) (b : Machine) → IfOk raced (λ r. result ≡ Ok r.0) → IfErr raced (λ e. result ≡ Err (fault_of_race e.0)) →
    MatchOption o (IfErr raced (λ e. IsLate e.0)) (λ early. raced ≡ Err (early, b)) →
    ((f : RaceFault) → MatchOption o (IsLate f) (λ early. f ≡ early) → RefusesLines limits s f) → IfErr result (RefusesRaceOf limits s)
refuses_outcome limits s o (Ok r) result b ok err m lines = subst (λ x. IfErr x (RefusesRaceOf limits s)) (sym ok) tt
refuses_outcome limits s o (Err e) result b ok err m lines =
    let here : MatchOption o (IsLate e.0) (λ early. e.0 ≡ early) = refused_lines o (Err e) b e.1 e.0 refl m in
    subst (λ x. IfErr x (RefusesRaceOf limits s)) (sym err) (refuses_race limits s e.0 (lines e.0 here))
