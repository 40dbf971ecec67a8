-- What the lines of a script say below themselves, where it is played again.
use Rattle.std.proofs.Common.{◌≡◌, ℕ, List, Option, ap, ◌∙◌}
use Rattle.bench_core.specs.Limits.{Limits}
use Rattle.bench_core.specs.Machine.{Machine, opening_machine}
use Rattle.bench_core.specs.NameList.{Texts}
use Rattle.grammar_core.specs.Scripts.{Line, Script}
use Rattle.run_core.specs.Report.{commands_of, played}
use Rattle.transcript_core.specs.Scripts.{cast_of}
use Rattle.transcript_core.specs.Steps.{script_steps, steps_text, takers_of}

pub played_again : (limits : Limits) (s : Script) (m again : Machine) (nodes consoles : Texts) (takers : List (Option ℕ)) (lines : List Line) →
    m ≡ played limits s → again ≡ opening_machine nodes limits → nodes ≡ s.cast.nodes → consoles ≡ s.cast.consoles → takers ≡ takers_of m.state.history →
    lines ≡ s.lines → steps_text (cast_of again consoles) takers again (commands_of lines) ≡ script_steps limits s
unfolding script_steps
played_again limits s m again nodes consoles takers lines left opened names others took read =
    ap (λ (a : Machine). steps_text (cast_of a consoles) takers a (commands_of lines)) (opened ∙ ap (λ n. opening_machine n limits) names)
    ∙ ap (λ c. steps_text (cast_of (opening_machine s.cast.nodes limits) c) takers (opening_machine s.cast.nodes limits) (commands_of lines)) others
    ∙ ap (λ t. steps_text s.cast t (opening_machine s.cast.nodes limits) (commands_of lines)) (took ∙ ap (λ (m : Machine). takers_of m.state.history) left)
    ∙ ap (λ l. steps_text s.cast (takers_of (played limits s).state.history) (opening_machine s.cast.nodes limits) (commands_of l)) read
