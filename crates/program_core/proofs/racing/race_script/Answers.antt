use Rattle.std.proofs.Common.{◌≡◌, ◌∙◌, ap, subst₂, MatchOption}
use Rattle.bench_core.specs.Acts.{calls_of}
use Rattle.bench_core.specs.Machine.{opening_machine}
use Rattle.grammar_core.specs.Scripts.{Script, plain_script}
use Rattle.receipt_core.specs.Races.{IsLate, refusal_of}
use Rattle.program_core.proofs.Raced.{refuses_outcome}
use Rattle.program_core.proofs.racing.race_script.Goals as goal

pub returns-clause-cause : goal.returns-clause-cause
returns-clause-cause g c =
    let s : Script = plain_script c.args.script.now in
    let asked = calls_of c.in-Ok.lines.items in
    let bench_is : c.in-Ok-new.bench ≡ opening_machine s.cast.nodes c.args.limits = c.in-Ok-new.ensures
    ∙ ap (λ names. opening_machine names c.args.limits) (c.in-Ok-try_copy.ensures ∙ c.node_names.ensures) in
    refuses_outcome c.args.limits s (refusal_of c.in-Ok-new.bench c.actors.result asked) c.race.result c.outcome.result c.in-Ok-new.bench
    c.outcome.ensures.bench c.outcome.ensures.fault c.race.ensures.refused
    (λ f here. (
      asked,
      c.in-Ok.ensures,
      subst₂ (λ m n. MatchOption (refusal_of m n asked) (IsLate f) (λ early. f ≡ early)) bench_is c.actors.ensures here,
    ))
