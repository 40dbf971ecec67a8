use Rattle.std.proofs.Common.{inl, inr}
use Rattle.std.proofs.KnownBytes.{Keeps-refl}
use Rattle.clap.specs.Words.{kind_of}
use Rattle.program_core.proofs.Told.{refused_told}
use Rattle.program_core.proofs.status.program_counted.Goals as goal

pub returns-in-Ok-clause-ends : goal.returns-in-Ok-clause-ends
returns-in-Ok-clause-ends g c = inl (c.in-Ok.choice, c.in-Ok.ensures.chosen, c.run_choice.ensures.exits)

pub returns-in-Err-clause-ends : goal.returns-in-Err-clause-ends
returns-in-Err-clause-ends g c = inr (kind_of c.in-Err.fault, c.in-Err.ensures.refused, c.refuse.ensures.ends, Keeps-refl _)

pub returns-in-Ok-clause-told : goal.returns-in-Ok-clause-told
returns-in-Ok-clause-told g c = λ end. inl (c.in-Ok.choice, c.in-Ok.ensures.chosen, c.run_choice.ensures.told end)

pub returns-in-Err-clause-told : goal.returns-in-Err-clause-told
returns-in-Err-clause-told g c = λ end.
    refused_told c.args.setting.now.terminal c.args.setting.now.limits _ _ _ _ _ (kind_of c.in-Err.fault) c.refuse.result c.in-Err.ensures.refused c.refuse.ensures.quiet
    c.refuse.ensures.no_end end
