-- A reply that isn't want of memory is the machine's.
use Rattle.std.proofs.Common.{◌≡◌, ℕ, ap, ◌∙◌}
use Rattle.bench_core.specs.declared.fault.Fault.TheVariants.{OutOfMemory}
use Rattle.bench_core.specs.declared.reply.Reply.{Reply}
use Rattle.bench_core.specs.declared.reply.Reply.TheVariants.{Refused}
use Rattle.bench_core.specs.Acts.{Action}
use Rattle.bench_core.specs.Machine.{AnswersAs, Answered, Machine, Unmade, after, config_of, with_state}
use Rattle.report_core.specs.ActTexts.{after_act, reply_of}

pub answered : (old new : Machine) (actor : ℕ) (act : Action) (reply : Reply) → AnswersAs old actor act reply new → (reply ≡ Refused OutOfMemory → ⊥) →
    (reply ≡ reply_of old actor act) × (new ≡ after_act old actor act)
unfolding reply_of after_act
answered old new actor act reply (Answered is to) made = (is, to ∙ ap (λ r. with_state old (after (config_of old) old.state actor act r)) is)
answered old new actor act reply (Unmade recorded is to) made = absurd (made is)
