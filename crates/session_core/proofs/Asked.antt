-- One call, asked again.
use Rattle.std.proofs.Common.{◌≡◌, ◌≢◌, ◌+◌, nat_lt, Bool, true, false, if◌then◌else◌, length, refl, sym, ap, ◌∙◌, arith, length-append}
use Rattle.std.proofs.lemmas.Bool.{ltb-true, ltb-false}
use Rattle.bench_core.specs.declared.reply.Reply.{Reply}
use Rattle.bench_core.specs.declared.reply.Reply.TheVariants.{Refused}
use Rattle.bench_core.specs.declared.fault.Fault.TheVariants.{OutOfMemory}
use Rattle.bench_core.specs.Histories.{note}
use Rattle.bench_core.specs.Machine.{Event, Machine, config_of, with_state, reply_to, is_recorded, after, AnswersAs, Answered, Unmade}
use Rattle.recording_core.specs.Sessions.{RecordsNext, Asked}

module _ (old : Machine) (e : Event) (reply : Reply) (new : Machine) (made : reply ≢ Refused OutOfMemory) where
  -- the reply was another, so the bench doesn't record the event
  pub other_reply : AnswersAs old e.actor e.act reply new → reply ≢ e.reply → ¬ RecordsNext old e
  other_reply (Answered is becomes) other recs = other (is ∙ recs.0)
  other_reply (Unmade recorded memory same) other recs = absurd (made memory)

  -- how long the history is after the call
  grown : (recorded : Bool) → is_recorded (config_of old) old.state reply ≡ recorded →
      length (after (config_of old) old.state e.actor e.act reply).history ≡ (if recorded then length old.state.history + 1 else length old.state.history)
  grown true is = ap (λ b. length (if b then note e.actor e.act reply old.state.history else old.state.history)) is
      ∙ length-append old.state.history _
  grown false is = ap (λ b. length (if b then note e.actor e.act reply old.state.history else old.state.history)) is

  module _ (is : reply ≡ reply_to (config_of old) old.state e.actor e.act)
      (becomes : new ≡ with_state old (after (config_of old) old.state e.actor e.act reply)) (same : reply ≡ e.reply) where
    longer : length new.state.history ≡ length (after (config_of old) old.state e.actor e.act reply).history
    longer = ap (λ (m : Machine). length m.state.history) becomes

    by_length : (more recorded : Bool) → more ≡ nat_lt (length old.state.history) (length new.state.history) →
        is_recorded (config_of old) old.state reply ≡ recorded → Asked e old new more
    by_length true true test recs = (
      (sym is ∙ same, sym (ap (is_recorded (config_of old) old.state) same) ∙ recs),
      becomes ∙ ap (λ r. with_state old (after (config_of old) old.state e.actor e.act r)) same,
    )
    by_length true false test recs =
        absurd (let more = ltb-true _ _ (sym test) in let n = longer ∙ grown false recs in omega (arith, more, n))
    by_length false true test recs =
        absurd (let none = ltb-false _ _ (sym test) in let n = longer ∙ grown true recs in omega (arith, none, n))
    by_length false false test recs = λ both. absurd (let other = sym recs ∙ ap (is_recorded (config_of old) old.state) same ∙ both.1 in cc)

  -- the reply is the event's: it is recorded exactly where the history is longer
  pub same_reply : AnswersAs old e.actor e.act reply new → reply ≡ e.reply → (more : Bool) →
      more ≡ nat_lt (length old.state.history) (length new.state.history) → Asked e old new more
  same_reply (Answered is becomes) same more test = by_length is becomes same more (is_recorded (config_of old) old.state reply) test refl
  same_reply (Unmade recorded memory unchanged) same more test = absurd (made memory)
