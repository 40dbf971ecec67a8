-- One call, asked again and printed.
use Rattle.std.proofs.Common.{◌≡◌, ℕ, Bool, true, false, if◌then◌else◌, List, [], ◌∷◌, ◌++◌, length, Option, Some, None, option_map, slice_get, refl, subst, sym, ap, ◌∙◌, arith}
use Rattle.std.specs.Prelude.{◌↔◌, IsTrue}
use Rattle.std.proofs.lemmas.Option.{slice_get_past}
use Rattle.bench_core.specs.declared.reply.Reply.{Reply}
use Rattle.bench_core.specs.Histories.{note}
use Rattle.bench_core.specs.Machine.{Event, Machine, config_of, with_state, reply_to, is_recorded, after}
use Rattle.report_core.specs.ActTexts.{after_act}
use Rattle.recording_core.specs.Sessions.{Asked}

at_end : {A : Type 0} (xs : List A) (x : A) → slice_get (xs ++ x ∷ []) (length xs) ≡ Some x
at_end [] x = refl
at_end (y ∷ ys) x = at_end ys x

abbrev reply_at : List Event → ℕ → Option Reply
reply_at h n = option_map (λ (e : Event). e.reply) (slice_get h n)

module _ (old : Machine) (e : Event) (new : Machine) (asked : new ≡ after_act old e.actor e.act) where
  abbrev reply : Reply
  reply = reply_to (config_of old) old.state e.actor e.act

  becomes : new ≡ with_state old (after (config_of old) old.state e.actor e.act reply)
  unfolding after_act
  becomes = asked

  -- the call of the bench that comes next
  reply_next : (recorded : Bool) → is_recorded (config_of old) old.state reply ≡ recorded →
      reply_at new.state.history (length old.state.history) ≡ (if recorded then Some reply else None)
  reply_next true is =
      ap (λ (m : Machine). reply_at m.state.history (length old.state.history)) becomes
      ∙ ap (λ b. reply_at (if b then note e.actor e.act reply old.state.history else old.state.history) (length old.state.history)) is
      ∙ ap (option_map (λ (f : Event). f.reply)) (at_end old.state.history _)
  reply_next false is =
      ap (λ (m : Machine). reply_at m.state.history (length old.state.history)) becomes
      ∙ ap (λ b. reply_at (if b then note e.actor e.act reply old.state.history else old.state.history) (length old.state.history)) is
      ∙ ap (option_map (λ (f : Event). f.reply)) (slice_get_past old.state.history (length old.state.history) (omega arith))

  by_reply : (answered recorded : Bool) → is_recorded (config_of old) old.state reply ≡ recorded →
      (IsTrue answered ↔ (reply_at new.state.history (length old.state.history) ≡ Some e.reply)) → Asked e old new answered
  by_reply true true is at =
      let same : reply ≡ e.reply = let both = sym (reply_next true is) ∙ at.0 refl in cc in (
        (same, sym (ap (is_recorded (config_of old) old.state) same) ∙ is),
        becomes ∙ ap (λ r. with_state old (after (config_of old) old.state e.actor e.act r)) same,
      )
  by_reply true false is at = absurd (let both = sym (reply_next false is) ∙ at.0 refl in cc)
  by_reply false recorded is at = λ recs. absurd (
      let here = reply_next true (ap (is_recorded (config_of old) old.state) recs.0 ∙ recs.1) ∙ ap Some recs.0 in
      let never = at.1 here in cc)

  -- the bench gave the event's reply and recorded it exactly where its history has that reply next
  pub asked_so : (answered : Bool) (history : List Event) (place : ℕ) → history ≡ new.state.history → place ≡ length old.state.history →
      (IsTrue answered ↔ (reply_at history place ≡ Some e.reply)) → Asked e old new answered
  asked_so answered history place is next at =
      by_reply answered (is_recorded (config_of old) old.state reply) refl
      (subst (λ (h : List Event). IsTrue answered ↔ (reply_at h (length old.state.history) ≡ Some e.reply)) is
      (subst (λ n. IsTrue answered ↔ (reply_at history n ≡ Some e.reply)) next at))
