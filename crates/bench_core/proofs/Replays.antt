-- Recorded calls, asked again from the opening on, lead to the same state.
use Rattle.std.proofs.Common.{◌≡◌, ℕ, Bool, true, false, if◌then◌else◌, List, [], ◌∷◌, ◌++◌, refl, sym, ap, ◌∙◌, subst, append_assoc, append-nil}
use Rattle.bench_core.specs.declared.reply.Reply.{Reply}
use Rattle.bench_core.specs.declared.reply.Reply.TheVariants.{Taken, Undone, Refused}
use Rattle.bench_core.specs.Acts.{Action}
use Rattle.bench_core.specs.Histories.{note}
use Rattle.bench_core.specs.Machine.{Event, Config, State, opening_state, reply_to, is_recorded, after, call, calls}
use Rattle.bench_core.specs.Replays.{Replays, ReplayLaw}

module _ (c : Config) where
  -- a call that isn't recorded changes nothing
  stays : (s : State) (actor : ℕ) (act : Action) (r : Reply) → is_recorded c s r ≡ false → after c s actor act r ≡ s
  stays s actor act (Taken n) is = absurd (cc)
  stays s actor act (Undone k) is = absurd (cc)
  stays s actor act (Refused fault) is =
      ap (λ b. record { history = if b then note actor act (Refused fault) s.history else s.history; remaining = s.remaining }) is

  -- a call that is recorded comes last in the history
  grows : (s : State) (actor : ℕ) (act : Action) (r : Reply) → is_recorded c s r ≡ true → (after c s actor act r).history ≡ note actor act r s.history
  grows s actor act r is = ap (λ b. if b then note actor act r s.history else s.history) is

  -- the events that calls add, by which the same state is reached
  record Added (s last : State) : Type 0 where
    events : List Event
    added : last.history ≡ s.history ++ events
    replays : Replays c s events last

  added_by : (asked : List (ℕ × Action)) (s : State) → Added s (calls c s asked)
  added_by [] s = record { events = []; added = sym (append-nil s.history); replays = refl }
  added_by (a ∷ asked) s = go (is_recorded c s (reply_to c s a.0 a.1)) refl (added_by asked (call c s a.0 a.1))
    where
      reply : Reply
      reply = reply_to c s a.0 a.1

      event : Event
      event = record { actor = a.0; act = a.1; reply = reply_to c s a.0 a.1 }

      go : (b : Bool) → is_recorded c s (reply_to c s a.0 a.1) ≡ b → Added (call c s a.0 a.1) (calls c (call c s a.0 a.1) asked) →
          Added s (calls c (call c s a.0 a.1) asked)
      go true is more = record {
        events = event ∷ more.events;
        added = more.added ∙ ap (λ h. h ++ more.events) (grows s a.0 a.1 reply is) ∙ append_assoc s.history (event ∷ []) more.events;
        replays = ((refl, is), more.replays);
      }
      go false is more = subst (λ x. Added x (calls c (call c s a.0 a.1) asked)) (stays s a.0 a.1 reply is) more

pub replay_holds : ReplayLaw
replay_holds c s reached =
    let all = added_by c reached.0 opening_state in
    subst (λ (x : State). Replays c opening_state x.history x) (sym reached.1)
    (subst (λ h. Replays c opening_state h (calls c opening_state reached.0)) (sym all.added) all.replays)
