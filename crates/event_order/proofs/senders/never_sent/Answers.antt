use Rattle.std.proofs.Common.{◌≡◌, ◌⊎◌, inl, inr, ◌+◌, ◌<◌, ℕ, arith, sym, ap, ◌∙◌, slice_index_or, false, Some}
use Rattle.std.proofs.lemmas.Bool.{cases_eq}
use Rattle.event_order.specs.declared.logged.Logged.{Logged}
use Rattle.event_order.specs.Ordering.{waits_at, IsSent}
use Rattle.event_order.proofs.senders.never_sent.Goals as goal
use Rattle.event_order.proofs.senders.never_sent.Goals.{in-Some+else-not-sent-message, in_default}
use Rattle.std.specs.Prelude.{List}

one_more : (events : List Logged) (place : ℕ) → ((earlier message : ℕ) → earlier < place → waits_at events earlier ≡ Some message → IsSent events message) →
    ((message : ℕ) → waits_at events place ≡ Some message → IsSent events message) →
    (earlier message : ℕ) → earlier < place + 1 → waits_at events earlier ≡ Some message → IsSent events message
one_more events place old here earlier message below waits = go (cases_eq earlier place)
  where
    go : (earlier ≡ place) ⊎ (earlier ≡ place → ⊥) → IsSent events message
    go (inl e) = here message (ap (waits_at events) (sym e) ∙ waits)
    go (inr other) = old earlier message (omega arith) waits

pub loop-place-preserved : goal.loop-place-preserved
loop-place-preserved c =
    let events = c.args.events.now in
    let place = c.loop-place.place in
    elim c.match-event.branch [
      | in-Some+else-not-sent-message w ↦ one_more events place c.loop-place.invariant (λ m is.
          let same : w.in-Some.message ≡ m = (let a = w.in-Some.is in cc) in
          let was = c.requires.sent.sound m (sym (ap (λ n. slice_index_or c.args.sent.now n false) same) ∙ w.if-not-sent-message.false) in
          (was.0, was.2))
      | in_default w ↦ one_more events place c.loop-place.invariant (λ m is. absurd (w.in_default.not-Some m is))
    ]

pub returns : goal.returns
returns c place message there waits = c.loop-place.invariant place message (let h = c.loop-place-test.false in let i = c.loop-place.auto.place-end in omega arith) waits
