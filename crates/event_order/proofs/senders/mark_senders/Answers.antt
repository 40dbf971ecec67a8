use Rattle.std.proofs.Common.{◌≡◌, ◌+◌, ◌<◌, ℕ, length, arith, subst, sym, ap, ◌∙◌, slice_index_or, true, false, Some}
use Rattle.event_order.specs.Ordering.{sends_at}
use Rattle.event_order.specs.Walks.{IsSentUpTo, NoTwiceUpTo}
use Rattle.event_order.proofs.SentOnce.{one_sent, none_sent, once_more}
use Rattle.event_order.proofs.senders.mark_senders.Goals as goal
use Rattle.event_order.proofs.senders.mark_senders.Goals.{in-Some+else-sent-message, in_default}

pub loop-place-preserved : goal.loop-place-preserved
loop-place-preserved c =
    let events = c.args.events.now in
    let place = c.loop-place.place in
    let sent = c.loop-place.sent in
    let old = c.loop-place.invariant in
    let long : length c.match-event.sent ≡ length c.args.sent.now = c.match-event.auto.sent ∙ old.long in
    elim c.match-event.branch [
      | in-Some+else-sent-message w ↦ (
          let low : w.in-Some.message < length sent = subst (λ n. w.in-Some.message < n) (sym old.long) (c.requires.messages.sends place w.in-Some.message w.in-Some.is) in
          let new : (m : ℕ) → sends_at events place ≡ Some m → slice_index_or sent m false ≡ true → ⊥ = λ m is h.
          let same : w.in-Some.message ≡ m = (let a = w.in-Some.is in cc) in
          let no = ap (λ n. slice_index_or sent n false) same in
          let was = w.if-sent-message.false in cc in
          record {
            long = long;
            sent = subst (λ s. IsSentUpTo events (place + 1) s) (sym w.sent-is) (one_sent events place sent old.sent w.in-Some.message low w.in-Some.is);
            once = once_more events place sent old.sent new old.once;
          })
      | in_default w ↦ record {
        long = long;
        sent = subst (λ s. IsSentUpTo events (place + 1) s) (sym w.sent-is) (none_sent events place sent old.sent w.in_default.is);
        once = once_more events place sent old.sent (λ m is h. w.in_default.not-Some m is) old.once;
      }
    ]

pub returns : goal.returns
returns c = let at : c.loop-place.place ≡ length c.args.events.now = (let h = c.loop-place-test.false in let i = c.loop-place.auto.place-end in omega arith) in
    (subst (λ n. IsSentUpTo c.args.events.now n c.loop-place.sent) at c.loop-place.invariant.sent, subst (λ n. NoTwiceUpTo c.args.events.now n) at c.loop-place.invariant.once)
