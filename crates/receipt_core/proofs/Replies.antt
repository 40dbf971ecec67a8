-- The replies of a history that the machine replays are the machine's, each at its place.
use Rattle.std.proofs.Common.{◌≡◌, ℕ, zero, suc, ◌+◌, ◌-◌, List, [], ◌∷◌, length, map, take, slice_get, Some, refl, sym, subst}
use Rattle.std.specs.List.{AllByRecursion}
use Rattle.bench_core.specs.Acts.{Action}
use Rattle.bench_core.specs.Headline.{IsReached}
use Rattle.bench_core.specs.Machine.{Config, State, Event, Machine, config_of, opening_state, calls, call, reply_to, after}
use Rattle.bench_core.specs.Replays.{Records, Replays, ReplayLaw}
use Rattle.receipt_core.specs.Receipts.{Receipt}
use Rattle.receipt_core.specs.Agree.{Line, named, lines_of, AreReceiptsOf, AreAllReceipts, Agrees}
use Rattle.receipt_core.specs.Replies.{call_of, IsMachineReply, AreMachineReplies}

-- the reply at a place, of events that were asked from `old` on
reply_at : (c : Config) (old new : State) (es : List Event) (k : ℕ) (e : Event) → Replays c old es new → slice_get es k ≡ Some e →
    e.reply ≡ reply_to c (calls c old (map call_of (take k es))) e.actor e.act
reply_at c old new [] k e replays at = absurd cc
reply_at c old new (x ∷ es) zero e replays at =
    let same : x ≡ e = cc in
    rw (sym same) (sym replays.0.0)
reply_at c old new (x ∷ es) (suc k) e replays at =
    let next : after c old x.actor x.act x.reply ≡ call c old x.actor x.act = rw replays.0.0 refl in
    reply_at c (call c old x.actor x.act) new es k e (subst (λ s. Replays c s es new) next replays.1) at

module _ (c : Config) (s : State) (replays : Replays c opening_state s.history s) where
  receipts_replies : (last : ℕ) (ls : List Line) (rs : List Receipt) → AreReceiptsOf s.history last ls rs →
      AllByRecursion (IsMachineReply c s.history) rs
  receipts_replies last [] [] a = tt
  receipts_replies last [] (r ∷ rs) a = absurd a
  receipts_replies last (l ∷ ls) [] a = absurd a
  receipts_replies last (l ∷ ls) (r ∷ rs) a =
      let e : Event = record { actor = l.actor; act = l.act; reply = r.reply } in
      let told : r.reply ≡ reply_to c (calls c opening_state (map call_of (take (named r - 1) s.history))) l.actor l.act =
      reply_at c opening_state s s.history (named r - 1) e replays a.0.recorded in
      (rw (a.0.actor, a.0.act) told, receipts_replies (named r) ls rs a.1)

  all_replies : (start : ℕ) (lines : List (ℕ × Action)) (actor : ℕ) (lists : List (List Receipt)) →
      AreAllReceipts s.history start lines actor lists → AreMachineReplies c s.history lists
  all_replies start lines actor [] a = tt
  all_replies start lines actor (rs ∷ lists) a =
      (receipts_replies start (lines_of actor lines) rs a.0, all_replies start lines (actor + 1) lists a.1)

pub agrees_replies : (m : Machine) (before : List Event) (lines : List (ℕ × Action)) (lists : List (List Receipt)) → ReplayLaw →
    IsReached (config_of m) m.state → Agrees before m.state.history lines lists → AreMachineReplies (config_of m) m.state.history lists
agrees_replies m before lines lists law reached a =
    all_replies (config_of m) m.state (law (config_of m) m.state reached) (length before) lines 0 lists a.receipts
