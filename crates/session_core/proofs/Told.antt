-- What a bench recorded can be told by its JSON.
use Rattle.std.proofs.Common.{◌≡◌, true, List, [], ◌∷◌}
use Rattle.std.specs.List.{AllByRecursion}
use Rattle.bench_core.specs.declared.reply.Reply.{Reply}
use Rattle.bench_core.specs.declared.reply.Reply.TheVariants.{Refused}
use Rattle.bench_core.specs.declared.fault.Fault.{Fault}
use Rattle.bench_core.specs.declared.fault.Fault.TheVariants.{HistoryFull, OutOfMemory}
use Rattle.bench_core.specs.Machine.{Config, State, Event, is_recorded, after, reply_to}
use Rattle.bench_core.specs.Replays.{Replays, NoMemoryLaw}
use Rattle.event_core.specs.Told.{IsEvent, IsRecordedFault, IsRecordedReply, IsTold}

module _ (none : NoMemoryLaw) where
  fault_told : (c : Config) (s : State) (e : Event) (fault : Fault) → reply_to c s e.actor e.act ≡ Refused fault →
      is_recorded c s (Refused fault) ≡ true → IsRecordedFault fault
  fault_told c s e HistoryFull is recorded = absurd (cc)
  fault_told c s e OutOfMemory is recorded = absurd (none c s e.actor e.act is)
  fault_told c s e _ is recorded = tt

  reply_told : (c : Config) (s : State) (e : Event) (r : Reply) → reply_to c s e.actor e.act ≡ r → is_recorded c s r ≡ true → IsRecordedReply r
  reply_told c s e (Refused fault) is recorded = fault_told c s e fault is recorded
  reply_told c s e _ is recorded = tt

  pub told : (c : Config) (s last : State) (events : List Event) → Replays c s events last → AllByRecursion IsEvent events → AllByRecursion IsTold events
  told c s last [] replays each = tt
  told c s last (e ∷ es) (recs, more) each =
      ((each.0, reply_told c s e e.reply recs.0 recs.1), told c (after c s e.actor e.act e.reply) last es more each.1)
