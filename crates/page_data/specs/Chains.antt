-- The tracks by which `explain` finds its chains, with what the data tells of deliveries; and that the data tells it of a run with undos, too.
use Rattle.std.specs.Prelude.{◌≡◌, ℕ, zero, suc, ◌<◌, ◌||◌, Bool, if◌then◌else◌, List, [], ◌∷◌, length, filter, Option, Some, None}
use Rattle.dots_core.specs.declared.dot.Dot.{Dot}
use Rattle.dots_core.specs.Dots.{AreValid}
use Rattle.payload_core.specs.Messages.{Message}
use Rattle.node_core.specs.Operations.{Operation, delivers, sends}
use Rattle.journal_core.specs.Journals.{Kept, find_number, last_of, source_of, steps_before}
use Rattle.bench_core.specs.Headline.{IsReached}
use Rattle.bench_core.specs.declared.reply.Reply.TheVariants.{Taken}
use Rattle.bench_core.specs.Acts.{Do}
use Rattle.bench_core.specs.Machine.{Event, Machine, config_of}
use Rattle.report_core.specs.ActTexts.{after_act, reply_of}
use Rattle.report_core.specs.Shown.{node_of}
use Rattle.explain_core.specs.Findings.{chain, is_came}
use Rattle.explain_core.specs.Standings.{is_same, last_message, standing_at, standing_sent}
use Rattle.explain_core.specs.Tracks.{Track, after_step, hop_of, is_sent, no_track, opened, sent_hop, stand_at, track_of, with_hop, with_stand}
use Rattle.explain_core.specs.declared.hop.Hop.{Hop}
use Rattle.explain_core.specs.declared.hop.Kind.TheVariants.{Came}
use Rattle.explain_core.specs.declared.hop.Stand.{Stand}
use Rattle.explain_core.specs.declared.standing.Standing.{Standing}
use Rattle.explain_core.specs.declared.standing.Standing.TheVariants.{Unseen, Live, Gone}
use Rattle.page_data.specs.Carried.{hops_at, message_in}
use Rattle.page_data.specs.Laws.{after_calls, stands_by}
use Rattle.page_data.specs.PageData.{arrival_keys}

-- the number of a standing in the data
abbrev pub number_of : Standing → ℕ
number_of Unseen = 0
number_of Live = 1
number_of Gone = 2

-- the standing with this number
abbrev pub with_number : ℕ → Standing
with_number zero = Unseen
with_number (suc zero) = Live
with_number (suc (suc n)) = Gone

-- how a dot that stood as `before` stands at a node after a delivery, by the `hops` of the delivery, which are told on the machine before it
abbrev pub by_hops : Machine → ℕ → ℕ × ℕ → Dot → Standing → Standing
by_hops asked node p d before =
    with_number (stands_by (hops_at (node_of asked node) (message_in (node_of asked p.0) p.1) (length asked.names)) d (number_of before))

-- how a dot that stood as `before` stands at the step's node after the step: after a send as before, after a delivery by its `hops`, and after
-- another step as it does on the machine after that

abbrev pub received_by : Machine → Machine → Kept → Dot → Standing → Option (ℕ × ℕ) → Standing
received_by asked next k d before None = standing_at next k.node d
received_by asked next k d before (Some p) = by_hops asked k.node p d before

abbrev pub told_after : Machine → Machine → Kept → Dot → Standing → Standing
told_after asked next k d before = if sends k.step then before else received_by asked next k d before (delivers k.step)

-- a delivery of a message that step `from` sent: if the dot stands otherwise after it than before, it came
abbrev pub came_hop : Kept → Stand → Standing → Option ℕ → Option Hop
came_hop k before after from = if is_same before.standing after then None else Some (hop_of k Came after 0 from)

abbrev pub told_received : Machine → Machine → Kept → Dot → Stand → Option (ℕ × ℕ) → Option Hop
told_received m asked k d before None = None
told_received m asked k d before (Some p) = came_hop k before (by_hops asked k.node p d before.standing) (source_of m.state.remaining k.step)

-- what a step did to the dot, if it sent or delivered it: a send by how the dot stands in its message, a delivery by its `hops` and `from`
abbrev pub told_hop : Machine → Machine → Machine → Kept → Dot → Stand → Option Hop
told_hop m asked next k d before =
    if sends k.step then sent_hop k before (last_message next k.node) (standing_sent next k.node (last_message next k.node) d)
    else told_received m asked k d before (delivers k.step)

-- the track after a step; `asked` is the machine before the step
unfoldable pub told_followed : Machine → Machine → Kept → Dot → Track → Track
told_followed m asked k d t =
    record {
      stands = with_stand t.stands k (told_after asked (after_step asked k) k d (stand_at t.stands k.node).standing);
      hops = with_hop t.hops (told_hop m asked (after_step asked k) k d (stand_at t.stands k.node));
    }

unfoldable pub told_from : Machine → Dot → Machine → List Kept → Track → Track
told_from m d asked [] t = t
told_from m d asked (k ∷ ks) t = told_from m d (after_step asked k) ks (told_followed m asked k d t)

-- the track of a dot, without the steps that missed or forgot it, by the `hops` and `from` of deliveries: of the remaining steps, asked again of
-- a fresh bench
unfoldable pub told_track : Machine → Dot → Track
told_track m d = told_from m d (opened m) m.state.remaining (no_track (length m.names))

-- the dots of each message that the node sent are valid, as those of each set of dots are
abbrev pub IsSentValid : Machine → ℕ → Type 0
IsSentValid m node = (number : ℕ) (message : Message) → message_in (node_of m node) number ≡ Some message → AreValid message.seen

-- each node's are
abbrev pub AreSentValid : Machine → Type 0
AreSentValid m = (node : ℕ) → IsSentValid m node

-- whether the step sent the dot, or brought it to its node
abbrev pub is_move : Hop → Bool
is_move h = is_sent h.kind || is_came h.kind

-- in a bench that calls lead to, the track by the `hops` and `from` of deliveries is that which `explain` follows, without the steps that missed
-- or forgot the dot; so the chain to each step is the same
abbrev pub TrackLaw : Type 0
TrackLaw =
    (m : Machine) (d : Dot) → IsReached (config_of m) m.state → AreSentValid m → d.name < length m.names →
    record {
      stands : (told_track m d).stands ≡ (track_of m d).stands;
      hops : (told_track m d).hops ≡ filter is_move (track_of m d).hops;
      chains : (by : Option ℕ) → chain (told_track m d).hops by ≡ chain (track_of m d).hops by;
    }

-- the machine after these steps
unfoldable pub after_steps : Machine → List Kept → Machine
after_steps asked [] = asked
after_steps asked (k ∷ ks) = after_steps (after_step asked k) ks

-- the machine before step n, if the remaining steps are asked again of a fresh bench
abbrev pub before_step : Machine → ℕ → Machine
before_step m n = after_steps (opened m) (steps_before m.state.remaining n)

-- a step that remains was told, on the machine `recorded` right before its recorded call, as it is told if the remaining steps are asked again:
-- its node and the message that it delivers are the same, so `missed` and `hops` are; `prev` and `from` name the same steps
pub record IsToldAlike (recorded m : Machine) (k : Kept) : Type 0 where
  pub own : node_of recorded k.node ≡ node_of (before_step m k.number) k.node
  pub message : (p : ℕ × ℕ) → delivers k.step ≡ Some p →
      message_in (node_of recorded p.0) p.1 ≡ message_in (node_of (before_step m k.number) p.0) p.1
  pub arrival : arrival_keys recorded k.node k.step ≡ arrival_keys (before_step m k.number) k.node k.step
  pub prev : last_of recorded.state.remaining k.node ≡ last_of (steps_before m.state.remaining k.number) k.node
  pub from : source_of recorded.state.remaining k.step ≡ source_of m.state.remaining k.step

-- the machine after a step was asked and further calls were made
abbrev pub after_more : Machine → ℕ → Operation → List Event → Machine
after_more m actor operation later = after_calls (after_act m actor (Do operation)) later

-- a step that was taken as number n, and remains after whatever calls came later, was told in its recorded call as it is told if the remaining
-- steps are asked again
abbrev pub RecordedLaw : Type 0
RecordedLaw =
    (m : Machine) (later : List Event) (actor n : ℕ) (operation : Operation) (k : Kept) → IsReached (config_of m) m.state →
    reply_of m actor (Do operation) ≡ Taken n → find_number (after_more m actor operation later).state.remaining n ≡ Some k →
    (k ≡ record { number = n; node = actor; step = operation }) × IsToldAlike m (after_more m actor operation later) k
