-- The nodes and messages of notes are among those that are numbered.
use Rattle.std.proofs.Common.{◌≡◌, ℕ, zero, suc, ◌<◌, List, [], ◌∷◌, length, slice_index_or, Option, Some, None, sym, ◌∙◌, subst, arith}
use Rattle.std.specs.List.{AllByRecursion as Each}
use Rattle.std.proofs.lemmas.List.{get_or_default}
use Rattle.node_core.specs.Operations.{Operation, Join, Leave, LeaveAll, Update, Broadcast, Extract, Deliver, Request, Answer, Up, Down, Permdown}
use Rattle.event_order.specs.declared.logged.Logged.{Logged}
use Rattle.event_order.specs.Ordering.{node_at, waits_at, sends_at, HasNodes, HasMessages, IsOrdered}
use Rattle.log_core.specs.Events as log
use Rattle.serde_json.specs.Data.{Data}
use Rattle.import_core.specs.Tables.{AllTables, IsMessageOf, message_text}
use Rattle.import_core.specs.Steps.{IsStepOf, IsSentOf}
use Rattle.import_core.specs.Notes.{Note, IsMaybeStepOf, IsNoteOf, AreNotesOf, awaited, logged_of}
use Rattle.import_core.specs.Imports.{no_note}
use Rattle.log_core.specs.Lines.{Numbered}
use Rattle.import_core.proofs.Numbers.{at_number}

-- the message that the step takes is one of so many
abbrev pub KnowsMessages : ℕ → Operation → Type 0
KnowsMessages messages (Deliver sender message) = message < messages
KnowsMessages messages (Answer sender message) = message < messages
KnowsMessages messages step = Unit {0}

abbrev pub KnowsAll : ℕ → Option Operation → Type 0
KnowsAll messages None = Unit {0}
KnowsAll messages (Some step) = KnowsMessages messages step

module _ (t : AllTables) where
  abbrev messages : ℕ
  messages = length t.messages

  known : (sender : ℕ) (d : Data) (message : ℕ) → IsMessageOf t sender d message → message < messages
  known sender d message is = (at_number t.messages (message_text sender is.text) message is.numbered).0

  step_knows : (event : log.Event) (step : Operation) → IsStepOf t event step → KnowsMessages messages step
  step_knows (log.join tracked) step (p, is, here) = subst (KnowsMessages messages) (sym is) tt
  step_knows (log.update tracked) step (p, is, here) = subst (KnowsMessages messages) (sym is) tt
  step_knows (log.leave pid topic key) step (n, v, w, is, at_pid, at_topic, at_key) = subst (KnowsMessages messages) (sym is) tt
  step_knows (log.leave_all pid) step (n, is, here) = subst (KnowsMessages messages) (sym is) tt
  step_knows (log.broadcast message) step is = subst (KnowsMessages messages) (sym is) tt
  step_knows (log.request message) step is = subst (KnowsMessages messages) (sym is) tt
  step_knows (log.extract names message) step (nodes, is, here) = subst (KnowsMessages messages) (sym is) tt
  step_knows (log.deliver from message) step (n, k, is, here, told) = subst (KnowsMessages messages) (sym is) (known n message k told)
  step_knows (log.answer from message sends) step (n, k, is, here, told) = subst (KnowsMessages messages) (sym is) (known n message k told)
  step_knows (log.up name) step (n, is, here) = subst (KnowsMessages messages) (sym is) tt
  step_knows (log.down name) step (n, is, here) = subst (KnowsMessages messages) (sym is) tt
  step_knows (log.permdown name) step (n, is, here) = subst (KnowsMessages messages) (sym is) tt
  step_knows (log.online rows) step is = absurd is

  maybe_knows : (event : log.Event) (step : Option Operation) → IsMaybeStepOf t event step → KnowsAll messages step
  maybe_knows event None is = tt
  maybe_knows event (Some step) is = step_knows event step is

  -- what a step awaits is what it takes
  awaited_known : (step : Operation) (m : ℕ) → KnowsMessages messages step → awaited (Some step) ≡ Some m → m < messages
  awaited_known (Join presence) m knows e = absurd (cc)
  awaited_known (Leave pid topic key) m knows e = absurd (cc)
  awaited_known (LeaveAll pid) m knows e = absurd (cc)
  awaited_known (Update presence) m knows e = absurd (cc)
  awaited_known Broadcast m knows e = absurd (cc)
  awaited_known (Extract names) m knows e = absurd (cc)
  awaited_known (Deliver sender number) m knows e = let same : number ≡ m = cc in subst (λ n. n < messages) same knows
  awaited_known Request m knows e = absurd (cc)
  awaited_known (Answer sender number) m knows e = let same : number ≡ m = cc in subst (λ n. n < messages) same knows
  awaited_known (Up name) m knows e = absurd (cc)
  awaited_known (Down name) m knows e = absurd (cc)
  awaited_known (Permdown name) m knows e = absurd (cc)

  maybe_awaited : (step : Option Operation) (m : ℕ) → KnowsAll messages step → awaited step ≡ Some m → m < messages
  maybe_awaited None m knows e = absurd (cc)
  maybe_awaited (Some step) m knows e = awaited_known step m knows e

  none_sent : (o : Option ℕ) (m : ℕ) → o ≡ None → o ≡ Some m → m < messages
  none_sent o m none e = absurd (cc)

  one_sent : (node : ℕ) (d : Data) (o : Option ℕ) (m : ℕ) → (k : ℕ) × (o ≡ Some k) × IsMessageOf t node d k → o ≡ Some m → m < messages
  one_sent node d o m (k, is, here) e = let same : k ≡ m = cc in subst (λ n. n < messages) same (known node d k here)

  sent_known : (node : ℕ) (event : log.Event) (sends : Option ℕ) (m : ℕ) → IsSentOf t node event sends → sends ≡ Some m → m < messages
  sent_known node (log.join tracked) sends m is e = none_sent sends m is e
  sent_known node (log.update tracked) sends m is e = none_sent sends m is e
  sent_known node (log.leave pid topic key) sends m is e = none_sent sends m is e
  sent_known node (log.leave_all pid) sends m is e = none_sent sends m is e
  sent_known node (log.broadcast message) sends m is e = one_sent node message sends m is e
  sent_known node (log.request message) sends m is e = one_sent node message sends m is e
  sent_known node (log.extract names message) sends m is e = one_sent node message sends m is e
  sent_known node (log.deliver from message) sends m is e = none_sent sends m is e
  sent_known node (log.answer from message answer) sends m is e = one_sent node answer sends m is e
  sent_known node (log.up name) sends m is e = none_sent sends m is e
  sent_known node (log.down name) sends m is e = none_sent sends m is e
  sent_known node (log.permdown name) sends m is e = none_sent sends m is e
  sent_known node (log.online rows) sends m is e = none_sent sends m is e

  -- what is known of a note by itself
  pub record IsKnown (n : Note) : Type 0 where
    pub few : n.logged.node < 32
    pub step : KnowsAll messages n.step
    pub waits : (m : ℕ) → n.logged.waits ≡ Some m → m < messages
    pub sends : (m : ℕ) → n.logged.sends ≡ Some m → m < messages

  note_known : (event : Numbered) (n : Note) → IsNoteOf t event n → IsKnown n
  note_known event n is = record {
    few = is.few;
    step = maybe_knows event.line.event n.step is.step;
    waits = λ m e. maybe_awaited n.step m (maybe_knows event.line.event n.step is.step) (sym is.waits ∙ e);
    sends = λ m e. sent_known n.logged.node event.line.event n.logged.sends m is.sends e;
  }

  pub notes_known : (lines : List Numbered) (notes : List Note) → AreNotesOf t lines notes → Each IsKnown notes
  notes_known [] [] are = tt
  notes_known [] (n ∷ ns) are = elim are [ ]
  notes_known (l ∷ ls) [] are = elim are [ ]
  notes_known (l ∷ ls) (n ∷ ns) are = (note_known l n are.0, notes_known ls ns are.1)

  -- by its place
  few_at : (notes : List Note) → Each IsKnown notes → (place : ℕ) → place < length (logged_of notes) → node_at (logged_of notes) place < 32
  few_at [] all place there = absurd (omega arith)
  few_at (n ∷ ns) all zero there = all.0.few
  few_at (n ∷ ns) all (suc place) there = few_at ns all.1 place (omega arith)

  waits_known : (notes : List Note) → Each IsKnown notes → (place m : ℕ) → waits_at (logged_of notes) place ≡ Some m → m < messages
  waits_known [] all place m e = absurd (cc)
  waits_known (n ∷ ns) all zero m e = all.0.waits m e
  waits_known (n ∷ ns) all (suc place) m e = waits_known ns all.1 place m e

  sends_known : (notes : List Note) → Each IsKnown notes → (place m : ℕ) → sends_at (logged_of notes) place ≡ Some m → m < messages
  sends_known [] all place m e = absurd (cc)
  sends_known (n ∷ ns) all zero m e = all.0.sends m e
  sends_known (n ∷ ns) all (suc place) m e = sends_known ns all.1 place m e

  step_at : (notes : List Note) → Each IsKnown notes → (place : ℕ) → place < length notes → KnowsAll messages (slice_index_or notes place no_note).step
  step_at [] all place there = tt
  step_at (n ∷ ns) all zero there = all.0.step
  step_at (n ∷ ns) all (suc place) there = step_at ns all.1 place (omega arith)

  module _ (lines : List Numbered) (notes : List Note) (are : AreNotesOf t lines notes) where
    pub has_nodes : HasNodes 32 (logged_of notes)
    has_nodes = few_at notes (notes_known lines notes are)

    pub has_messages : HasMessages (length t.messages) (logged_of notes)
    has_messages = record { waits = waits_known notes (notes_known lines notes are); sends = sends_known notes (notes_known lines notes are) }

    pub knows_all : (place : ℕ) → place < length notes → KnowsAll (length t.messages) (slice_index_or notes place no_note).step
    knows_all = step_at notes (notes_known lines notes are)

-- the places of an order
pub places_known : (events : List Logged) (order : List ℕ) → IsOrdered events order → (k d : ℕ) → k < length order → slice_index_or order k d < length events
places_known events order is k d low = subst (λ n. n < length events) (get_or_default order k 0 d low) (is.is.begun.each k low).there
