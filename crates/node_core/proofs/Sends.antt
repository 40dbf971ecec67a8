-- A step that sends a message: what it keeps, and that it leads back.
use Rattle.std.proofs.Common.{◌≡◌, ℕ, ◌<◌, ◌≤◌, not, nat_lt, Bool, true, false, if◌then◌else◌, List, [], ◌∷◌, ◌++◌, length, Option, None, Ok, Err, refl}
use Rattle.std.proofs.Common.{Some, Result, ◌==◌, sym, ap, ◌∙◌, subst, true≢false, arith, length-append}
use Rattle.std.proofs.lemmas.Bool.{and_parts, ltb-true}
use Rattle.std.specs.FinSet as set
use Rattle.dots_core.specs.Dots.{dot_cmp}
use Rattle.dots_core.specs.Names as name_sets
use Rattle.dots_core.proofs.Sets.{contains-retain}
use Rattle.payload_core.specs.Messages.{Message, message_of_names}
use Rattle.payload_core.proofs.SeenEntries.{seen_none, seen-names}
use Rattle.replica_core.specs.declared.node_limits.NodeLimits.{NodeLimits}
use Rattle.replica_core.specs.Replicas.{Replica, delta_message, request_of, without_delta}
use Rattle.replica_core.specs.Refusals.{has_dots}
use Rattle.replica_core.specs.Invariant.{IsReplica}
use Rattle.replica_core.proofs.Invariant.{kept_without_delta}
use Rattle.node_core.specs.declared.step_fault.StepFault.TheVariants.{OwnMessage, OutboxFull}
use Rattle.node_core.specs.Operations.{Operation, Broadcast, Extract, Request, Answer}
use Rattle.node_core.specs.Nodes.{Node, with_sent, is_outbox_full, unless_full, broadcast, answer, answer_asked, take}
use Rattle.node_core.specs.Invariant.{IsMessageOf, AreMessagesOf, IsNode}
use Rattle.node_core.specs.declared.step_fault.StepFault.{StepFault}
use Rattle.node_core.specs.declared.inverse.Inverse as declared
use Rattle.node_core.specs.Inverses.{Inverse, Names, LeadsBack, Takes}

-- a send leads back by its kind; `before` is the node as its parts say it
pub sent : (before n : Node) (s : Operation) (m : Option Message) (now : Node) (inverse : Inverse) →
    before ≡ n → IsNode before → take before s m ≡ Ok now → Names inverse now before →
    (take n s m ≡ Ok now) × LeadsBack inverse now n
sent before n s m now inverse same kept taken names =
    subst (λ n. (take n s m ≡ Ok now) × LeadsBack inverse now n) same
    (taken, record { operation = s; message = m; taken = taken; names = names; earlier = kept })

one_more : (own : ℕ) (ms : List Message) (m : Message) → AreMessagesOf own ms → IsMessageOf own m → AreMessagesOf own (ms ++ m ∷ [])
one_more own [] m all one = (one, tt)
one_more own (x ∷ ms) m all one = (all.0, one_more own ms m all.1 one)

there_is_room : (n : Node) → is_outbox_full n ≡ false → length n.outbox < n.replica.limits.messages
there_is_room n h = ltb-true (length n.outbox) n.replica.limits.messages (go (nat_lt (length n.outbox) n.replica.limits.messages) h)
  where
    go : (b : Bool) → not b ≡ false → b ≡ true
    go true h = refl
    go false h = absurd (cc)

sent_kept : (n : Node) (m : Message) (r : Replica) → IsNode n → r.own ≡ n.replica.own → r.limits ≡ n.replica.limits →
    is_outbox_full n ≡ false → IsReplica r → IsMessageOf n.replica.own m → IsNode (with_sent n m r)
sent_kept n m r h own limits free kept one = record {
  replica = kept;
  few =
      subst (λ (l : NodeLimits). length (n.outbox ++ m ∷ []) ≤ l.messages) (sym limits)
      (let room = there_is_room n free in let longer = length-append n.outbox (m ∷ []) in omega (arith, room, longer));
  messages = subst (λ own. AreMessagesOf own (n.outbox ++ m ∷ [])) (sym own) (one_more n.replica.own n.outbox m h.messages one);
}

delta_sound : (r : Replica) → IsReplica r → IsMessageOf r.own (delta_message r)
delta_sound r h = record { from = refl; valid = λ d e. h.valid d (h.delta_own d e).1; live = h.delta_live }

extract_sound : (named : ℕ → Bool) (r : Replica) → IsReplica r → IsMessageOf r.own (message_of_names named r.own r.store.seen r.store.entries)
extract_sound named r h = record {
  from = refl;
  valid = λ d e. h.valid d (and_parts _ _ (sym (contains-retain r.store.seen (λ d. named d.name) d) ∙ e)).0;
  live = seen-names named r.store.seen r.store.entries h.live;
}

request_sound : (r : Replica) → IsMessageOf r.own (request_of r)
request_sound r = record {
  from = refl;
  valid = λ d e. absurd (true≢false (sym e ∙ set.contains-empty dot_cmp d));
  live = seen_none set.empty;
}

unless_full_ok : (n gives d : Node) → unless_full n gives ≡ Ok d → (is_outbox_full n ≡ false) × (d ≡ gives)
unless_full_ok n gives d h = go (is_outbox_full n) refl h
  where
    go : (b : Bool) → is_outbox_full n ≡ b → (if b then Err OutboxFull else Ok gives) ≡ Ok d → (is_outbox_full n ≡ false) × (d ≡ gives)
    go true e h = absurd (cc)
    go false e h = (e, cc)

broadcast_ok : (some : Bool) (n d : Node) → broadcast some n ≡ Ok d →
    (is_outbox_full n ≡ false) × (d ≡ with_sent n (delta_message n.replica) (without_delta n.replica))
broadcast_ok true n d h = unless_full_ok n (with_sent n (delta_message n.replica) (without_delta n.replica)) d h
broadcast_ok false n d h = absurd (cc)

pub broadcast_kept : (n d : Node) → IsNode n → take n Broadcast None ≡ Ok d → IsNode d
broadcast_kept n d h taken =
    let ok = broadcast_ok (has_dots n.replica.delta.seen) n d taken in
    subst IsNode (sym ok.1) (sent_kept n (delta_message n.replica) (without_delta n.replica) h refl refl ok.0
    (kept_without_delta n.replica h.replica) (delta_sound n.replica h.replica))

pub extract_kept : (n d : Node) (asked : name_sets.Names) → IsNode n → take n (Extract asked) None ≡ Ok d → IsNode d
extract_kept n d asked h taken =
    let message = message_of_names (set.contains asked) n.replica.own n.replica.store.seen n.replica.store.entries in
    let ok = unless_full_ok n (with_sent n message n.replica) d taken in
    subst IsNode (sym ok.1) (sent_kept n message n.replica h refl refl ok.0 h.replica
    (extract_sound (set.contains asked) n.replica h.replica))

pub request_kept : (n d : Node) → IsNode n → take n Request None ≡ Ok d → IsNode d
request_kept n d h taken =
    let ok = unless_full_ok n (with_sent n (request_of n.replica) n.replica) d taken in
    subst IsNode (sym ok.1) (sent_kept n (request_of n.replica) n.replica h refl refl ok.0 h.replica (request_sound n.replica))

-- an answer is an extract of the names that are asked for
module _ (n : Node) (sender number : ℕ) (m : Message) (names : name_sets.Names) (other : (sender == n.replica.own) ≡ false)
    (asks : m.asked ≡ Some names) where
  answer_extracts : take n (Answer sender number) (Some m) ≡ take n (Extract names) None
  answer_extracts = ap (λ own. if own then Err OwnMessage else answer n (Some m)) other ∙ ap (λ asked. answer_asked asked n) asks

  pub answered : {X : Type 0} (result : Result (declared.Inverse X) StepFault) (now : Node) → Takes n (Extract names) None result now →
      Takes n (Answer sender number) (Some m) result now
  answered (Ok inverse) now h = (answer_extracts ∙ h.0, h.1)
  answered (Err fault) now h = (h.0, λ known. answer_extracts ∙ h.1 known)
