-- The dots of each message that a node sent are valid.
use Rattle.std.proofs.Common.{◌≡◌, ◌⊎◌, inl, inr, ℕ, zero, suc, ◌<◌, ◌≤◌, List, [], ◌∷◌, Option, Some, None, slice_get, sym, ap, ◌∙◌, refl, subst, arith, length}
use Rattle.std.proofs.lemmas.Bool.{cases_lt}
use Rattle.std.proofs.lemmas.Option.{slice_get_within}
use Rattle.dots_core.specs.Dots.{AreValid}
use Rattle.payload_core.specs.Messages.{Message, numbered}
use Rattle.node_core.specs.Invariant.{AreMessagesOf, IsNode}
use Rattle.node_core.specs.Nodes.{Node}
use Rattle.bench_core.specs.Benches.{IsMachine}
use Rattle.bench_core.specs.Machine.{Machine}
use Rattle.report_core.specs.Shown.{node_in, node_of}
use Rattle.page_data.specs.Carried.{message_in}
use Rattle.page_data.specs.Chains.{AreSentValid, IsSentValid}

numbered_valid : (sender : ℕ) (messages : List Message) (number : ℕ) (message : Message) → AreMessagesOf sender messages →
    numbered messages number ≡ Some message → AreValid message.seen
numbered_valid sender messages zero message all h = absurd (cc)
numbered_valid sender [] (suc i) message all h = absurd (cc)
numbered_valid sender (m ∷ messages) (suc zero) message all h =
    let same : m ≡ message = cc in subst (λ (m : Message). AreValid m.seen) same all.0.valid
numbered_valid sender (m ∷ messages) (suc (suc i)) message all h = numbered_valid sender messages (suc i) message all.1 h

pub node_valid : (m : Machine) (n : ℕ) (x : Node) → node_of m n ≡ Some x → IsNode x → IsSentValid m n
node_valid m n x there kept number message sent =
    numbered_valid x.replica.own x.outbox number message kept.messages (ap (λ (o : Option Node). message_in o number) (sym there) ∙ sent)

pub no_node_valid : (m : Machine) (n : ℕ) → node_of m n ≡ None → IsSentValid m n
no_node_valid m n none number message sent =
    let nothing : None ≡ Some message = ap (λ (o : Option Node). message_in o number) (sym none) ∙ sent in absurd (cc)

-- no further node has a number above these
pub all_valid : (m : Machine) → IsMachine m → ((n : ℕ) → n < length m.names → IsSentValid m n) → AreSentValid m
unfolding node_of
all_valid m kept low n = go (cases_lt n (length m.names))
  where
    none : (o : Option Node) → slice_get kept.cluster.cluster n ≡ o → length m.names ≤ n → IsSentValid m n
    none None is high = no_node_valid m n (ap (λ r. node_in r n) kept.cluster.is_now ∙ is)
    none (Some x) is high =
        let within = slice_get_within kept.cluster.cluster n x is in
        let size = kept.cluster.size in
        absurd (omega (arith, within, size, high))

    go : (n < length m.names) ⊎ (length m.names ≤ n) → IsSentValid m n
    go (inl inside) = low n inside
    go (inr high) = none (slice_get kept.cluster.cluster n) refl high
