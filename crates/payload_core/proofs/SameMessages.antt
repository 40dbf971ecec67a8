-- When two messages are the same.
use Rattle.std.proofs.Common.{◌≡◌, ◌∙◌, Bool, true, false, sym, ap, true≢false}
use Rattle.std.specs.Prelude.{IsTrue, ◌↔◌}
use Rattle.payload_core.specs.Messages.{Message}

-- two messages of the same sender, dots and entries are the same where they ask for the same
pub messages_same : (r : Bool) (one second m n : Message) → one ≡ m → second ≡ n → second.sender ≡ one.sender → one.seen ≡ second.seen →
    one.entries ≡ second.entries → IsTrue r ↔ (one.asked ≡ second.asked) → IsTrue r ↔ (m ≡ n)
messages_same r one second m n one_is second_is sender seen entries asked = (
  λ yes. sym one_is ∙ (λ i. record { sender = sym sender i; seen = seen i; entries = entries i; asked = asked.0 yes i }) ∙ second_is,
  λ same. asked.1 (ap (λ (x : Message). x.asked) (one_is ∙ same ∙ sym second_is)),
)

pub not_same : {X : Type 0} (r : Bool) (m n : X) → r ≡ false → (m ≡ n → ⊥) → IsTrue r ↔ (m ≡ n)
not_same r m n none never = (λ yes. absurd (true≢false (sym yes ∙ none)), λ same. absurd (never same))
