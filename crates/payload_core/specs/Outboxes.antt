-- What a contract sees of an outbox: how many messages it may hold, those that it holds, and for how many more there is room.
use Rattle.std.specs.Prelude.{ℕ, List, refl}
use Rattle.std.specs.Coded.{Coded, code_by, coded×, coded_ℕ, coded_list}
use Rattle.payload_core.specs.Messages.{Message, message_code}

-- the messages stand in the order of their numbers; outboxes with the same limit and messages may differ in their room
pub record Outbox : Type 0 where
  pub limit : ℕ
  pub messages : List Message
  pub room : ℕ

-- an outbox is stored as the tuple of its fields
abbrev pub outbox_code : Coded Outbox
outbox_code =
    code_by (ℕ × (List Message × ℕ)) (coded× coded_ℕ (coded× (coded_list message_code) coded_ℕ)) (λ o. (o.limit, (o.messages, o.room)))
    (λ t. record { limit = t.0; messages = t.1.0; room = t.1.1 }) (λ _. refl)
