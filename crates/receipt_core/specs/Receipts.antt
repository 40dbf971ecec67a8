-- What a worker tells of a call.
use Rattle.std.specs.Prelude.{◌≡◌, ℕ, List, [], ◌∷◌, ◌++◌, length, Option, MatchOption, refl}
use Rattle.std.specs.Coded.{Coded, code_by, coded×, coded_ℕ, coded_option}
use Rattle.bench_core.specs.declared.reply.Reply.{Reply}
use Rattle.bench_core.specs.Acts.{Action, action_code}
use Rattle.bench_core.specs.Machine.{Event}

-- a call of a line, with its reply and the place of its event, if it was recorded
pub record Receipt : Type 0 where
  pub actor : ℕ
  pub line : ℕ
  pub act : Action
  pub reply : Reply
  pub place : Option ℕ

abbrev pub receipt_code : Coded Reply → Coded Receipt
receipt_code reply_code =
    code_by (ℕ × (ℕ × (Action × (Reply × Option ℕ))))
    (coded× coded_ℕ (coded× coded_ℕ (coded× action_code (coded× reply_code (coded_option coded_ℕ)))))
    (λ r. (r.actor, (r.line, (r.act, (r.reply, r.place)))))
    (λ t. record { actor = t.0; line = t.1.0; act = t.1.1.0; reply = t.1.1.1.0; place = t.1.1.1.1 }) (λ _. refl)

-- the event of a receipt
abbrev pub event_of : Receipt → Event
event_of r = record { actor = r.actor; act = r.act; reply = r.reply }

-- the place, from 1, is that of the call's event, which was appended to the history; there is none if the history didn't change
abbrev pub IsPlaced : Receipt → List Event → List Event → Type 0
IsPlaced r old new = MatchOption r.place (new ≡ old) (λ p. (new ≡ old ++ event_of r ∷ []) × (p ≡ length new))
