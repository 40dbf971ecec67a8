-- A message of a node: what a broadcast, an extract or an answer sends, and a delivery merges (after
-- Phoenix.Tracker.State's deltas); or a request, which asks for such a message.
use Rattle.std.specs.Prelude.{◌≡◌, ℕ, zero, suc, Bool, true, List, Option, None, Some, IfSome, slice_get, refl}
use Rattle.std.specs.Coded.{Coded, code_by, coded×, coded_ℕ, coded_option}
use Rattle.std.specs.FinMap as fin
use Rattle.std.specs.FinSet as set
use Rattle.dots_core.specs.declared.dot.Dot.{Dot}
use Rattle.dots_core.specs.Dots.{Dots, dot_code, of_names}
use Rattle.dots_core.specs.Names.{Names}
use Rattle.entry_core.specs.Presences.{Entries, entries_code, entries_of_names}

-- a dot that is seen and has no entry was removed; a request has names, and neither dots nor entries
pub record Message : Type 0 where
  pub sender : ℕ
  pub seen : Dots
  pub entries : Entries
  -- the names that a request asks for
  pub asked : Option Names

-- a message is stored as the tuple of its fields
abbrev pub message_code : Coded Message
message_code =
    code_by (ℕ × (Dots × (Entries × Option Names)))
    (coded× coded_ℕ (coded× (set.code dot_code) (coded× entries_code (coded_option (set.code coded_ℕ)))))
    (λ m. (m.sender, (m.seen, (m.entries, m.asked))))
    (λ t. record { sender = t.0; seen = t.1.0; entries = t.1.1.0; asked = t.1.1.1 }) (λ _. refl)

-- each entry's dot is among the seen ones
abbrev pub AreSeen : Dots → Entries → Type 0
AreSeen seen es = (d : Dot) → fin.contains_key es d ≡ true → set.contains seen d ≡ true

-- the message with these dots and entries
abbrev pub store_message : ℕ → Dots → Entries → Message
store_message sender seen es = record { sender = sender; seen = seen; entries = es; asked = None }

-- the request that asks for these names
abbrev pub request_message : ℕ → Names → Message
request_message sender names = record { sender = sender; seen = set.empty; entries = fin.empty; asked = Some names }

-- what each message keeps: the dots of its entries are seen, and a request has names alone
pub record IsMessage (m : Message) : Type 0 where
  pub live : AreSeen m.seen m.entries
  pub bare : IfSome m.asked (λ names. m ≡ request_message m.sender names)

-- the message of what its sender has seen and holds, for the names that pass the test
abbrev pub message_of_names : (ℕ → Bool) → ℕ → Dots → Entries → Message
message_of_names named sender seen es = store_message sender (of_names named seen) (entries_of_names named es)

-- the message of a number, counted from 1
abbrev pub numbered : {X : Type 0} → List X → ℕ → Option X
numbered xs zero = None
numbered xs (suc place) = slice_get xs place
