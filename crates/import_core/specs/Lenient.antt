-- Leaves out deliveries and answers of messages that no event sends.
use Rattle.std.specs.Prelude.{◌≡◌, ℕ, zero, suc, ◌==◌, Bool, true, false, not, List, [], ◌++◌, map, Option, Some, None}
use Rattle.std.specs.List.{filter, list_any}
use Rattle.import_core.specs.Notes.{Note}

abbrev pub is_message : ℕ → Option ℕ → Bool
is_message message None = false
is_message message (Some sent) = message == sent

-- whether one of the events sends the message
unfoldable pub is_sent : List Note → ℕ → Bool
is_sent notes message = list_any (λ note. is_message message note.logged.sends) notes

-- whether the message that an event waits for passes the test; true if it waits for none
abbrev pub has_awaited : (ℕ → Bool) → Option ℕ → Bool
has_awaited test None = true
has_awaited test (Some message) = test message

-- the lines of the events that wait for a message which doesn't pass the test
abbrev pub lines_gone : (ℕ → Bool) → List Note → List ℕ
lines_gone test notes = map (λ note. note.number) (filter (λ note. not (has_awaited test note.logged.waits)) notes)

-- whether the event waits for no message, or for one that one of these events sends
abbrev pub can_stay : List Note → Note → Bool
can_stay notes note = has_awaited (is_sent notes) note.logged.waits

-- the events that one round leaves: those that wait for no message, or for one that one of the events sends
unfoldable pub staying : List Note → List Note
staying notes = filter (can_stay notes) notes

-- the lines of the events that one round leaves out
unfoldable pub gone : List Note → List ℕ
gone notes = lines_gone (is_sent notes) notes

-- the events left after this number of rounds, each over what the round before it left
unfoldable pub after_rounds : ℕ → List Note → List Note
after_rounds zero notes = notes
after_rounds (suc rounds) notes = staying (after_rounds rounds notes)

-- the lines of the events that these rounds leave out, round by round
unfoldable pub gone_in_rounds : ℕ → List Note → List ℕ
gone_in_rounds zero notes = []
gone_in_rounds (suc rounds) notes = gone_in_rounds rounds notes ++ gone (after_rounds rounds notes)

-- `rest` are the events that stay, as each waits for no message or for one that one of them sends; the others went in rounds, and
-- `left_out` are their lines
pub record IsLenient (notes rest : List Note) (left_out : List ℕ) : Type 0 where
  pub rounds : ℕ
  pub rest_are : rest ≡ after_rounds rounds notes
  pub left_are : left_out ≡ gone_in_rounds rounds notes
  pub done : gone rest ≡ []

-- all events stay, unless the import is lenient
abbrev pub Stay : Bool → List Note → List Note → List ℕ → Type 0
Stay false notes rest left_out = (rest ≡ notes) × (left_out ≡ [])
Stay true notes rest left_out = IsLenient notes rest left_out
