-- What is drawn of each recorded call, in the order of the history.
use Rattle.std.specs.Prelude.{ℕ, ◌+◌, nat_lt, nat_le, ◌&&◌, if◌then◌else◌, Bool, List, [], ◌∷◌, length, Option, Some, None}
use Rattle.grammar_core.specs.Grammar.{longest_line}
use Rattle.node_core.specs.Operations.{Operation, delivers}
use Rattle.journal_core.specs.Journals.{Kept, sender_of}
use Rattle.bench_core.specs.Acts.{Action, Do, Undo, Back}
use Rattle.bench_core.specs.Machine.{Event, Machine}
use Rattle.bench_core.specs.NameList.{Texts}
use Rattle.bench_core.specs.declared.reply.Reply.{Reply}
use Rattle.bench_core.specs.declared.reply.Reply.TheVariants.{Taken, Undone, Refused}
use Rattle.report_core.specs.ActRows.{changed_by}
use Rattle.report_core.specs.ActTexts.{after_act}
use Rattle.report_core.specs.Shown.{node_of_step}
use Rattle.svg_core.specs.Trees.{Tree, Nothing, beside}
use Rattle.picture_core.specs.Shapes.{kind_of, mark, message, number_label, words_label}
use Rattle.picture_core.specs.Shades.{of_message, step_at}
use Rattle.picture_core.specs.Words.{title_of, words_of}
use Rattle.picture_core.specs.declared.kind.Kind.{Kind}
use Rattle.picture_core.specs.declared.kind.Kind.TheVariants as kinds
use Rattle.picture_core.specs.declared.range.Range.{Range}
use Rattle.picture_core.specs.declared.shade.Drawn.{Drawn}

-- whether the row is drawn
abbrev pub is_drawn : Range → ℕ → Bool
is_drawn range row = nat_le range.first row && nat_lt row range.last

-- whether a message that goes from one row to another is seen
abbrev pub is_seen : Range → ℕ → ℕ → Bool
is_seen range from to = nat_lt from range.last && nat_le range.first to

-- the message from the step that sent it to the one that delivers it; nothing if no remaining step sent it, or if it isn't seen
abbrev pub message_between : ℕ → List Drawn → Range → ℕ → ℕ → ℕ → ℕ → Option ℕ → Tree
message_between nodes steps range row number node sender None = Nothing
message_between nodes steps range row number node sender (Some source) =
    if is_seen range (step_at steps source).row row then
    message nodes (kind_of (of_message (step_at steps number).shade (step_at steps source).shade))
    ((step_at steps source).row, sender) (row, node) source number
    else Nothing

abbrev pub message_by : ℕ → List Drawn → Range → ℕ → ℕ → ℕ → List Kept → Option (ℕ × ℕ) → Tree
message_by nodes steps range row number node remaining None = Nothing
message_by nodes steps range row number node remaining (Some m) =
    message_between nodes steps range row number node m.0 (sender_of remaining m.0 m.1)

-- the message that a step delivers; `remaining` has the steps that remained before it
unfoldable pub message_to : ℕ → List Drawn → Range → ℕ → ℕ → ℕ → List Kept → Operation → Tree
message_to nodes steps range row number node remaining operation =
    message_by nodes steps range row number node remaining (delivers operation)

abbrev pub message_of_act : ℕ → List Drawn → Range → ℕ → ℕ → ℕ → List Kept → Action → Tree
message_of_act nodes steps range row number node remaining (Do operation) = message_to nodes steps range row number node remaining operation
message_of_act nodes steps range row number node remaining (Undo other) = Nothing
message_of_act nodes steps range row number node remaining (Back other) = Nothing

abbrev pub message_of_reply : ℕ → List Drawn → Range → ℕ → ℕ → List Kept → Action → Reply → Tree
message_of_reply nodes steps range row node remaining act (Taken number) = message_of_act nodes steps range row number node remaining act
message_of_reply nodes steps range row node remaining act (Undone number) = Nothing
message_of_reply nodes steps range row node remaining act (Refused fault) = Nothing

-- the message that a recorded call delivered; `remaining` has the steps that remained before the call
unfoldable pub message_of : ℕ → List Drawn → Range → List Kept → ℕ → Event → Tree
message_of nodes steps range remaining row e = message_of_reply nodes steps range row e.actor remaining e.act e.reply

-- how a call looks
unfoldable pub looks : List Drawn → Reply → Kind
looks steps (Taken number) = kind_of (step_at steps number).shade
looks steps (Undone number) = kinds.Back
looks steps (Refused fault) = kinds.Refused

-- the node of a remaining step that a call takes back, if it takes one back
abbrev pub node_undone : Machine → Option ℕ → Option ℕ
node_undone m None = None
node_undone m (Some number) = node_of_step m.state.remaining number

-- the node that a call with this reply changed; `of_it` is the node of the step that was taken back
abbrev pub node_changed : ℕ → Reply → Option ℕ → Option ℕ
node_changed actor (Taken number) of_it = Some actor
node_changed actor (Undone number) of_it = of_it
node_changed actor (Refused fault) of_it = None

-- the lane of the call's mark: that of the node which changed; or, if the call was refused, that of its actor, if the actor is a
-- node
abbrev pub lane_of : ℕ → ℕ → Reply → Option ℕ → Option ℕ
lane_of nodes actor (Taken number) changed = changed
lane_of nodes actor (Undone number) changed = changed
lane_of nodes actor (Refused fault) changed = if nat_lt actor nodes then Some actor else None

abbrev pub mark_at : ℕ → ℕ → Kind → List ℕ → Option ℕ → Tree
mark_at nodes row kind title None = Nothing
mark_at nodes row kind title (Some node) = mark nodes node row kind title

abbrev pub number_by : ℕ → Reply → Tree
number_by row (Taken number) = number_label row number
number_by row (Undone number) = Nothing
number_by row (Refused fault) = Nothing

-- a row: the number of its step, its mark at a lane, and its words
unfoldable pub row_tree : ℕ → List Drawn → Option ℕ → ℕ → Reply → List ℕ → List ℕ → Tree
row_tree nodes steps lane row reply title words =
    beside (number_by row reply)
    (beside (mark_at nodes row (looks steps reply) title lane) (words_label nodes row (looks steps reply) words))

-- the row of a recorded call that changed this node, with this title and these words
unfoldable pub row_told : ℕ → List Drawn → Option ℕ → ℕ → Event → List ℕ → List ℕ → Tree
row_told nodes steps changed row e title words = row_tree nodes steps (lane_of nodes e.actor e.reply changed) row e.reply title words

-- the row of a recorded call that changed this node, if the row is drawn
unfoldable pub row_if : ℕ → List Drawn → Range → Option ℕ → ℕ → Event → List ℕ → List ℕ → Tree
row_if nodes steps range changed row e title words =
    if is_drawn range row then row_told nodes steps changed row e title words else Nothing

-- the row of a recorded call
unfoldable pub row_of : ℕ → List Drawn → Range → Texts → Machine → ℕ → Event → Tree
row_of nodes steps range consoles asked row e =
    row_if nodes steps range (changed_by asked e.actor e.act) row e (title_of asked consoles e) (words_of asked consoles e)

-- recorded calls, asked one after another from a machine on

unfoldable pub messages_from : ℕ → List Drawn → Range → Machine → ℕ → List Event → Tree
messages_from nodes steps range asked row [] = Nothing
messages_from nodes steps range asked row (e ∷ events) =
    beside (message_of nodes steps range asked.state.remaining row e)
    (messages_from nodes steps range (after_act asked e.actor e.act) (row + 1) events)

unfoldable pub rows_from : ℕ → List Drawn → Range → Texts → Machine → ℕ → List Event → Tree
rows_from nodes steps range consoles asked row [] = Nothing
rows_from nodes steps range consoles asked row (e ∷ events) =
    beside (row_of nodes steps range consoles asked row e)
    (rows_from nodes steps range consoles (after_act asked e.actor e.act) (row + 1) events)

-- this many bytes, but no more than a line of a script may have
abbrev pub cut_length : ℕ → ℕ
cut_length bytes = if nat_lt longest_line bytes then longest_line else bytes

-- the greater of `longest` and these bytes, of which no more are counted than a line of a script may have
unfoldable pub with_length : ℕ → ℕ → ℕ
with_length longest bytes = if nat_lt longest (cut_length bytes) then cut_length bytes else longest

-- the most bytes so far, with the words of this row, if it is drawn
unfoldable pub with_words : Range → ℕ → List ℕ → ℕ → ℕ
with_words range row words longest = if is_drawn range row then with_length longest (length words) else longest

abbrev pub with_row : Range → Texts → Machine → ℕ → Event → ℕ → ℕ
with_row range consoles asked row e longest = with_words range row (words_of asked consoles e) longest

-- the most bytes that the words of a drawn row have, counted as `with_length` does, and at least `longest`
unfoldable pub longest_from : Range → Texts → Machine → ℕ → List Event → ℕ → ℕ
longest_from range consoles asked row [] longest = longest
longest_from range consoles asked row (e ∷ events) longest =
    longest_from range consoles (after_act asked e.actor e.act) (row + 1) events (with_row range consoles asked row e longest)
