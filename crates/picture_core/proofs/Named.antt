-- Tags and attributes of pictures have names.
use Rattle.std.proofs.Common.{◌≡◌, ℕ, ◌+◌, Bool, true, false, if◌then◌else◌, List, [], ◌∷◌, Option, Some, None, refl, length, codes}
use Rattle.node_core.specs.Operations.{delivers}
use Rattle.journal_core.specs.Journals.{Kept, sender_of}
use Rattle.bench_core.specs.Acts.{Action, Do, Undo, Back}
use Rattle.bench_core.specs.Machine.{Event, Machine}
use Rattle.bench_core.specs.NameList.{Texts}
use Rattle.bench_core.specs.declared.reply.Reply.{Reply}
use Rattle.bench_core.specs.declared.reply.Reply.TheVariants.{Taken, Undone, Refused}
use Rattle.report_core.specs.ActRows.{changed_by}
use Rattle.report_core.specs.ActTexts.{after_act}
use Rattle.svg_core.specs.Trees.{Tree, Nothing, element, is_named}
use Rattle.svg_core.proofs.Beside.{named_beside}
use Rattle.picture_core.specs.Online.{Asked, bar_path}
use Rattle.picture_core.specs.Pictures.{bar_at, bars_from, drawing, front, ground, head_height, height, is_of, lanes_from, messages, names_from, part, rows, size, style, width}
use Rattle.picture_core.specs.Rows.{is_drawn, is_seen, lane_of, looks, mark_at, message_between, message_by, message_of, message_of_act, message_of_reply, message_to, messages_from}
use Rattle.picture_core.specs.Rows.{number_by, row_if, row_of, row_told, row_tree, rows_from}
use Rattle.picture_core.specs.Shapes.{bar, cross_sign, dot_sign, heading, lane, lane_name, mark, message, number_label, titled, words_label}
use Rattle.picture_core.specs.Shades.{step_at}
use Rattle.picture_core.specs.Words.{title_of, words_of}
use Rattle.picture_core.specs.declared.kind.Kind.{Kind}
use Rattle.picture_core.specs.declared.kind.Kind.TheVariants as kinds
use Rattle.picture_core.specs.declared.online.Switch.{Switch}
use Rattle.picture_core.specs.declared.range.Range.{Range}
use Rattle.picture_core.specs.declared.shade.Drawn.{Drawn}

nothing_named : is_named Nothing ≡ true
unfolding is_named
nothing_named = refl

if_named : (b : Bool) (t : Tree) → is_named t ≡ true → is_named (if b then t else Nothing) ≡ true
if_named true t named = named
if_named false t named = nothing_named

lane_name_named : (nodes n height : ℕ) (name : List ℕ) → is_named (lane_name nodes n height name) ≡ true
unfolding is_named lane_name
lane_name_named nodes n height name = refl

lane_named : (nodes n first last : ℕ) → is_named (lane nodes n first last) ≡ true
unfolding is_named lane
lane_named nodes n first last = refl

bar_named : (path : List ℕ) → is_named (bar path) ≡ true
unfolding is_named bar
bar_named path = refl

message_named : (nodes : ℕ) (kind : Kind) (from to : ℕ × ℕ) (source number : ℕ) → is_named (message nodes kind from to source number) ≡ true
unfolding is_named message titled heading
message_named nodes kind from to source number = refl

dot_named : (nodes n row : ℕ) (kind : Kind) (title : List ℕ) → is_named (dot_sign nodes n row kind title) ≡ true
unfolding is_named dot_sign titled heading
dot_named nodes n row kind title = refl

cross_named : (nodes n row : ℕ) (title : List ℕ) → is_named (cross_sign nodes n row title) ≡ true
unfolding is_named cross_sign titled heading
cross_named nodes n row title = refl

mark_named : (nodes n row : ℕ) (kind : Kind) (title : List ℕ) → is_named (mark nodes n row kind title) ≡ true
mark_named nodes n row kinds.Back title = cross_named nodes n row title
mark_named nodes n row kinds.Step title = dot_named nodes n row kinds.Step title
mark_named nodes n row kinds.Future title = dot_named nodes n row kinds.Future title
mark_named nodes n row kinds.Undone title = dot_named nodes n row kinds.Undone title
mark_named nodes n row kinds.Refused title = dot_named nodes n row kinds.Refused title

mark_at_named : (nodes row : ℕ) (kind : Kind) (title : List ℕ) (o : Option ℕ) → is_named (mark_at nodes row kind title o) ≡ true
mark_at_named nodes row kind title None = nothing_named
mark_at_named nodes row kind title (Some n) = mark_named nodes n row kind title

label_named : (row number : ℕ) → is_named (number_label row number) ≡ true
unfolding is_named number_label
label_named row number = refl

number_named : (row : ℕ) (reply : Reply) → is_named (number_by row reply) ≡ true
number_named row (Taken number) = label_named row number
number_named row (Undone number) = nothing_named
number_named row (Refused fault) = nothing_named

words_named : (nodes row : ℕ) (kind : Kind) (words : List ℕ) → is_named (words_label nodes row kind words) ≡ true
unfolding is_named words_label
words_named nodes row kind words = refl

row_tree_named : (nodes : ℕ) (steps : List Drawn) (lane : Option ℕ) (row : ℕ) (reply : Reply) (title words : List ℕ) →
    is_named (row_tree nodes steps lane row reply title words) ≡ true
unfolding row_tree
row_tree_named nodes steps lane row reply title words =
    named_beside (number_by row reply) _ (number_named row reply)
    (named_beside (mark_at nodes row (looks steps reply) title lane) (words_label nodes row (looks steps reply) words)
    (mark_at_named nodes row (looks steps reply) title lane) (words_named nodes row (looks steps reply) words))

row_named : (nodes : ℕ) (steps : List Drawn) (range : Range) (consoles : Texts) (m : Machine) (row : ℕ) (e : Event) →
    is_named (row_of nodes steps range consoles m row e) ≡ true
unfolding row_of row_if row_told
row_named nodes steps range consoles m row e =
    if_named (is_drawn range row) _
    (row_tree_named nodes steps (lane_of nodes e.actor e.reply (changed_by m e.actor e.act)) row e.reply (title_of m consoles e) (words_of m consoles e))

rows_named : (nodes : ℕ) (steps : List Drawn) (range : Range) (consoles : Texts) (m : Machine) (row : ℕ) (events : List Event) →
    is_named (rows_from nodes steps range consoles m row events) ≡ true
unfolding rows_from
rows_named nodes steps range consoles m row [] = nothing_named
rows_named nodes steps range consoles m row (e ∷ events) =
    named_beside (row_of nodes steps range consoles m row e) _ (row_named nodes steps range consoles m row e)
    (rows_named nodes steps range consoles (after_act m e.actor e.act) (row + 1) events)

between_named : (nodes : ℕ) (steps : List Drawn) (range : Range) (row number n sender : ℕ) (o : Option ℕ) →
    is_named (message_between nodes steps range row number n sender o) ≡ true
between_named nodes steps range row number n sender None = nothing_named
between_named nodes steps range row number n sender (Some source) =
    if_named (is_seen range (step_at steps source).row row) _ (message_named nodes _ ((step_at steps source).row, sender) (row, n) source number)

by_named : (nodes : ℕ) (steps : List Drawn) (range : Range) (row number n : ℕ) (remaining : List Kept) (o : Option (ℕ × ℕ)) →
    is_named (message_by nodes steps range row number n remaining o) ≡ true
by_named nodes steps range row number n remaining None = nothing_named
by_named nodes steps range row number n remaining (Some m) = between_named nodes steps range row number n m.0 (sender_of remaining m.0 m.1)

act_named : (nodes : ℕ) (steps : List Drawn) (range : Range) (row number n : ℕ) (remaining : List Kept) (act : Action) →
    is_named (message_of_act nodes steps range row number n remaining act) ≡ true
unfolding message_to
act_named nodes steps range row number n remaining (Do operation) = by_named nodes steps range row number n remaining (delivers operation)
act_named nodes steps range row number n remaining (Undo other) = nothing_named
act_named nodes steps range row number n remaining (Back other) = nothing_named

reply_named : (nodes : ℕ) (steps : List Drawn) (range : Range) (row n : ℕ) (remaining : List Kept) (act : Action) (reply : Reply) →
    is_named (message_of_reply nodes steps range row n remaining act reply) ≡ true
reply_named nodes steps range row n remaining act (Taken number) = act_named nodes steps range row number n remaining act
reply_named nodes steps range row n remaining act (Undone number) = nothing_named
reply_named nodes steps range row n remaining act (Refused fault) = nothing_named

messages_named : (nodes : ℕ) (steps : List Drawn) (range : Range) (m : Machine) (row : ℕ) (events : List Event) →
    is_named (messages_from nodes steps range m row events) ≡ true
unfolding messages_from message_of
messages_named nodes steps range m row [] = nothing_named
messages_named nodes steps range m row (e ∷ events) =
    named_beside (message_of_reply nodes steps range row e.actor m.state.remaining e.act e.reply) _
    (reply_named nodes steps range row e.actor m.state.remaining e.act e.reply)
    (messages_named nodes steps range (after_act m e.actor e.act) (row + 1) events)

names_named : (nodes height n : ℕ) (names : Texts) → is_named (names_from nodes height n names) ≡ true
unfolding names_from
names_named nodes height n [] = nothing_named
names_named nodes height n (name ∷ names) =
    named_beside (lane_name nodes n height name) _ (lane_name_named nodes n height name) (names_named nodes height (n + 1) names)

lanes_named : (range : Range) (nodes n : ℕ) (names : Texts) → is_named (lanes_from range nodes n names) ≡ true
unfolding lanes_from
lanes_named range nodes n [] = nothing_named
lanes_named range nodes n (name ∷ names) =
    named_beside (lane nodes n range.first range.last) _ (lane_named nodes n range.first range.last) (lanes_named range nodes (n + 1) names)

bar_at_named : (asked : Option Asked) (nodes last : ℕ) (t : List Switch) (n : ℕ) → is_named (bar_at asked nodes last t n) ≡ true
bar_at_named None nodes last t n = nothing_named
bar_at_named (Some asked) nodes last t n = if_named (is_of asked.node n) _ (bar_named (bar_path nodes n last t))

bars_named : (asked : Option Asked) (nodes last : ℕ) (t : List Switch) (n : ℕ) (names : Texts) → is_named (bars_from asked nodes last t n names) ≡ true
unfolding bars_from
bars_named asked nodes last t n [] = nothing_named
bars_named asked nodes last t n (name ∷ names) =
    named_beside (bar_at asked nodes last t n) _ (bar_at_named asked nodes last t n) (bars_named asked nodes last t (n + 1) names)

front_named : is_named front ≡ true
unfolding is_named front style ground
front_named = refl

svg_named : (width height : ℕ) (t : Tree) → is_named t ≡ true → is_named (element (codes "svg") (size width height) t) ≡ true
unfolding is_named
svg_named width height t named = rw named refl

part_named : (top first width height : ℕ) (t : Tree) → is_named t ≡ true → is_named (element (codes "svg") (part top first width height) t) ≡ true
unfolding is_named
part_named top first width height t named = rw named refl

-- what a picture holds
pub drawing_named : (names : Texts) (range : Range) (asked : Option Asked) (t : List Switch) (bytes : ℕ) (messages rows : Tree) →
    is_named messages ≡ true → is_named rows ≡ true → is_named (drawing names range asked t bytes messages rows) ≡ true
unfolding drawing
drawing_named names range asked t bytes messages rows messages_are rows_are =
    svg_named _ _ _
    (named_beside front _ front_named
    (named_beside (names_from (length names) (head_height names) 0 names) _ (names_named (length names) (head_height names) 0 names)
    (part_named _ _ _ _ _
    (named_beside (bars_from asked (length names) range.last t 0 names) _ (bars_named asked (length names) range.last t 0 names)
    (named_beside (lanes_from range (length names) 0 names) _ (lanes_named range (length names) 0 names)
    (named_beside messages rows messages_are rows_are))))))

pub messages_are_named : (m : Machine) (steps : List Drawn) (range : Range) → is_named (messages m steps range) ≡ true
unfolding messages
messages_are_named m steps range = messages_named (length m.names) steps range _ 0 m.state.history

pub rows_are_named : (m : Machine) (steps : List Drawn) (range : Range) (consoles : Texts) → is_named (rows m steps range consoles) ≡ true
unfolding rows
rows_are_named m steps range consoles = rows_named (length m.names) steps range consoles _ 0 m.state.history
