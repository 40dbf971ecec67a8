-- The picture of a machine.
use Rattle.std.specs.Prelude.{ℕ, ◌+◌, ◌-◌, ◌*◌, ◌==◌, nat_le, nat_lt, if◌then◌else◌, Bool, false, true, List, [], ◌∷◌, ◌++◌, codes, decimal, length, Option, Some, None}
use Rattle.std.specs.List.{fold}
use Rattle.bench_core.specs.Machine.{Event, Machine, opening_machine}
use Rattle.bench_core.specs.NameList.{Texts}
use Rattle.bench_core.specs.declared.reply.Reply.{Reply}
use Rattle.bench_core.specs.declared.reply.Reply.TheVariants.{Taken, Undone, Refused}
use Rattle.report_core.specs.ActTexts.{after_act}
use Rattle.svg_core.specs.Trees.{Attribute, Tree, Nothing, beside, element, end_text, leaf, opening_text, text_of}
use Rattle.picture_core.specs.Online.{Asked, bar_path, with_call}
use Rattle.picture_core.specs.Plans.{across, wide}
use Rattle.picture_core.specs.Rows.{longest_from, messages_from, rows_from, with_length}
use Rattle.picture_core.specs.Shapes.{attribute, bar, lane, lane_name}
use Rattle.picture_core.specs.Shades.{drawn_steps}
use Rattle.picture_core.specs.declared.online.Switch.{Switch}
use Rattle.picture_core.specs.declared.range.Range.{Range}
use Rattle.picture_core.specs.declared.shade.Drawn.{Drawn}

-- how the classes look: what was taken back pale and struck, what is painted bold
unfoldable pub style_text : List ℕ
style_text =
    codes "text{font:12px monospace;fill:black;white-space:pre}" ++
    codes "path{fill:none;stroke:black;stroke-width:1.2px}" ++
    codes "circle{fill:black;stroke:black}" ++
    codes ".name,text.future{font-weight:bold}" ++
    codes ".number{text-anchor:end}" ++
    codes ".lane{stroke:#bbb}" ++
    codes ".bar{stroke:#ffdc73;stroke-width:9px}" ++
    codes ".message{stroke:#6d87a5}" ++
    codes "path.future{stroke-width:3px}" ++
    codes "circle.future{stroke-width:5px}" ++
    codes ".undone{opacity:.45;text-decoration:line-through;stroke-dasharray:4 3}" ++
    codes ".back{stroke-width:2px}" ++
    codes "text.back{fill:#555;stroke:none}" ++
    codes "circle.refused{fill:white;stroke:#c01818}" ++
    codes "text.refused{fill:#c01818}"

unfoldable pub style : Tree
style = leaf (codes "style") [] style_text

unfoldable pub ground : Tree
ground =
    leaf (codes "rect") (attribute (codes "width") (codes "100%") ∷ attribute (codes "height") (codes "100%") ∷
    attribute (codes "fill") (codes "white") ∷ []) []

unfoldable pub front : Tree
front = beside style ground

-- which rows are drawn

-- whether the call took a step of this number or a greater one; if `beyond`, of a greater one
abbrev pub is_from : Bool → ℕ → Reply → Bool
is_from false number (Taken step) = nat_le number step
is_from true number (Taken step) = nat_lt number step
is_from beyond number (Undone step) = false
is_from beyond number (Refused fault) = false

-- how many calls come before the first one that took a step with this number or a greater one; if `beyond`, with a greater one
unfoldable pub calls_before : Bool → ℕ → List Event → ℕ
calls_before beyond number [] = 0
calls_before beyond number (e ∷ events) = if is_from beyond number e.reply then 0 else 1 + calls_before beyond number events

abbrev pub first_row : List Event → Option ℕ → ℕ
first_row events None = 0
first_row events (Some from) = calls_before false from events

abbrev pub last_row : List Event → Option ℕ → ℕ
last_row events None = length events
last_row events (Some to) = calls_before true to events

-- the rows from that of the first step numbered `from` or above, to the one before that of the first step numbered above `to`; from the
-- first row on without `from`, to the last one without `to`
unfoldable pub range_of : List Event → Option ℕ → Option ℕ → Range
range_of events from to = record { first = first_row events from; last = last_row events to }

-- the nodes

abbrev pub longest_name : Texts → ℕ
longest_name names = fold (λ longest name. with_length longest (length name)) 0 names

-- how high the part is in which the names stand, above the lanes
unfoldable pub head_height : Texts → ℕ
head_height names = 20 + wide (longest_name names)

unfoldable pub names_from : ℕ → ℕ → ℕ → Texts → Tree
names_from nodes height n [] = Nothing
names_from nodes height n (name ∷ names) = beside (lane_name nodes n height name) (names_from nodes height (n + 1) names)

unfoldable pub lanes_from : Range → ℕ → ℕ → Texts → Tree
lanes_from range nodes n [] = Nothing
lanes_from range nodes n (name ∷ names) = beside (lane nodes n range.first range.last) (lanes_from range nodes (n + 1) names)

-- where nodes begin and end to list what is asked about
unfoldable pub switches_from : Option Asked → Machine → ℕ → List Event → List Switch → List Switch
switches_from asked m row [] switches = switches
switches_from asked m row (e ∷ events) switches =
    switches_from asked (after_act m e.actor e.act) (row + 1) events (with_call asked m row e switches)

abbrev pub is_of : Option ℕ → ℕ → Bool
is_of None node = true
is_of (Some n) node = n == node

-- the thick parts of a node's lane, if the node is asked about
abbrev pub bar_at : Option Asked → ℕ → ℕ → List Switch → ℕ → Tree
bar_at None nodes last switches node = Nothing
bar_at (Some asked) nodes last switches node = if is_of asked.node node then bar (bar_path nodes node last switches) else Nothing

unfoldable pub bars_from : Option Asked → ℕ → ℕ → List Switch → ℕ → Texts → Tree
bars_from asked nodes last switches n [] = Nothing
bars_from asked nodes last switches n (name ∷ names) =
    beside (bar_at asked nodes last switches n) (bars_from asked nodes last switches (n + 1) names)

-- the whole

-- the machine before its history
abbrev pub opened : Machine → Machine
opened m = opening_machine m.names m.limits

unfoldable pub messages : Machine → List Drawn → Range → Tree
messages m steps range = messages_from (length m.names) steps range (opened m) 0 m.state.history

unfoldable pub rows : Machine → List Drawn → Range → Texts → Tree
rows m steps range consoles = rows_from (length m.names) steps range consoles (opened m) 0 m.state.history

unfoldable pub switches : Machine → Option Asked → List Switch
switches m asked = switches_from asked (opened m) 0 m.state.history []

unfoldable pub longest : Machine → Range → Texts → ℕ
longest m range consoles = longest_from range consoles (opened m) 0 m.state.history 0

-- how wide the picture is: the words, which have at most this many bytes, begin where one more lane would be
unfoldable pub width : ℕ → ℕ → ℕ
width nodes bytes = across nodes nodes + wide bytes + 8

unfoldable pub height : Range → ℕ
height range = 20 * (range.last - range.first)

abbrev pub view_box : ℕ → ℕ → ℕ → List ℕ
view_box top width height = codes "0 " ++ decimal top ++ codes " " ++ decimal width ++ codes " " ++ decimal height

abbrev pub size_of : ℕ → ℕ → List ℕ → List Attribute
size_of width height seen =
    attribute (codes "xmlns") (codes "http://www.w3.org/2000/svg") ∷ attribute (codes "width") (decimal width) ∷
    attribute (codes "height") (decimal height) ∷ attribute (codes "viewBox") seen ∷ []

abbrev pub size : ℕ → ℕ → List Attribute
size width height = size_of width height (view_box 0 width height)

-- the part below the names, which shows the drawn rows and no others
abbrev pub part_of : ℕ → ℕ → ℕ → List ℕ → List Attribute
part_of top width height seen =
    attribute (codes "y") (decimal top) ∷ attribute (codes "width") (decimal width) ∷ attribute (codes "height") (decimal height) ∷
    attribute (codes "viewBox") seen ∷ []

abbrev pub part : ℕ → ℕ → ℕ → ℕ → List Attribute
part top first width height = part_of top width height (view_box (20 * first) width height)

-- the picture with these messages and rows
unfoldable pub drawing : Texts → Range → Option Asked → List Switch → ℕ → Tree → Tree → Tree
drawing names range asked switches bytes messages rows =
    element (codes "svg") (size (width (length names) bytes) (head_height names + height range))
    (beside front
    (beside (names_from (length names) (head_height names) 0 names)
    (element (codes "svg") (part (head_height names) range.first (width (length names) bytes) (height range))
    (beside (bars_from asked (length names) range.last switches 0 names)
    (beside (lanes_from range (length names) 0 names)
    (beside messages rows))))))

-- the text of `drawing`, with these texts in place of its messages and its rows
unfoldable pub text_around : Texts → Range → Option Asked → List Switch → ℕ → List ℕ → List ℕ → List ℕ
text_around names range asked switches bytes messages rows =
    opening_text (codes "svg") (size (width (length names) bytes) (head_height names + height range)) ++ text_of front ++
    text_of (names_from (length names) (head_height names) 0 names) ++
    opening_text (codes "svg") (part (head_height names) range.first (width (length names) bytes) (height range)) ++
    text_of (bars_from asked (length names) range.last switches 0 names) ++ text_of (lanes_from range (length names) 0 names) ++ messages ++
    rows ++ end_text (codes "svg") ++ end_text (codes "svg")

-- the whole picture: the names above; below them the thick parts of the lanes, the lanes over them, the messages over these, and
-- the rows
unfoldable pub picture : Machine → Texts → List ℕ → Range → Option Asked → Tree
picture m consoles painted range asked =
    drawing m.names range asked (switches m asked) (longest m range consoles) (messages m (drawn_steps m painted) range)
    (rows m (drawn_steps m painted) range consoles)
