-- The shapes that a picture is put together from.
use Rattle.std.specs.Prelude.{ℕ, ◌+◌, ◌-◌, ◌*◌, List, [], ◌∷◌, ◌++◌, codes, decimal}
use Rattle.svg_core.specs.Trees.{Attribute, Tree, beside, element, leaf}
use Rattle.picture_core.specs.Plans.{across, down, waits_at}
use Rattle.picture_core.specs.declared.kind.Kind.{Kind}
use Rattle.picture_core.specs.declared.kind.Kind.TheVariants as kinds
use Rattle.picture_core.specs.declared.shade.Shade.{Shade}
use Rattle.picture_core.specs.declared.shade.Shade.TheVariants.{Remains, Painted, Undone}

abbrev pub attribute : List ℕ → List ℕ → Attribute
attribute name value = record { name = name; value = value }

-- how a call that took a step looks, by the step's shade
abbrev pub kind_of : Shade → Kind
kind_of Remains = kinds.Step
kind_of Painted = kinds.Future
kind_of Undone = kinds.Undone

-- the class of a call's shapes, by how the call looks
abbrev pub class_of : Kind → List ℕ
class_of kinds.Step = codes "step"
class_of kinds.Future = codes "future"
class_of kinds.Undone = codes "undone"
class_of kinds.Back = codes "back"
class_of kinds.Refused = codes "refused"

-- the title, which a browser shows
unfoldable pub heading : List ℕ → Tree
heading title = leaf (codes "title") [] title

-- an element with a title
unfoldable pub titled : List ℕ → List Attribute → List ℕ → Tree
titled tag attributes title = element tag attributes (heading title)

-- a path of a class
abbrev pub path_of : List ℕ → List ℕ → Tree
path_of class path = leaf (codes "path") (attribute (codes "class") class ∷ attribute (codes "d") path ∷ []) []

-- a path of a class, with a title
abbrev pub titled_path : List ℕ → List ℕ → List ℕ → Tree
titled_path class path title = titled (codes "path") (attribute (codes "class") class ∷ attribute (codes "d") path ∷ []) title

-- how a text is turned that is written upwards from a place
unfoldable pub upwards : ℕ → ℕ → List ℕ
upwards right down = codes "translate(" ++ decimal right ++ codes " " ++ decimal down ++ codes ")rotate(-90)"

abbrev pub name_place : ℕ → ℕ → ℕ → List ℕ
name_place nodes node height = upwards (across nodes node + 4) (height - 8)

abbrev pub name_at : List ℕ → List ℕ → Tree
name_at place name = leaf (codes "text") (attribute (codes "class") (codes "name") ∷ attribute (codes "transform") place ∷ []) name

-- the name of a node, written upwards above its lane
unfoldable pub lane_name : ℕ → ℕ → ℕ → List ℕ → Tree
lane_name nodes node height name =
    name_at (name_place nodes node height) name

-- a line from one row to another
unfoldable pub lane_path : ℕ → ℕ → ℕ → ℕ → List ℕ
lane_path nodes node first last =
    codes "M" ++ decimal (across nodes node) ++ codes " " ++ decimal (20 * first) ++ codes "V" ++ decimal (20 * last)

unfoldable pub lane : ℕ → ℕ → ℕ → ℕ → Tree
lane nodes node first last =
    path_of (codes "lane") (lane_path nodes node first last)

-- a message: along the row of its send, down beside the lane of the node that takes it, and to the mark of the delivery
unfoldable pub path_between : ℕ × ℕ → ℕ → ℕ → ℕ × ℕ → List ℕ
path_between from beside above to =
    codes "M" ++ decimal from.0 ++ codes " " ++ decimal from.1 ++ codes "H" ++ decimal beside ++ codes "V" ++ decimal above ++
    codes "L" ++ decimal to.0 ++ codes " " ++ decimal to.1

abbrev pub message_path : ℕ → ℕ × ℕ → ℕ × ℕ → ℕ → List ℕ
message_path nodes from to source =
    path_between (across nodes from.1, down from.0) (waits_at nodes from.1 to.1 source) (down to.0 - 4) (across nodes to.1, down to.0)

-- `step N to step N`
unfoldable pub message_title : ℕ → ℕ → List ℕ
message_title source number = codes "step " ++ decimal source ++ codes " to step " ++ decimal number

abbrev pub message_class : Kind → List ℕ
message_class kind = codes "message " ++ class_of kind

-- a message from the row and the node of the step `source` to those of the step `number`
unfoldable pub message : ℕ → Kind → ℕ × ℕ → ℕ × ℕ → ℕ → ℕ → Tree
message nodes kind from to source number =
    titled_path (message_class kind) (message_path nodes from to source) (message_title source number)

-- a disc on a node's lane, in the middle of a row
unfoldable pub dot_sign : ℕ → ℕ → ℕ → Kind → List ℕ → Tree
dot_sign nodes node row kind title =
    titled (codes "circle")
    (attribute (codes "class") (class_of kind) ∷ attribute (codes "cx") (decimal (across nodes node)) ∷
    attribute (codes "cy") (decimal (down row)) ∷ attribute (codes "r") (codes "4") ∷ [])
    title

-- the path of a cross on a node's lane, in the middle of a row
unfoldable pub cross_path : ℕ → ℕ → ℕ → List ℕ
cross_path nodes node row = codes "M" ++ decimal (across nodes node - 4) ++ codes " " ++ decimal (down row - 4) ++ codes "l8 8m0 -8l-8 8"

unfoldable pub cross_sign : ℕ → ℕ → ℕ → List ℕ → Tree
cross_sign nodes node row title =
    titled_path (codes "back") (cross_path nodes node row) title

-- the mark of a call: a cross if it took a step back, else a disc
abbrev pub mark : ℕ → ℕ → ℕ → Kind → List ℕ → Tree
mark nodes node row kinds.Back title = cross_sign nodes node row title
mark nodes node row kind title = dot_sign nodes node row kind title

-- the number of a step, before its row
unfoldable pub number_label : ℕ → ℕ → Tree
number_label row number =
    leaf (codes "text") (attribute (codes "class") (codes "number") ∷ attribute (codes "x") (codes "50") ∷
    attribute (codes "y") (decimal (down row + 4)) ∷ []) (decimal number)

-- the words of a call, behind its row
unfoldable pub words_label : ℕ → ℕ → Kind → List ℕ → Tree
words_label nodes row kind words =
    leaf (codes "text") (attribute (codes "class") (class_of kind) ∷ attribute (codes "x") (decimal (across nodes nodes)) ∷
    attribute (codes "y") (decimal (down row + 4)) ∷ []) words

-- where a lane is thick
unfoldable pub bar : List ℕ → Tree
bar path = path_of (codes "bar") path
